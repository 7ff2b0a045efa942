-- A value more went, or the writer failed in it.
use Rattle.std.proofs.Common.{◌∙◌, ◌∷◌, [], ap}
use Rattle.dd_dicom_json.proofs.Leaving.{leaves_ends, leaves_fails, leaves_next}
use Rattle.dd_dicom_json.proofs.ListTexts.{left, value_first, values_end}
use Rattle.dd_dicom_json.proofs.texts.add_parted.Goals as goal

pub returns-in_err-add_value-clause-written : goal.returns-in_err-add_value-clause-written
returns-in_err-add_value-clause-written g c =
    leaves_fails c.from_residual.result _ _ _ _ _ _ _ c.from_residual.ensures.0
    (value_first c.args.form c.args.set c.loop-rest.later (left c.args.form c.loop-rest.rest)
    c.first_value.result.0.now (left c.args.form c.first_value.result.1)
    (ap (left c.args.form) c.in-Some.is ∙ c.first_value.ensures))
    c.loop-rest.invariant.went c.in_err-add_value.ensures.written

pub loop-rest-preserved : goal.loop-rest-preserved
loop-rest-preserved g c = record {
  same = c.in_ok-add_value.ensures.same ∙ c.loop-rest.invariant.same;
  went = leaves_next _ _ _ _ _ _ _
      (value_first c.args.form c.args.set c.loop-rest.later (left c.args.form c.loop-rest.rest)
      c.first_value.result.0.now (left c.args.form c.first_value.result.1)
      (ap (left c.args.form) c.in-Some.is ∙ c.first_value.ensures))
      c.loop-rest.invariant.went c.in_ok-add_value.ensures.written;
}

pub returns-clause-written : goal.returns-clause-written
returns-clause-written g c =
    leaves_ends c.add_raw.result _ _ (93 ∷ []) _ _ _
    (values_end c.args.form c.args.set c.loop-rest.later c.loop-rest.rest c.in_default.is)
    c.loop-rest.invariant.went c.add_raw.ensures.written
