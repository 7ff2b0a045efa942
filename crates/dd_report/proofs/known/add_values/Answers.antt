-- A value more went, or the writer failed in it.
use Rattle.std.proofs.Common.{◌∙◌, arith}
use Rattle.dd_set.specs.Views.{set_view}
use Rattle.dd_lines.proofs.GoingOn.{went_all, went_fails, went_more}
use Rattle.dd_report.proofs.RecordLines.{value_is, value_text, values_each}
use Rattle.dd_report.proofs.known.add_values.Goals as goal

pub returns-in_err-add_value-clause-written : goal.returns-in_err-add_value-clause-written
returns-in_err-add_value-clause-written g c =
    went_fails c.from_residual.result (value_text (set_view c.args.set.now)) c.args.wanted.now c.loop-tag.tag-index
    _ _ _ _ _ _ c.from_residual.ensures.0 c.loop-tag-test.true
    (value_is (set_view c.args.set.now) _ c.value_or_dash.result.now c.value_or_dash.ensures)
    (values_each (set_view c.args.set.now) c.args.wanted.now) c.loop-tag.invariant.went
    c.in_err-add_value.ensures.written

pub loop-tag-preserved : goal.loop-tag-preserved
loop-tag-preserved g c = record {
  same = c.in_ok-add_value.ensures.same ∙ c.loop-tag.invariant.same;
  went = went_more (value_text (set_view c.args.set.now)) c.args.wanted.now c.loop-tag.tag-index _ _ _ _ _
      c.loop-tag-test.true
      (value_is (set_view c.args.set.now) _ c.value_or_dash.result.now c.value_or_dash.ensures)
      c.loop-tag.invariant.went c.in_ok-add_value.ensures.written;
}

pub returns-clause-written : goal.returns-clause-written
returns-clause-written g c =
    went_all (value_text (set_view c.args.set.now)) c.args.wanted.now c.loop-tag.tag-index _ _ _ (omega arith)
    (values_each (set_view c.args.set.now) c.args.wanted.now) c.loop-tag.invariant.went
