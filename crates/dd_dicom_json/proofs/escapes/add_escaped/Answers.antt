-- A byte more went, or the writer failed in it.
use Rattle.std.proofs.Common.{◌∙◌, arith, refl}
use Rattle.json.specs.Print.{escape, escape_byte}
use Rattle.dd_lines.proofs.GoingOn.{went_all, went_fails, went_more}
use Rattle.dd_dicom_json.proofs.escapes.add_escaped.Goals as goal

pub returns-in_err-add_byte-clause-written : goal.returns-in_err-add_byte-clause-written
returns-in_err-add_byte-clause-written g c =
    went_fails c.from_residual.result escape_byte c.args.bytes.now c.loop-byte.byte-index _ _
    (escape c.args.bytes.now) _ _ _ c.from_residual.ensures.0 c.loop-byte-test.true refl refl
    c.loop-byte.invariant.went c.in_err-add_byte.ensures.written

pub loop-byte-preserved : goal.loop-byte-preserved
loop-byte-preserved g c = record {
  same = c.in_ok-add_byte.ensures.same ∙ c.loop-byte.invariant.same;
  went = went_more escape_byte c.args.bytes.now c.loop-byte.byte-index _ _ _ _ _ c.loop-byte-test.true refl
      c.loop-byte.invariant.went c.in_ok-add_byte.ensures.written;
}

pub returns-clause-written : goal.returns-clause-written
returns-clause-written g c =
    went_all escape_byte c.args.bytes.now c.loop-byte.byte-index (escape c.args.bytes.now) _ _ (omega arith) refl
    c.loop-byte.invariant.went
