-- A line more went, or the writer failed in it.
use Rattle.std.proofs.Common.{◌∙◌, ap, arith}
use Rattle.dd_lines.proofs.GoingOn.{went_all, went_fails, went_more}
use Rattle.dd_report.proofs.FoundLines.{found_each, record_text}
use Rattle.dd_report.proofs.file_set_listing.add_records.Goals as goal

pub returns-in_err-add_found_record-clause-written : goal.returns-in_err-add_found_record-clause-written
returns-in_err-add_found_record-clause-written g c =
    went_fails c.from_residual.result record_text c.args.records.now c.loop-record.record-index c.record-item.result _ _
    _ _ _ c.from_residual.ensures.0 c.loop-record-test.true (ap record_text c.record-item.is)
    (found_each c.args.records.now) c.loop-record.invariant.went c.in_err-add_found_record.ensures.written

pub loop-record-preserved : goal.loop-record-preserved
loop-record-preserved g c = record {
  same = c.in_ok-add_found_record.ensures.same ∙ c.loop-record.invariant.same;
  went = went_more record_text c.args.records.now c.loop-record.record-index c.record-item.result _ _ _ _
      c.loop-record-test.true (ap record_text c.record-item.is) c.loop-record.invariant.went
      c.in_ok-add_found_record.ensures.written;
}

pub returns-clause-written : goal.returns-clause-written
returns-clause-written g c =
    went_all record_text c.args.records.now c.loop-record.record-index _ _ _ (omega arith)
    (found_each c.args.records.now) c.loop-record.invariant.went
