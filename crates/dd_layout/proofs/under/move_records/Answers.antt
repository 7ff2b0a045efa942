use Rattle.dd_layout.proofs.Moved.{move_more}
use Rattle.dd_layout.proofs.under.move_records.Goals as goal

pub loop-record-preserved : goal.loop-record-preserved
loop-record-preserved c = record {
  rows = move_more c.args.from c.args.to c.args.records.now c.loop-record.records c.loop-record.record-index
      c.record-item.result c.moved_offset-record.result c.moved_offset-record-in-loop-record.result
      c.moved_offset-record-in-loop-record-2.result c.loop-record-test.true c.loop-record.invariant.rows
      c.record-item.is c.moved_offset-record.ensures c.moved_offset-record-in-loop-record.ensures
      c.moved_offset-record-in-loop-record-2.ensures;
}
