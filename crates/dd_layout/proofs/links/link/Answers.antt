use Rattle.std.proofs.Common.{ap, ◌∙◌}
use Rattle.dd_layout.proofs.LinkPass.{linked}
use Rattle.dd_layout.proofs.LinkTurns.{rows_at_first, later_at_first, rows_more, later_more, rows_at_last}
use Rattle.dd_layout.proofs.LinksAlong.{links_are_known}
use Rattle.dd_layout.proofs.links.link.Goals as goal

pub loop-i-init : goal.loop-i-init
loop-i-init c = record {
  rows = rows_at_first c.args.records.now;
  later = later_at_first c.args.records.now;
}

pub loop-i-preserved : goal.loop-i-preserved
loop-i-preserved c = record {
  rows = rows_more c.loop-i.i c.args.records.now c.loop-i.records c.index-records-i.result c.loop-i.later
      c.next-record.result c.first_below-record.result c.loop-i-test.true c.loop-i.auto.i c.loop-i.invariant.rows
      c.loop-i.invariant.later c.next-record.ensures c.first_below-record.ensures;
  later = c.before-later.ensures
      ∙ later_more c.loop-i.i c.args.records.now c.loop-i.records c.index-records-i.result c.loop-i.later
      c.loop-i-test.true c.loop-i.auto.i c.loop-i.invariant.rows c.loop-i.invariant.later;
}

pub returns : goal.returns
returns c = λ label versions is.
    rows_at_last c.loop-i.i c.args.records.now c.loop-i.records c.loop-i-test.false c.loop-i.invariant.rows
    ∙ ap linked is ∙ links_are_known label versions
