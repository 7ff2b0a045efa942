-- The sources so far are counted.
use Rattle.std.proofs.Common.{◌≡◌, ◌<◌, ◌^◌, length, map, take}
use Rattle.dd_staged.specs.Sources.{source_view}
use Rattle.dd_pile.proofs.Counted.{Counts}
use Rattle.dd_pile.proofs.sum.StageSum.of.Given as goal

abbrev pub invariant-loop-staged : goal.invariant-loop-staged
invariant-loop-staged l = record {
  sources : l.sum.sources ≡ length l.list;
  few : l.sum.sources < 2 ^ 64;
  counts : Counts (map source_view (take l.staged-index l.list)) l.sum.skipped l.sum.unread l.sum.bytes;
}
