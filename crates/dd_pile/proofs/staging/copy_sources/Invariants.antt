-- The copies of the sources so far stand, and what is known of the next files is so of the sources that are left.
use Rattle.std.proofs.Common.{◌≡◌, drop, false, length, map, take}
use Rattle.std.specs.List.{AllByRecursion}
use Rattle.dd_staged.specs.Refusals.{sources_view}
use Rattle.dd_staged.specs.Sources.{IsListed}
use Rattle.dd_files.proofs.AddedWhole.{AddsWhole}
use Rattle.dd_files.specs.Keeping.{IfSaid}
use Rattle.dd_files.specs.Reasons.{HasCounted, HasFailedReader}
use Rattle.dd_filing.specs.Ahead.{AreDue}
use Rattle.dd_pile.specs.Paths.{IsCopyOfPile}
use Rattle.dd_pile.specs.Piles.{CopiesStand, HasCopy, HaveNames}
use Rattle.dd_pile.specs.ReadingAhead.{KnowsNext}
use Rattle.dd_pile.proofs.staging.copy_sources.Given as goal

abbrev pub invariant-loop-at : goal.invariant-loop-at
invariant-loop-at g l = record {
  count : length l.list.items ≡ l.at;
  stand : IfSaid (CopiesStand l.pile l.sources (sources_view l.list)) (g.F.Files.held l.fn.files)
      (g.F.Files.held l.files);
  whole : IfSaid (AddsWhole (IsCopyOfPile l.pile)) (g.F.Files.held l.fn.files) (g.F.Files.held l.files);
  names : map (λ listed. listed.name) (sources_view l.list) ≡ map (λ source. source.name.now) (take l.at l.sources);
  listed : AllByRecursion IsListed (sources_view l.list);
  all : l.keeps_going ≡ false → HaveNames l.sources → AllByRecursion HasCopy (sources_view l.list);
  known : KnowsNext (drop l.at l.sources) l.ahead (g.F.Files.held l.files);
  due : AreDue (HasCounted (g.F.Files.refusals l.files)) (HasFailedReader g.F.In.Read) l.ahead;
}
