use Rattle.std.proofs.Common.{◌≡◌, List, length, map, take}
use Rattle.dd_engine.specs.Merging.{AreOwn, SetListing}
use Rattle.dd_engine.specs.MergeSteps.{GathersOf}
use Rattle.dd_engine.proofs.gathering.gather_sets.Given as goal

-- what is gathered so far is what the sets so far list
abbrev pub invariant-loop-at : goal.invariant-loop-at
invariant-loop-at l = record {
  listings : List SetListing;
  many : length listings ≡ l.at;
  own : AreOwn (take l.at (map (λ set. set.now) l.sets)) listings;
  held : GathersOf l.given listings l.gathered;
}
