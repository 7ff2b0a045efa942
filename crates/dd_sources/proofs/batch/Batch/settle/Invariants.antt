use Rattle.std.proofs.Common.{◌≡◌, ◌++◌, take, drop, length}
use Rattle.dd_sources.proofs.Settling.{with_digests}
use Rattle.dd_sources.proofs.batch.Batch.settle.Given as goal

-- the first open versions have their digests
abbrev pub invariant-loop-at : goal.invariant-loop-at
invariant-loop-at l = record {
  same : length l.versions.items ≡ length l.fn.versions.items;
  digests : l.versions.items ≡ take l.first l.fn.versions.items
      ++ with_digests (drop l.first l.fn.versions.items) (take l.at l.digests);
}
