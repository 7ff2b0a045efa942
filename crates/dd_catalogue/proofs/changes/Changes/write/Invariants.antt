use Rattle.std.proofs.Common.{◌≡◌, length}
use Rattle.dd_catalogue.specs.Changes.{with_changes}
use Rattle.dd_catalogue.proofs.changes.Changes.write.Given as goal

abbrev pub invariant-loop-index : goal.invariant-loop-index
invariant-loop-index l = with_changes l.changes.items l.versions.items ≡ with_changes l.fn.self l.fn.versions.items

abbrev pub decreases-loop-index : goal.decreases-loop-index
decreases-loop-index l = length l.changes.items
