-- A call that answers the walk of bytes, or why they have none, answers all that there is.
use Rattle.std.proofs.Common.{◌≡◌, ◌⊎◌, inl, inr, List, ℕ, Result, Ok, Err, IfOk, IfErr, IsErrAnd, MatchResult}
use Rattle.dd_walk.specs.declared.fault.DirFault.{DirFault}
use Rattle.dd_walk.specs.declared.forest.Forest.{Forest}
use Rattle.dd_walk.specs.ForestViews.{walk_view}
use Rattle.dd_walk.specs.ReadAnswers.{SaysMemory}
use Rattle.dd_walk.specs.Reading.{IsWalk, Refuses}
use Rattle.dd_walk.specs.Trees.{Walk}
use Rattle.dd_walk.proofs.WalkFiles.{one_walk, walk_or_not, one_refusal}

pub only_walk : (file : List ℕ) (result : Result Forest DirFault) (walk : Walk) → IsWalk file walk
    → IfOk result (λ (f : Forest). IsWalk file (walk_view f))
    → IfErr result (λ (e : DirFault). SaysMemory e ⊎ Refuses file e)
    → MatchResult result (λ (f : Forest). walk_view f ≡ walk) SaysMemory
only_walk file (Ok f) walk is found refused = one_walk file walk (walk_view f) is found
only_walk file (Err e) walk is found (inl want) = want
only_walk file (Err e) walk is found (inr refuses) = absurd (walk_or_not file walk e is refuses)

pub only_fault : (file : List ℕ) (result : Result Forest DirFault) (fault : DirFault) → Refuses file fault
    → IfOk result (λ (f : Forest). IsWalk file (walk_view f))
    → IfErr result (λ (e : DirFault). SaysMemory e ⊎ Refuses file e)
    → IsErrAnd result (λ (other : DirFault). SaysMemory other ⊎ (other ≡ fault))
only_fault file (Ok f) fault refuses found refused = absurd (walk_or_not file (walk_view f) fault found refuses)
only_fault file (Err e) fault refuses found (inl want) = inl want
only_fault file (Err e) fault refuses found (inr other) = inr (one_refusal file fault e refuses other)
