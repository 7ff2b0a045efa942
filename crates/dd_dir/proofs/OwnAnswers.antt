-- Answers to a walk: what names its withdrawn UIDs is checked first, and no record fails by that check.
use Rattle.std.proofs.Common.{◌≡◌, ◌⊎◌, inl, inr, ℕ, Bool, true, false, not, List, Option, Some, None, Result, Ok, Err}
use Rattle.std.proofs.Common.{if◌then◌else◌, map, option_map, Vec}
use Rattle.std.specs.declared.alloc.Global.{Global}
use Rattle.dd_records.specs.declared.level.Level.{Level}
use Rattle.dd_records.specs.declared.table.Row.{Row}
use Rattle.std.specs.Prelude.{find}
use Rattle.dd_records.specs.Tables.{table_of}
use Rattle.dd_dir.specs.declared.listed_images.Listed.{Listed as ListedValue}
use Rattle.dd_dir.specs.declared.own_fault.OwnFault.{OwnFault}
use Rattle.dd_dir.specs.declared.own_fault.OwnFault.TheVariants as faults
use Rattle.dd_dir.specs.Own.{Above, Listed, below, fault_at, followed, is_bad, is_own, key_fault, lacks_digest}
use Rattle.dd_dir.specs.Own.{level_in, listed_at, listed_in, root, unless}
use Rattle.dd_dir.specs.OwnVersions.{AnswersWalk, ListsSome}
use Rattle.dd_dir.specs.OwnViews.{AnswersRecords, listed_view}
use Rattle.dd_walk.specs.Trees.{Node, Trees, Walk, no_trees, tree}
use Rattle.dd_dir.specs.Withdrawn.{AreRisingUids}
use Rattle.dd_walk.specs.WithdrawnPieces.{withdrawn_of}

-- ---- the checks of records

key_not : (at : ℕ) (o : Option Row)
    → option_map (λ (row : Row). faults.RecordKey at row.tag) o ≡ Some faults.BadWithdrawal → ⊥
key_not at None e = absurd cc
key_not at (Some row) e = absurd cc

checks_not : (at : ℕ) (other lacks : Bool) (key : Option OwnFault) → (key ≡ Some faults.BadWithdrawal → ⊥)
    → (if other then Some (faults.ForeignRecord at) else (if lacks then Some (faults.NoDigest at) else key))
    ≡ Some faults.BadWithdrawal → ⊥
checks_not at true lacks key never e = absurd cc
checks_not at false true key never e = absurd cc
checks_not at false false key never e = never e

fault_not : (level : Option Level) (node : Node) → fault_at level node ≡ Some faults.BadWithdrawal → ⊥
fault_not None node e = absurd cc
fault_not (Some level) node e =
    checks_not node.at (not (is_own level node)) (lacks_digest level node.set) (key_fault node.at level node.set)
    (key_not node.at (find (is_bad node.set) (table_of level))) e

unless_fault : (o : Option OwnFault) (images : List Listed) (fault : OwnFault) → unless o images ≡ Err fault
    → o ≡ Some fault
unless_fault None images fault e = absurd cc
unless_fault (Some other) images fault e = cc

followed_fault : (a b : Result (List Listed) OwnFault) (fault : OwnFault) → followed a b ≡ Err fault
    → (a ≡ Err fault) ⊎ (b ≡ Err fault)
followed_fault (Err other) b fault e = inl e
followed_fault (Ok xs) (Err other) fault e = inr e
followed_fault (Ok xs) (Ok ys) fault e = absurd cc

pub records_not : (above : Above) (trees : Trees) → listed_in above trees ≡ Err faults.BadWithdrawal → ⊥
records_not above no_trees e = absurd cc
records_not above (tree node lower after) e =
    let own = unless (fault_at (level_in above) node) (listed_at above node.set) in
    let under = listed_in (below above node.set) lower in
    elim (followed_fault (followed own under) (listed_in above after) faults.BadWithdrawal e) [
      | inl first ↦ elim (followed_fault own under faults.BadWithdrawal first) [
        | inl here ↦ fault_not (level_in above) node
            (unless_fault (fault_at (level_in above) node) (listed_at above node.set) faults.BadWithdrawal here)
        | inr down ↦ records_not (below above node.set) lower down
      ]
      | inr later ↦ records_not above after later
    ]

-- ---- answers

module _ {B : Type 0} (walk : Walk) (IsWanted : Type 0) (IsAnswer : List Listed → B → Type 0) where
  -- the value that names the withdrawn UIDs is bad
  pub answers_bad : (fault : OwnFault) → (fault ≡ faults.BadWithdrawal) × (AreRisingUids (withdrawn_of walk) → ⊥)
      → AnswersWalk walk IsWanted IsAnswer (Err fault)
  answers_bad faults.BadWithdrawal h = h.1
  answers_bad (faults.NoDigest at) h = absurd cc
  answers_bad (faults.ForeignRecord at) h = absurd cc
  answers_bad (faults.RecordKey at tag) h = absurd cc
  answers_bad faults.Memory h = absurd cc

  -- a record fails, or memory ran out while they were gone over
  pub answers_fault : (fault : OwnFault) → AreRisingUids (withdrawn_of walk) → (ListsSome walk → IsWanted)
      → AnswersRecords walk (λ images (found : Vec ListedValue Global). map listed_view found.items ≡ images)
      (Err fault)
      → AnswersWalk walk IsWanted IsAnswer (Err fault)
  answers_fault faults.BadWithdrawal up wanted h = absurd (records_not root walk.trees h)
  answers_fault (faults.NoDigest at) up wanted h = (up, h)
  answers_fault (faults.ForeignRecord at) up wanted h = (up, h)
  answers_fault (faults.RecordKey at tag) up wanted h = (up, h)
  answers_fault faults.Memory up wanted h = (up, wanted h)
