-- What the steps of a merge answer.
use Rattle.std.specs.Prelude.{◌≡◌, ◌++◌, ℕ, suc, List, [], ◌∷◌, length, map, drop, Option, None, Some, Result, Ok, Err}
use Rattle.dd_dir.specs.declared.own_fault.OwnFault.{OwnFault}
use Rattle.dd_dir.specs.declared.own_fault.OwnFault.TheVariants as owns
use Rattle.dd_dir.specs.Own.{Listed}
use Rattle.dd_walk.specs.Reading.{Refuses}
use Rattle.dd_version.specs.declared.parts.Parts.{Parts}
use Rattle.dd_layout.specs.Limits.{Limits}
use Rattle.dd_layout.specs.declared.fault.PlanFault.{PlanFault}
use Rattle.dd_layout.specs.declared.fault.PlanFault.TheVariants as plans
use Rattle.dd_engine.specs.declared.choice.Choice.{Choice}
use Rattle.dd_engine.specs.declared.gathering.Gathered.{Gathered}
use Rattle.dd_engine.specs.declared.merge.Merged.{Merged}
use Rattle.dd_engine.specs.declared.merge.Pick.{Pick}
use Rattle.dd_engine.specs.declared.merge_fault.MergeFault.{MergeFault}
use Rattle.dd_engine.specs.declared.merge_fault.MergeFault.TheVariants.{Dir, Own, Plan, Memory}
use Rattle.dd_engine.specs.Choosing.{refusal_for}
use Rattle.dd_engine.specs.Merging.{AreOwn, IsForeign, IsGiven, IsMerged, IsOwn, RefusesSets, SetListing, held_in}
use Rattle.dd_engine.specs.Merging.{numbered, pick_view, place_pick, places_in, versions_in}

-- ---- faults as faults of a merge, which has one Memory for all

abbrev pub plan_fault : PlanFault → MergeFault
plan_fault plans.Memory = Memory
plan_fault (plans.Conflict one other) = Plan (plans.Conflict one other)
plan_fault (plans.TooMany level) = Plan (plans.TooMany level)
plan_fault plans.TooLarge = Plan plans.TooLarge

abbrev pub own_fault : ℕ → OwnFault → MergeFault
own_fault at owns.Memory = Memory
own_fault at (owns.NoDigest place) = Own at (owns.NoDigest place)
own_fault at (owns.ForeignRecord place) = Own at (owns.ForeignRecord place)
own_fault at (owns.RecordKey place tag) = Own at (owns.RecordKey place tag)
own_fault at owns.BadWithdrawal = Own at owns.BadWithdrawal

-- ---- one set

-- the set, which has this number, fails so
abbrev pub FailsAt : ℕ → List ℕ → MergeFault → Type 0
FailsAt at set (Dir n fault) = (n ≡ at) × Refuses set fault
FailsAt at set (Own n fault) = (n ≡ at) × IsForeign set fault
FailsAt at set (Plan fault) = ⊥
FailsAt at set Memory = Unit {0}

-- it lists something, of which this is given, or it fails
abbrev pub AnswersSet : {A : Type 0} → (SetListing → A → Type 0) → ℕ → List ℕ → Result A MergeFault → Type 0
AnswersSet Gives at set (Ok given) = (listing : SetListing) × IsOwn set listing × Gives listing given
AnswersSet Gives at set (Err fault) = FailsAt at set fault

-- ---- all sets

-- these are the versions of the images, and where their files are
pub record ArePlaced (images : List (ℕ × Listed)) (all : List Parts) (files : List Pick) : Type 0 where
  pub versions : all ≡ versions_in images
  pub origins : map (λ pick. pick_view pick) files ≡ map (λ place. place_pick place) (places_in images)

-- a UID that is withdrawn, and the number of the set that withdraws it: None for a given one
abbrev pub Withdrawal : Type 0
Withdrawal = Option ℕ × List ℕ

-- the withdrawals of the sets in a row; the first set has this number
abbrev pub withdrawals_from : ℕ → List SetListing → List Withdrawal
withdrawals_from at [] = []
withdrawals_from at (listing ∷ more) =
    map (λ uid. (Some at, uid)) listing.withdrawn ++ withdrawals_from (suc at) more

-- the given ones, and then the withdrawals of all sets
abbrev pub withdrawals_in : List (List ℕ) → List SetListing → List Withdrawal
withdrawals_in given listings = map (λ uid. (None, uid)) given ++ withdrawals_from 0 listings

-- What was gathered is of these images, their versions and where the files are. It is also of these UIDs that are
-- withdrawn, and of sets with these counts of records that are not reached.
pub record Gathers (images : List (ℕ × Listed)) (uids : List Withdrawal) (counts : List ℕ) (gathered : Gathered)
    : Type 0 where
  pub versions : gathered.versions.items ≡ versions_in images
  pub origins : map (λ pick. pick_view pick) gathered.origins.items ≡ map (λ place. place_pick place) (places_in images)
  pub withdrawn : gathered.withdrawn.items ≡ map (λ uid. uid.1) uids
  pub by : gathered.by.items ≡ map (λ uid. uid.0) uids
  pub unreached : gathered.unreached.items ≡ counts

-- it is of all that the sets list, and of these withdrawn UIDs
abbrev pub GathersOf : List (List ℕ) → List SetListing → Gathered → Type 0
GathersOf given listings gathered = Gathers (numbered 0 listings) (withdrawals_in given listings)
    (map (λ listing. listing.unreached) listings) gathered

-- the SOP Instance UIDs of the images, and the UIDs that the sets withdraw, which come after the given ones
abbrev pub known_in : Gathered → List (List ℕ) → List (List ℕ)
known_in gathered given =
    map (λ version. version.instance) gathered.versions.items ++ drop (length given) gathered.withdrawn.items

-- what was gathered of all sets, or why they are refused
abbrev pub GathersAll : List (List ℕ) → List (List ℕ) → Result Gathered MergeFault → Type 0
GathersAll given sets (Ok gathered) = (listings : List SetListing)
    × AreOwn sets listings × GathersOf given listings gathered
GathersAll given sets (Err fault) = RefusesSets given sets fault

-- the answer where the sets list this and these UIDs are withdrawn as well
abbrev pub MergesAs : Choice → Limits → List (List ℕ) → List SetListing → Result Merged MergeFault → Type 0
MergesAs choice limits given listings (Ok merged) = IsMerged choice limits given listings merged
MergesAs choice limits given listings (Err (Plan fault)) =
    let h = held_in given listings in refusal_for choice limits h.versions h.withdrawn ≡ Some fault
MergesAs choice limits given listings (Err Memory) = IsGiven given listings
MergesAs choice limits given listings (Err (Dir at fault)) = ⊥
MergesAs choice limits given listings (Err (Own at fault)) = ⊥
