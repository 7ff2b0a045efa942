-- What is noted beside a plan: which files are left out, since other bytes are kept of their instance, and which files
-- have two versions that conflict.
use Rattle.std.specs.Prelude.{◌≡◌, ◌<◌, Bool, false, not, ℕ, List, All, map, filter, find, Option, None, Some, IfSome}
use Rattle.std.specs.Prelude.{IsSome, option_map}
use Rattle.std.specs.Ordering.{is_eq}
use Rattle.dd_catalogue.specs.Conflicts.{same}
use Rattle.dd_catalogue.specs.Versions.{kept}
use Rattle.dd_version.specs.Orders.{parts_cmp}
use Rattle.dd_version.specs.declared.parts.Parts.{Parts}
use Rattle.dd_layout.specs.declared.fault.PlanFault.{PlanFault}
use Rattle.dd_layout.specs.declared.fault.PlanFault.TheVariants.{Conflict, TooMany, TooLarge, Memory}
use Rattle.dd_engine.specs.declared.notes.ConflictingFiles.{ConflictingFiles}
use Rattle.dd_engine.specs.declared.notes.LeftOut.{LeftOut}
use Rattle.dd_engine.specs.Picking.{FileKey, files_of, found_by}

-- ---- files that are left out

-- the kept version has other bytes than this one: their digests differ
abbrev pub is_other : Option Parts → Parts → Bool
is_other None version = false
is_other (Some one) version = not (same one.digest version.digest)

-- where a version is, where the first file of the kept version of its instance is, and the SOP Instance UID of both
abbrev pub LeftAs : Type 0 → Type 0
LeftAs T = T × Option T × List ℕ

abbrev pub left_as : {T : Type 0} → List (T × FileKey) → List Parts → T × Parts → LeftAs T
left_as files m version = (version.0, found_by files (kept m version.1.instance), version.1.instance)

-- the versions of whose instance m keeps other bytes, in the order in which they came
abbrev pub left_out : {T : Type 0} → List Parts → List (T × Parts) → List (LeftAs T)
left_out m versions = map (left_as (files_of versions) m)
    (filter (λ version. is_other (kept m version.1.instance) version.1) versions)

-- the notes name the files that are left out, in this order
abbrev pub AreLeftOut : {T U : Type 0} → (T → U) → List Parts → List (U × Parts) → List (LeftOut T) → Type 0
AreLeftOut place m versions notes =
    map (λ note. (place note.file, Some (place note.kept), note.instance)) notes ≡ left_out m versions

-- ---- the places of two versions that conflict

-- the place of the first of these versions that equals this one
abbrev pub first_of : {T : Type 0} → List (T × Parts) → Parts → Option T
first_of versions version = option_map (λ held. held.0) (find (λ held. is_eq (parts_cmp held.1 version)) versions)

abbrev pub first_by : {T : Type 0} → List (T × Parts) → Option Parts → Option T
first_by versions None = None
first_by versions (Some version) = first_of versions version

abbrev pub both : {T : Type 0} → Option T → Option T → Option (T × T)
both None other = None
both (Some one) None = None
both (Some one) (Some other) = Some (one, other)

-- where the fault names two versions that m keeps, the first place of each among the versions as they came
abbrev pub conflict_of : {T : Type 0} → List Parts → List (T × Parts) → PlanFault → Option (T × T)
conflict_of m versions (Conflict one other) = both (first_by versions (kept m one)) (first_by versions (kept m other))
conflict_of m versions (TooMany level) = None
conflict_of m versions TooLarge = None
conflict_of m versions Memory = None

-- the note has the first places of the two versions; where the fault does not name two versions that m keeps, there is
-- no note
abbrev pub IsConflictOf : {T U : Type 0} → (T → U) → List Parts → List (U × Parts) → PlanFault
    → Option (ConflictingFiles T) → Type 0
IsConflictOf place m versions fault conflict =
    option_map (λ conflict. (place conflict.one, place conflict.other)) conflict ≡ conflict_of m versions fault

-- where the refusal of a plan names two versions, there is a note
abbrev pub IsFound : {T : Type 0} → PlanFault → Option (ConflictingFiles T) → Type 0
IsFound (Conflict one other) conflict = IsSome conflict
IsFound (TooMany level) conflict = Unit {0}
IsFound TooLarge conflict = Unit {0}
IsFound Memory conflict = Unit {0}

-- ---- numbers of sources or sets

-- the number of each source or set that the notes name is below the count
abbrev pub AreBelow : {T : Type 0} → (T → ℕ) → ℕ → List (LeftOut T) → Type 0
AreBelow number count notes = All (λ note. (number note.file < count) × (number note.kept < count)) notes

abbrev pub IsBelow : {T : Type 0} → (T → ℕ) → ℕ → Option (ConflictingFiles T) → Type 0
IsBelow number count conflict =
    IfSome conflict (λ conflict. (number conflict.one < count) × (number conflict.other < count))
