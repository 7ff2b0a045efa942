-- The records that one walk along the versions gives, in the order of their paths. A version adds the records on its
-- path that the version before it does not have on its own. All versions below a record follow one another here, and the
-- record names the one with the least index.
use Rattle.std.specs.Prelude.{◌≡◌, ℕ, suc, false, List, [], ◌∷◌, ◌++◌, map, Option, None, Some, if◌then◌else◌, nat_lt}
use Rattle.std.specs.List.{AllByRecursion}
use Rattle.std.specs.Ordering.{is_eq}
use Rattle.dd_elem.specs.Ordered.{bytes_cmp}
use Rattle.dd_version.specs.declared.parts.Parts.{Parts}
use Rattle.dd_records.specs.declared.level.Level.{Level}
use Rattle.dd_records.specs.declared.level.Level.TheVariants.{Patient, Study, Series, Image}
use Rattle.dd_layout.specs.declared.order.Placed.{Placed}
use Rattle.dd_records.specs.declared.record.PlanRecord.{PlanRecord}
use Rattle.dd_layout.specs.Paths.{Path, is_before, leads_to}
use Rattle.dd_layout.specs.Plans.{path_of}
use Rattle.dd_layout.specs.Stages.{bare}
use Rattle.dd_layout.specs.Walk.{fresh}

-- ---- versions with their indices

-- the index of a version, and its path
abbrev pub Standing : Type 0
Standing = ℕ × Path

abbrev pub standing : Placed → Standing
standing placed = (placed.of, path_of placed.version.now)

-- versions as they stand, from this index on
abbrev pub standings : ℕ → List Parts → List Standing
standings index [] = []
standings index (version ∷ versions) = (index, path_of version) ∷ standings (suc index) versions

-- no path stands before an earlier one
abbrev pub AreInOrder : List Standing → Type 0
AreInOrder [] = Unit {0}
AreInOrder (s ∷ run) = AllByRecursion (λ r. is_before r.1 s.1 ≡ false) run × AreInOrder run

-- ---- paths level by level

-- how many parts they share in front
abbrev pub shared : Path → Path → ℕ
shared [] path = 0
shared (other ∷ before) [] = 0
shared (other ∷ before) (part ∷ path) = if is_eq (bytes_cmp other part) then suc (shared before path) else 0

-- the path of the version before, where there is one
abbrev pub path_before : Option Parts → Path
path_before None = []
path_before (Some version) = path_of version

-- what leads to a version at this level
abbrev pub front_of : Level → Parts → Path
front_of Patient version = version.patient.id ∷ []
front_of Study version = version.patient.id ∷ version.study.uid ∷ []
front_of Series version = version.patient.id ∷ version.study.uid ∷ version.series.uid ∷ []
front_of Image version = path_of version

-- ---- records

abbrev pub lesser : ℕ → ℕ → ℕ
lesser index least = if nat_lt index least then index else least

-- the least of this index and those that follow at once below the path
abbrev pub least_run : Path → ℕ → List Standing → ℕ
least_run x least [] = least
least_run x least (s ∷ run) = if leads_to x s.1 then least_run x (lesser s.0 least) run else least

abbrev pub least_here : Path → List Standing → ℕ
least_here x [] = 0
least_here x (s ∷ run) = least_run x s.0 run

abbrev pub record_here : List Standing → Path → PlanRecord
record_here run x = bare x (least_here x run)

abbrev pub records_from : Path → List Standing → List PlanRecord
records_from before [] = []
records_from before (s ∷ run) = map (record_here (s ∷ run)) (fresh before s.1) ++ records_from s.1 run
