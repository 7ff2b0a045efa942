-- The records of a plan are measured by their offsets: each has the bytes up to the next one, and the last one those up
-- to the end of all.
use Rattle.std.specs.Prelude.{◌≡◌, ◌<◌, ◌≤◌, ◌+◌, ℕ, suc, List, [], ◌∷◌, ◌++◌, All, length, map, Option, None, Some}
use Rattle.std.specs.Prelude.{slice_get, sum_by}
use Rattle.std.specs.List.{AllByRecursion}
use Rattle.std.proofs.Common.{refl, sym, ◌∙◌, ap, subst, arith, append_assoc, append-nil}
use Rattle.std.proofs.lemmas.List.Elements.{recursion_from_All}
use Rattle.std.proofs.lemmas.List.Sums.{sum_by_push}
use Rattle.dd_version.specs.declared.parts.Parts.{Parts}
use Rattle.dd_records.specs.declared.label.Label.{Label}
use Rattle.dd_records.specs.declared.record.PlanRecord.{PlanRecord}
use Rattle.dd_records.specs.Directory.{first_offset}
use Rattle.dd_layout.specs.Layouts.{IsSound}
use Rattle.dd_layout.specs.Paths.{Path}
use Rattle.dd_layout.specs.Plans.{at, least_below, path_of, record_at, record_size_at, records_end, records_of, size_of, tree}
use Rattle.dd_records.specs.Records.{IsFileOf}
use Rattle.dd_records.specs.Sizes.{record_size}
use Rattle.dd_layout.proofs.Leasts.{paths_have_parts}
use Rattle.dd_layout.proofs.Neighbourhood.{rows_are_known}
use Rattle.dd_layout.proofs.OffsetsWithin.{version_there}
use Rattle.dd_records.proofs.RecordSizes.{same_size}
use Rattle.dd_dir.specs.Directories.{AreMeasured, elements_by, elements_for, end_before}

-- ---- the records of a plan

-- the links of a record do not change its size
size_by : (label : Label) (versions : List Parts) (x : Path) (o : Option Parts) (v : Parts)
    → IsFileOf (record_at label versions x).level (record_at label versions x).file → o ≡ Some v
    → record_size (elements_by (record_at label versions x) o) ≡ size_of (tree versions) x o
size_by label versions x None v is_file e = cc
size_by label versions x (Some version) v is_file e =
    let row = record_at label versions x in
    ap (λ (n : ℕ). 8 + n) (same_size row.level row.next row.lower 0 0 row.file row.file version is_file is_file)

size_is : (label : Label) (versions : List Parts) (x : Path) → IsSound (length versions) (record_at label versions x)
    → record_size (elements_for versions (record_at label versions x)) ≡ record_size_at versions x
size_is label versions x sound =
    let there = version_there versions (least_below versions x) sound.0 in
    size_by label versions x (slice_get versions (least_below versions x)) there.0 sound.1 there.1

-- The first rows of the tree end where the next row stands, or where all records end.
end_is : (label : Label) (versions : List Parts) (front rest : List Path) → tree versions ≡ front ++ rest
    → first_offset label + sum_by (record_size_at versions) front
    ≡ end_before (records_end label versions) (map (record_at label versions) rest)
end_is label versions front [] is =
    ap (λ (rows : List Path). first_offset label + sum_by (record_size_at versions) rows) (sym (is ∙ append-nil front))
end_is label versions front (x ∷ rest) is =
    let known = rows_are_known (map path_of versions) (paths_have_parts versions) front x rest is in
    sym (known.at (first_offset label) (record_size_at versions))

measured_along : (label : Label) (versions : List Parts) (front rest : List Path) → tree versions ≡ front ++ rest
    → AllByRecursion (IsSound (length versions)) (map (record_at label versions) rest)
    → AreMeasured versions (records_end label versions) (map (record_at label versions) rest)
measured_along label versions front [] is sound = tt
measured_along label versions front (x ∷ rest) is sound =
    let more : tree versions ≡ (front ++ x ∷ []) ++ rest = is ∙ sym (append_assoc front (x ∷ []) rest) in
    let here = end_is label versions front (x ∷ rest) is in
    let next = end_is label versions (front ++ x ∷ []) rest more in
    let push = sum_by_push (record_size_at versions) front x in
    let own = size_is label versions x sound.0 in
    (omega (arith, here, next, push, own), measured_along label versions (front ++ x ∷ []) rest more sound.1)

pub records_measured : (label : Label) (versions : List Parts) → All (IsSound (length versions)) (records_of label versions)
    → AreMeasured versions (records_end label versions) (records_of label versions)
records_measured label versions sound =
    measured_along label versions [] (tree versions) refl
    (recursion_from_All (IsSound (length versions)) (records_of label versions) sound)

-- ---- the first of some records, and the others

-- its size
pub size_of_first : (versions : List Parts) (end later : ℕ) (rows : List PlanRecord) (row : PlanRecord)
    (rest : List PlanRecord) → rows ≡ row ∷ rest → AreMeasured versions end rows → later ≡ end_before end rest
    → later ≡ row.at + record_size (elements_for versions row)
size_of_first versions end later rows row rest is measured later_is =
    let first = subst (AreMeasured versions end) is measured in
    later_is ∙ sym first.0

pub rest_measured : (versions : List Parts) (end : ℕ) (rows : List PlanRecord) (row : PlanRecord) (rest : List PlanRecord)
    → rows ≡ row ∷ rest → AreMeasured versions end rows → AreMeasured versions end rest
rest_measured versions end rows row rest is measured =
    let first = subst (AreMeasured versions end) is measured in
    first.1

pub rest_sound : (n : ℕ) (rows : List PlanRecord) (row : PlanRecord) (rest : List PlanRecord)
    → rows ≡ row ∷ rest → All (IsSound n) rows → All (IsSound n) rest
rest_sound n rows row rest is sound =
    let all = subst (All (IsSound n)) is sound in
    λ k d h. all (suc k) d (omega (arith, h))

-- what holds of it and of the others
pub made_hold : {X : Type 0} (f : PlanRecord → X) (P : X → Type 0) (rows : List PlanRecord) (row : PlanRecord)
    (rest : List PlanRecord) → rows ≡ row ∷ rest → P (f row) → AllByRecursion P (map f rest)
    → AllByRecursion P (map f rows)
made_hold f P rows row rest is holds others =
    subst (λ (rs : List PlanRecord). AllByRecursion P (map f rs)) (sym is) (holds, others)

pub rows_hold : (P : PlanRecord → Type 0) (rows : List PlanRecord) (row : PlanRecord) (rest : List PlanRecord)
    → rows ≡ row ∷ rest → P row → AllByRecursion P rest → AllByRecursion P rows
rows_hold P rows row rest is holds others = subst (AllByRecursion P) (sym is) (holds, others)
