-- Offsets as sums from the front are the offsets of the plan.
use Rattle.std.specs.Prelude.{◌≡◌, ℕ, zero, suc, ◌+◌, ◌<◌, ◌≤◌, List, [], ◌∷◌, ◌++◌, All, Option, length, map, sum_by}
use Rattle.std.specs.Prelude.{slice_index_or}
use Rattle.std.proofs.Common.{refl, sym, ◌∙◌, ap, subst, arith, append_assoc}
use Rattle.std.proofs.lemmas.List.{length-map}
use Rattle.std.proofs.lemmas.List.Sums.{sum_by-cons, sum_by_push}
use Rattle.dd_elem.specs.FileId.{Ranks}
use Rattle.dd_version.specs.declared.parts.Parts.{Parts}
use Rattle.dd_records.specs.declared.label.Label.{Label}
use Rattle.dd_records.specs.declared.record.PlanRecord.{PlanRecord}
use Rattle.dd_records.specs.Directory.{first_offset}
use Rattle.dd_layout.specs.Paths.{Path}
use Rattle.dd_layout.specs.Plans.{path_of, tree, record_size_at, at, records_end}
use Rattle.dd_records.specs.Records.{IsFileOf, record_elements}
use Rattle.dd_records.specs.Sizes.{record_size}
use Rattle.dd_layout.specs.Stages.{numbered_at, placed_at}
use Rattle.dd_layout.proofs.Leasts.{least_of_each, paths_have_parts}
use Rattle.dd_layout.proofs.Neighbourhood.{rows_are_known}
use Rattle.dd_layout.proofs.OffsetPass.{end_at, end_of, placed_to, weight}
use Rattle.dd_layout.proofs.PlaceTurns.{end_at_last, end_at_most, row_now, weight_is}

-- the size of a row is the size of its record
weight_at : (versions : List Parts) (x : Path) → weight versions (numbered_at versions x) ≡ record_size_at versions x
weight_at versions x = refl

sum_is : (versions : List Parts) (paths : List Path)
    → sum_by (weight versions) (map (numbered_at versions) paths) ≡ sum_by (record_size_at versions) paths
sum_is versions [] = refl
sum_is versions (x ∷ paths) =
    sum_by-cons (weight versions) (numbered_at versions x) (map (numbered_at versions) paths)
    ∙ ap (λ (n : ℕ). n + sum_by (weight versions) (map (numbered_at versions) paths)) (weight_at versions x)
    ∙ ap (λ (n : ℕ). record_size_at versions x + n) (sum_is versions paths)
    ∙ sym (sum_by-cons (record_size_at versions) x paths)

pub size_is : (label : Label) (versions : List Parts) (rows : List PlanRecord)
    → rows ≡ map (numbered_at versions) (tree versions)
    → first_offset label + sum_by (weight versions) rows ≡ records_end label versions
size_is label versions rows is =
    ap (λ (n : ℕ). first_offset label + n) (ap (sum_by (weight versions)) is ∙ sum_is versions (tree versions))

placed_is : (label : Label) (versions : List Parts) (front rest : List Path) → tree versions ≡ front ++ rest
    → (n : ℕ) → length rest ≤ n
    → placed_to (weight versions) n (end_at label versions front) (map (numbered_at versions) rest)
    ≡ map (placed_at label versions) rest
placed_is label versions front [] is zero h = refl
placed_is label versions front [] is (suc n) h = refl
placed_is label versions front (x ∷ rest) is zero h = absurd (omega arith)
placed_is label versions front (x ∷ rest) is (suc n) h =
    let known = rows_are_known (map path_of versions) (paths_have_parts versions) front x rest is in
    let here : end_at label versions front ≡ at label versions x =
    sym (known.at (first_offset label) (record_size_at versions)) in
    let push = sum_by_push (record_size_at versions) front x in
    let end : end_at label versions front + record_size_at versions x ≡ end_at label versions (front ++ x ∷ []) =
    omega arith in
    let rows : List PlanRecord = map (numbered_at versions) rest in
    ap (λ (k : ℕ). record (numbered_at versions x) { at = k }
    ∷ placed_to (weight versions) n (end_at label versions front + weight versions (numbered_at versions x)) rows) here
    ∙ ap (λ (k : ℕ). placed_at label versions x ∷ placed_to (weight versions) n k rows)
    (ap (λ (k : ℕ). end_at label versions front + k) (weight_at versions x) ∙ end)
    ∙ ap (λ (l : List PlanRecord). placed_at label versions x ∷ l)
    (placed_is label versions (front ++ x ∷ []) rest (is ∙ sym (append_assoc front (x ∷ []) rest)) n (omega arith))

pub offsets_are_known : (label : Label) (versions : List Parts) (rows now : List PlanRecord) (n : ℕ)
    → rows ≡ map (numbered_at versions) (tree versions) → length rows ≤ n
    → now ≡ placed_to (weight versions) n (first_offset label) rows
    → now ≡ map (placed_at label versions) (tree versions)
offsets_are_known label versions rows now n is long now_is =
    let same : length rows ≡ length (tree versions) =
    ap length is ∙ length-map (tree versions) (numbered_at versions) in
    let start : first_offset label ≡ end_at label versions [] = omega arith in
    now_is
    ∙ ap (λ (l : List PlanRecord). placed_to (weight versions) n (first_offset label) l) is
    ∙ ap (λ (k : ℕ). placed_to (weight versions) n k (map (numbered_at versions) (tree versions))) start
    ∙ placed_is label versions [] (tree versions) refl n (omega arith)

-- ---- the row of a turn

-- it is of one of the versions
pub of_turn : (versions : List Parts) (rows now : List PlanRecord) (n at : ℕ) (d : PlanRecord)
    → rows ≡ map (numbered_at versions) (tree versions) → n < length rows
    → now ≡ placed_to (weight versions) n at rows
    → (slice_index_or now n d).of < length versions
of_turn versions rows now n at d is h now_is =
    let each : All (λ (row : PlanRecord). row.of < length versions) rows =
    subst (All (λ (row : PlanRecord). row.of < length versions)) (sym is) (least_of_each versions) in
    subst (λ (row : PlanRecord). row.of < length versions) (sym (row_now (weight versions) n at rows now d now_is))
    (each n d h)

-- its size
pub size_of_turn : (versions : List Parts) (rows now : List PlanRecord) (n at : ℕ) (d : PlanRecord)
    (version parts : Parts) (one : ℕ)
    → rows ≡ map (numbered_at versions) (tree versions) → All (λ row. IsFileOf row.level row.file) rows
    → n < length rows → now ≡ placed_to (weight versions) n at rows
    → version ≡ slice_index_or versions (slice_index_or now n d).of version → parts ≡ version
    → ((next lower : ℕ) (file : Option Ranks) → IsFileOf (slice_index_or now n d).level file
    → one ≡ record_size (record_elements (slice_index_or now n d).level next lower file parts))
    → one ≡ weight versions (slice_index_or now n d)
size_of_turn versions rows now n at d version parts one is files h now_is read same exact =
    let row : PlanRecord = slice_index_or now n d in
    let file : IsFileOf row.level row.file = subst (λ (r : PlanRecord). IsFileOf r.level r.file)
    (sym (row_now (weight versions) n at rows now d now_is)) (files n d h) in
    weight_is versions row version parts one (of_turn versions rows now n at d is h now_is) read same
    (exact 0 0 row.file file)

-- ---- the end of a pass

-- the end of each record is at most the end of all records
pub end_within : (label : Label) (versions : List Parts) (rows : List PlanRecord) (n end : ℕ)
    → rows ≡ map (numbered_at versions) (tree versions)
    → end ≡ end_of (weight versions) n (first_offset label) rows → end ≤ records_end label versions
end_within label versions rows n end is end_is =
    let most = end_at_most (weight versions) n (first_offset label) rows in
    let sum = size_is label versions rows is in
    omega arith

-- the end of the last record is the end of all records
pub end_known : (label : Label) (versions : List Parts) (rows : List PlanRecord) (n end : ℕ)
    → rows ≡ map (numbered_at versions) (tree versions) → length rows ≤ n
    → end ≡ end_of (weight versions) n (first_offset label) rows → end ≡ records_end label versions
end_known label versions rows n end is long end_is =
    end_is ∙ end_at_last (weight versions) n (first_offset label) rows long ∙ size_is label versions rows is
