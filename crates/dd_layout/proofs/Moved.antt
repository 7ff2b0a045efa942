-- The records of a plan under another label: the same, moved by what stands before the first of them.
use Rattle.std.specs.Prelude.{◌≡◌, ℕ, ◌+◌, ◌-◌, ◌<◌, ◌≤◌, Bool, true, false, List, [], ◌∷◌, ◌++◌, All, length, map}
use Rattle.std.specs.Prelude.{Option, None, Some, nat_lt, if◌then◌else◌, sum_by, filter, slice_index_or, slice_set}
use Rattle.std.proofs.Common.{refl, sym, ◌∙◌, ap, subst, arith, drop, take}
use Rattle.std.proofs.lemmas.Bool.{lt-ltb, ltb-true}
use Rattle.std.proofs.lemmas.List.{append-nil, drop_all, take_all}
use Rattle.std.proofs.lemmas.List.Elements.{All-map}
use Rattle.std.proofs.lemmas.List.Edits.{map_over_more}
use Rattle.dd_version.specs.declared.parts.Parts.{Parts}
use Rattle.dd_records.specs.declared.label.Label.{Label}
use Rattle.dd_records.specs.declared.level.Level.{Level}
use Rattle.dd_records.specs.declared.record.PlanRecord.{PlanRecord}
use Rattle.dd_records.specs.Directory.{first_offset}
use Rattle.dd_layout.specs.Layouts.{IsLaidOut, IsSound, StandsWithin}
use Rattle.dd_layout.specs.Paths.{Path, is_before}
use Rattle.dd_layout.specs.Plans.{at, at_or_none, level_of, record_at, record_size_at, tree}
use Rattle.dd_layout.specs.Stages.{bare_at, level_in, moved_offset, moved_record}
use Rattle.dd_layout.specs.Tree.{first_child, next_sibling}
use Rattle.dd_records.proofs.DirectoryElements.{directory_length}

-- ---- the levels of records

pub levels_bare : (versions : List Parts) (paths : List Path)
    → map level_in (map (bare_at versions) paths) ≡ map level_of paths
levels_bare versions [] = refl
levels_bare versions (x ∷ paths) = ap (λ (l : List Level). level_of x ∷ l) (levels_bare versions paths)

pub levels_planned : (label : Label) (versions : List Parts) (paths : List Path)
    → map level_in (map (record_at label versions) paths) ≡ map level_of paths
levels_planned label versions [] = refl
levels_planned label versions (x ∷ paths) =
    ap (λ (l : List Level). level_of x ∷ l) (levels_planned label versions paths)

-- ---- offsets

-- bytes stand before the first record
pub front_has_bytes : (label : Label) → 0 < first_offset label
front_has_bytes label =
    let front = directory_length label.id 0 0 [] in
    omega (arith, front)

-- the offset that is 0 stays
moved_none : (from to : ℕ) → 0 < from → moved_offset from to 0 ≡ 0
moved_none from to h = let first = lt-ltb 0 from h in rw first refl

-- an offset `n` bytes after the first record stays `n` bytes after it
moved_later : (from to n : ℕ) → moved_offset from to (from + n) ≡ to + n
moved_later from to n = go (nat_lt (from + n) from) refl where
  go : (b : Bool) → nat_lt (from + n) from ≡ b → (if b then 0 else ((from + n) - from) + to) ≡ to + n
  go true e = let less = ltb-true (from + n) from e in absurd (omega arith)
  go false e = omega arith

moved_at : (one other : Label) (versions : List Parts) (x : Path)
    → moved_offset (first_offset one) (first_offset other) (at one versions x) ≡ at other versions x
moved_at one other versions x =
    moved_later (first_offset one) (first_offset other)
    (sum_by (record_size_at versions) (filter (λ y. is_before y x) (tree versions)))

moved_named : (one other : Label) (versions : List Parts) (x : Option Path)
    → moved_offset (first_offset one) (first_offset other) (at_or_none one versions x) ≡ at_or_none other versions x
moved_named one other versions None = moved_none (first_offset one) (first_offset other) (front_has_bytes one)
moved_named one other versions (Some x) = moved_at one other versions x

-- ---- records

moved_to : (one other : Label) (versions : List Parts) (x : Path)
    → moved_record (first_offset one) (first_offset other) (record_at one versions x) ≡ record_at other versions x
moved_to one other versions x =
    ap (λ (n : ℕ). record (moved_record (first_offset one) (first_offset other) (record_at one versions x)) { at = n })
    (moved_at one other versions x)
    ∙ ap (λ (n : ℕ). record (moved_record (first_offset one) (first_offset other) (record_at one versions x))
    { at = at other versions x; next = n }) (moved_named one other versions (next_sibling (tree versions) x))
    ∙ ap (λ (n : ℕ). record (record_at other versions x) { lower = n })
    (moved_named one other versions (first_child (tree versions) x))

moved_along : (one other : Label) (versions : List Parts) (paths : List Path)
    → map (moved_record (first_offset one) (first_offset other)) (map (record_at one versions) paths)
    ≡ map (record_at other versions) paths
moved_along one other versions [] = refl
moved_along one other versions (x ∷ paths) =
    ap (λ (r : PlanRecord). r ∷ map (moved_record (first_offset one) (first_offset other))
    (map (record_at one versions) paths)) (moved_to one other versions x)
    ∙ ap (λ (l : List PlanRecord). record_at other versions x ∷ l) (moved_along one other versions paths)

-- offsets that lie within some bytes lie within more bytes, too
pub all_within : (most bytes : ℕ) (rows : List PlanRecord) → bytes ≤ most → All (StandsWithin bytes) rows
    → All (StandsWithin most) rows
all_within most bytes rows h each k d i =
    let one = each k d i in
    record { at = omega (arith, one.at); next = omega (arith, one.next); lower = omega (arith, one.lower) }

-- the plan under one label, with its offsets moved, is the plan under the other label
pub laid_out_moved : (one other : Label) (versions : List Parts) (withdrawn : List (List ℕ))
    (rows moved : List PlanRecord) (old new : ℕ) → IsLaidOut one versions withdrawn rows old
    → moved ≡ map (moved_record (first_offset one) (first_offset other)) rows
    → new + first_offset one ≡ old + first_offset other
    → IsLaidOut other versions withdrawn moved new
laid_out_moved one other versions withdrawn rows moved old new laid is sum = record {
  records = is ∙ ap (map (moved_record (first_offset one) (first_offset other))) laid.records
      ∙ moved_along one other versions (tree versions);
  size = omega (arith, laid.size);
  sound = subst (All (IsSound (length versions))) (sym is)
      (All-map (IsSound (length versions)) (moved_record (first_offset one) (first_offset other)) rows
      (λ k d h. laid.sound k d h));
}

-- ---- a turn of the pass that moves them

pub move_more : (from to : ℕ) (rows now : List PlanRecord) (i : ℕ) (row : PlanRecord) (at next lower : ℕ)
    → i < length rows → now ≡ map (moved_record from to) (take i rows) ++ drop i rows → row ≡ slice_index_or now i row
    → at ≡ moved_offset from to (slice_index_or now i row).at
    → next ≡ moved_offset from to (slice_index_or now i row).next
    → lower ≡ moved_offset from to (slice_index_or now i row).lower
    → slice_set now i (record (slice_index_or now i row) { at = at; next = next; lower = lower })
    ≡ map (moved_record from to) (take (i + 1) rows) ++ drop (i + 1) rows
move_more from to rows now i row at next lower within so_far is at_is next_is lower_is =
    let old : PlanRecord = slice_index_or now i row in
    ap (λ (n : ℕ). slice_set now i (record old { at = n; next = next; lower = lower })) at_is
    ∙ ap (λ (n : ℕ). slice_set now i (record (moved_record from to old) { next = n; lower = lower })) next_is
    ∙ ap (λ (n : ℕ). slice_set now i (record (moved_record from to old) { lower = n })) lower_is
    ∙ ap (λ (r : PlanRecord). slice_set now i (moved_record from to r)) (sym is)
    ∙ map_over_more (moved_record from to) rows now i row within so_far is

-- a list that is written whole
pub whole_written : (n : ℕ) (new old : List PlanRecord) → length old ≡ n → length new ≡ length old
    → take n (new ++ drop (length new) old) ≡ new
whole_written n new old many same =
    ap (λ (l : List PlanRecord). take n (new ++ l)) (drop_all (length new) old (omega (arith, same)))
    ∙ ap (take n) (append-nil new)
    ∙ take_all n new (omega (arith, many, same))
