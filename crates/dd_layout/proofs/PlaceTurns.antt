-- The turns of the pass that gives records their offsets from the front.
use Rattle.std.proofs.Common.{◌≡◌, ℕ, zero, suc, ◌+◌, ◌<◌, ◌≤◌, List, [], ◌∷◌, length, refl, sym, ◌∙◌, ap, arith}
use Rattle.std.proofs.Common.{slice_index_or, slice_set}
use Rattle.std.specs.Prelude.{sum_by}
use Rattle.std.proofs.lemmas.List.Sums.{sum_by-cons}
use Rattle.std.proofs.lemmas.Option.{slice_get_read}
use Rattle.dd_version.specs.declared.parts.Parts.{Parts}
use Rattle.dd_records.specs.declared.record.PlanRecord.{PlanRecord}
use Rattle.dd_records.specs.Records.{record_elements}
use Rattle.dd_records.specs.Sizes.{record_size}
use Rattle.dd_layout.proofs.OffsetPass.{end_of, placed_to, weight, weight_by}

-- the row of the turn
row_turn : (size : PlanRecord → ℕ) (n at : ℕ) (rows : List PlanRecord) (d : PlanRecord)
    → slice_index_or (placed_to size n at rows) n d ≡ slice_index_or rows n d
row_turn size zero at rows d = refl
row_turn size (suc n) at [] d = refl
row_turn size (suc n) at (row ∷ rows) d = row_turn size n (at + size row) rows d

pub row_now : (size : PlanRecord → ℕ) (n at : ℕ) (rows now : List PlanRecord) (d : PlanRecord)
    → now ≡ placed_to size n at rows → slice_index_or now n d ≡ slice_index_or rows n d
row_now size n at rows now d now_is =
    ap (λ (l : List PlanRecord). slice_index_or l n d) now_is ∙ row_turn size n at rows d

-- one turn
rows_turn : (size : PlanRecord → ℕ) (n at : ℕ) (rows : List PlanRecord) (d : PlanRecord) → n < length rows
    → slice_set (placed_to size n at rows) n (record (slice_index_or rows n d) { at = end_of size n at rows })
    ≡ placed_to size (suc n) at rows
rows_turn size n at [] d h = absurd (omega arith)
rows_turn size zero at (row ∷ rows) d h = refl
rows_turn size (suc n) at (row ∷ rows) d h =
    ap (λ (l : List PlanRecord). record row { at = at } ∷ l) (rows_turn size n (at + size row) rows d (omega arith))

end_turn : (size : PlanRecord → ℕ) (n at : ℕ) (rows : List PlanRecord) (d : PlanRecord) → n < length rows
    → end_of size n at rows + size (slice_index_or rows n d) ≡ end_of size (suc n) at rows
end_turn size n at [] d h = absurd (omega arith)
end_turn size zero at (row ∷ rows) d h = refl
end_turn size (suc n) at (row ∷ rows) d h = end_turn size n (at + size row) rows d (omega arith)

pub rows_more : (size : PlanRecord → ℕ) (n at : ℕ) (rows now : List PlanRecord) (d : PlanRecord) (end : ℕ)
    → n < length rows → now ≡ placed_to size n at rows → end ≡ end_of size n at rows
    → slice_set now n (record (slice_index_or now n d) { at = end }) ≡ placed_to size (n + 1) at rows
rows_more size n at rows now d end h now_is end_is =
    let more : suc n ≡ n + 1 = omega arith in
    ap (λ (r : PlanRecord). slice_set now n (record r { at = end })) (row_now size n at rows now d now_is)
    ∙ ap (λ (l : List PlanRecord). slice_set l n (record (slice_index_or rows n d) { at = end })) now_is
    ∙ ap (λ (k : ℕ). slice_set (placed_to size n at rows) n (record (slice_index_or rows n d) { at = k })) end_is
    ∙ rows_turn size n at rows d h
    ∙ ap (λ (k : ℕ). placed_to size k at rows) more

pub end_more : (size : PlanRecord → ℕ) (n at : ℕ) (rows now : List PlanRecord) (d : PlanRecord) (end one : ℕ)
    → n < length rows → now ≡ placed_to size n at rows → end ≡ end_of size n at rows
    → one ≡ size (slice_index_or now n d) → end + one ≡ end_of size (n + 1) at rows
end_more size n at rows now d end one h now_is end_is one_is =
    let more : suc n ≡ n + 1 = omega arith in
    ap (λ (k : ℕ). k + one) end_is
    ∙ ap (λ (k : ℕ). end_of size n at rows + k) (one_is ∙ ap size (row_now size n at rows now d now_is))
    ∙ end_turn size n at rows d h
    ∙ ap (λ (k : ℕ). end_of size k at rows) more

-- what a turn adds
pub weight_is : (versions : List Parts) (row : PlanRecord) (version parts : Parts) (size : ℕ)
    → row.of < length versions → version ≡ slice_index_or versions row.of version → parts ≡ version
    → size ≡ record_size (record_elements row.level 0 0 row.file parts) → size ≡ weight versions row
weight_is versions row version parts size within read same is =
    is ∙ ap (λ (v : Parts). record_size (record_elements row.level 0 0 row.file v)) same
    ∙ ap (weight_by row) (sym (slice_get_read versions (length versions) row.of version refl within read))

-- the ends of all turns
pub end_at_most : (size : PlanRecord → ℕ) (n at : ℕ) (rows : List PlanRecord)
    → end_of size n at rows ≤ at + sum_by size rows
end_at_most size zero at rows = omega arith
end_at_most size (suc n) at [] = omega arith
end_at_most size (suc n) at (row ∷ rows) =
    let more = end_at_most size n (at + size row) rows in
    let sum = sum_by-cons size row rows in
    omega arith

pub end_at_last : (size : PlanRecord → ℕ) (n at : ℕ) (rows : List PlanRecord) → length rows ≤ n
    → end_of size n at rows ≡ at + sum_by size rows
end_at_last size zero at [] h = omega arith
end_at_last size zero at (row ∷ rows) h = absurd (omega arith)
end_at_last size (suc n) at [] h = omega arith
end_at_last size (suc n) at (row ∷ rows) h =
    let more = end_at_last size n (at + size row) rows (omega arith) in
    let sum = sum_by-cons size row rows in
    omega arith
