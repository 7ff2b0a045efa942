-- The turns of the pass that links records from the back.
use Rattle.std.proofs.Common.{◌≡◌, ℕ, zero, suc, ◌-◌, ◌<◌, ◌≤◌, List, [], ◌∷◌, length, refl, sym, ◌∙◌, ap, arith}
use Rattle.std.proofs.Common.{slice_index_or, slice_set}
use Rattle.dd_layout.specs.declared.links.Later.{Later}
use Rattle.dd_records.specs.declared.record.PlanRecord.{PlanRecord}
use Rattle.dd_layout.specs.Linking.{next_of, lower_of, later_from}
use Rattle.dd_layout.proofs.LinkPass.{none_later, with_links, linked, linked_after, later_after}

-- before the first turn
pub rows_at_first : (rows : List PlanRecord) → rows ≡ linked_after (length rows) rows
rows_at_first [] = refl
rows_at_first (row ∷ rows) = ap (λ (l : List PlanRecord). row ∷ l) (rows_at_first rows)

pub later_at_first : (rows : List PlanRecord) → none_later ≡ later_after (length rows) rows
later_at_first [] = refl
later_at_first (row ∷ rows) = later_at_first rows

-- one turn
rows_turn : (n : ℕ) (rows : List PlanRecord) (d : PlanRecord) → n < length rows
    → slice_set (linked_after (suc n) rows) n
    (with_links (slice_index_or (linked_after (suc n) rows) n d) (later_after (suc n) rows))
    ≡ linked_after n rows
rows_turn n [] d h = absurd (omega arith)
rows_turn zero (row ∷ rows) d h = refl
rows_turn (suc n) (row ∷ rows) d h = ap (λ (l : List PlanRecord). row ∷ l) (rows_turn n rows d (omega arith))

later_turn : (n : ℕ) (rows : List PlanRecord) (d : PlanRecord) → n < length rows
    → later_from (slice_index_or (linked_after (suc n) rows) n d).level
    (slice_index_or (linked_after (suc n) rows) n d).at (later_after (suc n) rows)
    ≡ later_after n rows
later_turn n [] d h = absurd (omega arith)
later_turn zero (row ∷ rows) d h = refl
later_turn (suc n) (row ∷ rows) d h = later_turn n rows d (omega arith)

pub rows_more : (i : ℕ) (rows now : List PlanRecord) (d : PlanRecord) (later : Later) (next lower : ℕ)
    → 0 < i → i ≤ length rows → now ≡ linked_after i rows → later ≡ later_after i rows
    → next ≡ next_of (slice_index_or now (i - 1) d).level later
    → lower ≡ lower_of (slice_index_or now (i - 1) d).level later
    → slice_set now (i - 1) (record (slice_index_or now (i - 1) d) { next = next; lower = lower })
    ≡ linked_after (i - 1) rows
rows_more i rows now d later next lower some most now_is later_is next_is lower_is =
    let n : ℕ = i - 1 in
    let same : suc n ≡ i = omega arith in
    let now_too : now ≡ linked_after (suc n) rows = now_is ∙ ap (λ (k : ℕ). linked_after k rows) (sym same) in
    let later_too : later ≡ later_after (suc n) rows = later_is ∙ ap (λ (k : ℕ). later_after k rows) (sym same) in
    ap (λ (k : ℕ). slice_set now n (record (slice_index_or now n d) { next = k; lower = lower })) next_is
    ∙ ap (λ (k : ℕ). slice_set now n (record (slice_index_or now n d) {
      next = next_of (slice_index_or now n d).level later;
      lower = k;
    })) lower_is
    ∙ ap (λ (b : Later). slice_set now n (with_links (slice_index_or now n d) b)) later_too
    ∙ ap (λ (l : List PlanRecord). slice_set l n (with_links (slice_index_or l n d) (later_after (suc n) rows)))
    now_too
    ∙ rows_turn n rows d (omega arith)

pub later_more : (i : ℕ) (rows now : List PlanRecord) (d : PlanRecord) (later : Later)
    → 0 < i → i ≤ length rows → now ≡ linked_after i rows → later ≡ later_after i rows
    → later_from (slice_index_or now (i - 1) d).level (slice_index_or now (i - 1) d).at later
    ≡ later_after (i - 1) rows
later_more i rows now d later some most now_is later_is =
    let n : ℕ = i - 1 in
    let same : suc n ≡ i = omega arith in
    let now_too : now ≡ linked_after (suc n) rows = now_is ∙ ap (λ (k : ℕ). linked_after k rows) (sym same) in
    let later_too : later ≡ later_after (suc n) rows = later_is ∙ ap (λ (k : ℕ). later_after k rows) (sym same) in
    ap (λ (b : Later). later_from (slice_index_or now n d).level (slice_index_or now n d).at b) later_too
    ∙ ap (λ (l : List PlanRecord). later_from (slice_index_or l n d).level (slice_index_or l n d).at
    (later_after (suc n) rows)) now_too
    ∙ later_turn n rows d (omega arith)

-- after the last turn
pub rows_at_last : (i : ℕ) (rows now : List PlanRecord) → i ≤ 0 → now ≡ linked_after i rows → now ≡ linked rows
rows_at_last i rows now none now_is =
    let same : i ≡ 0 = omega arith in now_is ∙ ap (λ (k : ℕ). linked_after k rows) same
