-- The offsets of a directory are smaller than its size.
use Rattle.std.specs.Prelude.{◌≡◌, ◌⊎◌, ◌<◌, ◌≤◌, ℕ, zero, suc, Bool, true, not, List, [], ◌∷◌, All, Contains, length}
use Rattle.std.specs.Prelude.{filter, find, Option, None, Some, IfSome, slice_get, slice_index_or, sum_by}
use Rattle.std.specs.List.{last_or}
use Rattle.std.specs.Ordering.{is_lt}
use Rattle.std.proofs.Common.{refl, ◌∙◌, ap, inl, inr, arith}
use Rattle.std.proofs.lemmas.Cmp.{tied_itself}
use Rattle.std.proofs.lemmas.List.Elements.{All-map, Contains-get_or}
use Rattle.std.proofs.lemmas.List.Filters.{sum_by-filter_both}
use Rattle.std.proofs.lemmas.List.Sums.{sum_by-cons}
use Rattle.std.proofs.lemmas.Option.{none-some, same_Some}
use Rattle.dd_catalogue.proofs.Members.{Member, member_of, contained}
use Rattle.dd_catalogue.specs.Rising.{by_test}
use Rattle.dd_version.specs.declared.parts.Parts.{Parts}
use Rattle.dd_records.specs.declared.label.Label.{Label}
use Rattle.dd_layout.specs.Layouts.{StandsWithin}
use Rattle.dd_layout.specs.Paths.{Path, is_before}
use Rattle.dd_layout.specs.Plans.{at, at_or_none, least_below, record_at, record_size_at, records_end, records_of, size}
use Rattle.dd_layout.specs.Plans.{size_of, tree}
use Rattle.dd_records.proofs.DirectoryElements.{directory_length}
use Rattle.dd_layout.proofs.Leasts.{least_in}
use Rattle.dd_layout.proofs.RowsByWalk.{path_total}

-- ---- what a filter keeps, and what a search finds

-- one that passes counts
passes : {X : Type 0} (weight : X → ℕ) (q : X → Bool) (x : X) (rows : List X) → Member x rows → q x ≡ true
    → weight x ≤ sum_by weight (filter q rows)
passes weight q x [] i e = absurd i
passes weight q x (y ∷ rows) (inl same) e =
    let here : q y ≡ true = ap q same ∙ e in
    let sum = sum_by-cons weight y (filter q rows) in
    let one = ap weight same in
    rw here (omega (arith, sum, one))
passes weight q x (y ∷ rows) (inr i) e =
    let rest = passes weight q x rows i e in
    let sum = sum_by-cons weight y (filter q rows) in
    by_test (q y) (λ h. rw h (omega (arith, rest, sum))) (λ h. rw h rest)

found_member : {X : Type 0} (q : X → Bool) (rows : List X) (x : X) → find q rows ≡ Some x → Member x rows
found_member q [] x e = cc
found_member q (y ∷ rows) x e = by_test (q y)
    (λ h. let is : Some y ≡ Some x = rw h at e in inl (same_Some y x is))
    (λ h. let rest : find q rows ≡ Some x = rw h at e in inr (found_member q rows x rest))

if_some : {X : Type 0} (o : Option X) (P : X → Type 0) → ((x : X) → o ≡ Some x → P x) → IfSome o P
if_some None P h = tt
if_some (Some x) P h = h x refl

-- what a search finds is there
pub found_there : {X : Type 0} (q : X → Bool) (rows : List X) → IfSome (find q rows) (λ x. Contains rows x)
found_there q rows = if_some (find q rows) (λ x. Contains rows x) (λ x e. contained x rows (found_member q rows x e))

kept_member : {X : Type 0} (q : X → Bool) (rows : List X) (x : X) → Member x (filter q rows) → Member x rows
kept_member q [] x i = absurd i
kept_member q (y ∷ rows) x i = by_test (q y)
    (λ h. elim (rw h at i) [ inl same ↦ inl same | inr rest ↦ inr (kept_member q rows x rest) ])
    (λ h. inr (kept_member q rows x (rw h at i)))

last_member : {X : Type 0} (o : Option X) (rows : List X) (x : X) → last_or o rows ≡ Some x
    → (o ≡ Some x) ⊎ Member x rows
last_member o [] x e = inl e
last_member o (y ∷ rows) x e = elim (last_member (Some y) rows x e) [
  | inl is ↦ inr (inl (same_Some y x is))
  | inr i ↦ inr (inr i)
]

-- what a filter keeps last is there
pub last_there : {X : Type 0} (q : X → Bool) (rows : List X)
    → IfSome (last_or None (filter q rows)) (λ x. Contains rows x)
last_there q rows = if_some (last_or None (filter q rows)) (λ x. Contains rows x) (λ x e.
    elim (last_member None (filter q rows) x e) [
      | inl is ↦ absurd (none-some x is)
      | inr i ↦ contained x rows (kept_member q rows x i)
    ])

-- ---- each record has bytes

pub version_there : (versions : List Parts) (n : ℕ) → n < length versions → (v : Parts) × (slice_get versions n ≡ Some v)
version_there [] n h = absurd (omega arith)
version_there (v ∷ versions) zero h = (v, refl)
version_there (v ∷ versions) (suc n) h = version_there versions n (omega arith)

has_bytes : (rows : List Path) (x : Path) (o : Option Parts) (v : Parts) → o ≡ Some v → 0 < size_of rows x o
has_bytes rows x o v e = rw e (omega arith)

record_has_bytes : (versions : List Parts) (x : Path) → Contains (tree versions) x → 0 < record_size_at versions x
record_has_bytes versions x c =
    let there = version_there versions (least_below versions x) (least_in versions x c) in
    has_bytes (tree versions) x (slice_get versions (least_below versions x)) there.0 there.1

pub directory_has_bytes : (label : Label) (versions : List Parts) → 0 < records_end label versions
directory_has_bytes label versions =
    let front = directory_length label.id 0 0 [] in
    omega (arith, front)

-- ---- so all offsets are within the size, whatever stands after the records

itself_not_before : (x : Path) → not (is_before x x) ≡ true
itself_not_before x = ap (λ r. not (is_lt r)) (tied_itself path_total x)

pub at_within : (label : Label) (versions : List Parts) (x : Path) → Contains (tree versions) x
    → at label versions x < records_end label versions
at_within label versions x c =
    let both = sum_by-filter_both (λ y. is_before y x) (λ y. not (is_before y x)) (λ y. refl)
    (record_size_at versions) (tree versions) in
    let own = passes (record_size_at versions) (λ y. not (is_before y x)) x (tree versions)
    (member_of x (tree versions) c) (itself_not_before x) in
    let some = record_has_bytes versions x c in
    omega (arith, both, own, some)

pub named_within : (label : Label) (versions : List Parts) (withdrawn : List (List ℕ)) (x : Option Path)
    → IfSome x (λ path. Contains (tree versions) path) → at_or_none label versions x < size label versions withdrawn
named_within label versions withdrawn None c = omega (arith, directory_has_bytes label versions)
named_within label versions withdrawn (Some x) c = omega (arith, at_within label versions x c)

pub records_within : (label : Label) (versions : List Parts) (withdrawn : List (List ℕ))
    → All (StandsWithin (size label versions withdrawn)) (records_of label versions)
records_within label versions withdrawn =
    All-map (StandsWithin (size label versions withdrawn)) (record_at label versions) (tree versions) (λ k d h.
    let x = slice_index_or (tree versions) k d in
    record {
      at = named_within label versions withdrawn (Some x) (Contains-get_or (tree versions) k d h);
      next = named_within label versions withdrawn _ (found_there _ (tree versions));
      lower = named_within label versions withdrawn _ (found_there _ (tree versions));
    })
