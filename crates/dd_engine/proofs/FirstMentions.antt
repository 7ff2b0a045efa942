-- Mentions in the order of their UIDs: which is the first one of a UID, and that a stable sort keeps it first.
use Rattle.std.specs.Prelude.{◌≡◌, ◌<◌, ◌≤◌, ℕ, zero, suc, true, false}
use Rattle.std.specs.Prelude.{List, [], ◌∷◌, None, nat_lt, length, map, filter, get_or}
use Rattle.std.specs.Cmp.{IsTotalOrder}
use Rattle.std.specs.List.Sorted.{IsPartitionPoint, IsPartitionedBy, IsSorted, IsStable}
use Rattle.std.specs.Ordering.{is_lt}
use Rattle.std.proofs.Common.{refl, sym, ◌∙◌, ap, arith, ltb-true, ltb-false, true≢false}
use Rattle.std.proofs.lemmas.Cmp.{nat_list_cmp_total}
use Rattle.std.proofs.lemmas.List.{get_or_default}
use Rattle.dd_catalogue.specs.Conflicts.{same}
use Rattle.dd_catalogue.specs.Rising.{by_test}
use Rattle.dd_elem.specs.Ordered.{bytes_cmp}
use Rattle.dd_engine.specs.declared.mentions.Mention.{Mention}
use Rattle.dd_engine.specs.Mentions.{first_number, mention_cmp, mention_view}
use Rattle.dd_engine.proofs.KeyOrder as keys

-- ---- the order of UIDs

pub uid_total : IsTotalOrder bytes_cmp
uid_total = nat_list_cmp_total

-- ---- a search among mentions in that order

pub parted : (xs : List Mention) (t : List ℕ) → IsSorted mention_cmp xs
    → IsPartitionedBy (λ mention. is_lt (bytes_cmp mention.uid.now t)) xs
parted xs t order = keys.parted (λ (mention : Mention). mention.uid.now) uid_total xs t order

none_of : (xs : List Mention) (t : List ℕ)
    → ((k : ℕ) (d : Mention) → k < length xs → same (get_or xs k d).uid.now t ≡ false)
    → first_number (map (λ mention. mention_view mention) xs) t ≡ None
none_of [] t none = refl
none_of (x ∷ xs) t none =
    let here : same x.uid.now t ≡ false = none zero x (omega arith) in
    rw here (none_of xs t (λ k d below. none (suc k) d (omega arith)))

first_at : (xs : List Mention) (t : List ℕ) (i : ℕ) (d : Mention) → i < length xs
    → ((k : ℕ) → k < i → same (get_or xs k d).uid.now t ≡ false)
    → same (get_or xs i d).uid.now t ≡ true
    → (get_or xs i d).number ≡ first_number (map (λ mention. mention_view mention) xs) t
first_at [] t i d below before here = absurd (omega arith)
first_at (x ∷ xs) t zero d below before here = rw here refl
first_at (x ∷ xs) t (suc i) d below before here =
    rw (before zero (omega arith)) (first_at xs t i d (omega arith) (λ k less. before (suc k) (omega arith)) here)

-- where the search for a UID ends
abbrev pub Ends : List Mention → List ℕ → ℕ → Type 0
Ends xs t i = IsPartitionPoint (λ mention. is_lt (bytes_cmp mention.uid.now t) ≡ true)
    (λ mention. is_lt (bytes_cmp mention.uid.now t) ≡ false) xs i

-- at its end there is nothing
pub none_there : (xs : List Mention) (t : List ℕ) (i : ℕ) → Ends xs t i → length xs ≤ i
    → first_number (map (λ mention. mention_view mention) xs) t ≡ None
none_there xs t i point past = none_of xs t (λ k d below.
    keys.not_before (bytes_cmp (get_or xs k d).uid.now t) (point.0 k d (omega arith) (omega arith)))

-- or a mention of another UID
pub other_there : (xs : List Mention) (t : List ℕ) (i : ℕ) (d : Mention) → IsSorted mention_cmp xs → Ends xs t i
    → i < length xs → same (get_or xs i d).uid.now t ≡ false
    → first_number (map (λ mention. mention_view mention) xs) t ≡ None
other_there xs t i d order point within other = none_of xs t (λ k e below. by_test (nat_lt k i)
    (λ less. keys.not_before (bytes_cmp (get_or xs k e).uid.now t) (point.0 k e (omega arith) (ltb-true k i less)))
    (λ more. by_test (same (get_or xs k e).uid.now t)
    (λ one. absurd (true≢false (
    sym (keys.between uid_total (get_or xs i e).uid.now (get_or xs k e).uid.now t (point.1 i e (omega arith) within)
    (keys.sorted_at (λ (x : Mention). x.uid.now) uid_total xs order i k e (ltb-false k i more) below) one)
    ∙ ap (λ (x : Mention). same x.uid.now t) (get_or_default xs i e d within) ∙ other
    )))
    (λ none. none)))

-- or the first mention of it
pub first_there : (xs : List Mention) (t : List ℕ) (i : ℕ) (d : Mention) → Ends xs t i → i < length xs
    → same (get_or xs i d).uid.now t ≡ true
    → (get_or xs i d).number ≡ first_number (map (λ mention. mention_view mention) xs) t
first_there xs t i d point within here = first_at xs t i d within
    (λ k less. keys.not_before (bytes_cmp (get_or xs k d).uid.now t) (point.0 k d (omega arith) less)) here

-- ---- a stable sort in that order

-- the mentions of the UID
abbrev mentions_of : List ℕ → List Mention → List Mention
mentions_of t xs = filter (λ mention. same mention.uid.now t) xs

mentions_stay : (xs ys : List Mention) → IsStable mention_cmp xs ys → (t : List ℕ)
    → mentions_of t ys ≡ mentions_of t xs
mentions_stay xs ys stable t = keys.elements_stay (λ (mention : Mention). mention.uid.now) uid_total xs ys stable t

-- the first one is the first of the mentions of the UID
first_of : (t : List ℕ) (xs : List Mention)
    → first_number (map (λ mention. mention_view mention) (mentions_of t xs)) t
    ≡ first_number (map (λ mention. mention_view mention) xs) t
first_of t [] = refl
first_of t (x ∷ xs) = by_test (same x.uid.now t)
    (λ e. rw e (rw e refl))
    (λ e. rw e (first_of t xs))

pub first_stays : (xs ys : List Mention) → IsStable mention_cmp xs ys → (t : List ℕ)
    → first_number (map (λ mention. mention_view mention) ys) t
    ≡ first_number (map (λ mention. mention_view mention) xs) t
first_stays xs ys stable t =
    sym (first_of t ys)
    ∙ ap (λ l. first_number (map (λ mention. mention_view mention) l) t) (mentions_stay xs ys stable t)
    ∙ first_of t xs
