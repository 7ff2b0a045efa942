-- The tests of the pieces that name withdrawn UIDs decide, and UIDs are taken from such pieces one by one.
use Rattle.std.proofs.Common.{◌≡◌, ℕ, Bool, true, false, List, [], ◌∷◌, Some, None, if◌then◌else◌, drop, zip}
use Rattle.std.proofs.Common.{length, map, refl, sym, ap, ◌∙◌, arith}
use Rattle.std.specs.Prelude.{Decides, ◌==◌}
use Rattle.std.specs.List.{AllByRecursion, filter_map, list_all}
use Rattle.std.specs.Ordering.{is_lt}
use Rattle.std.specs.declared.cmp.Ordering.{Ordering}
use Rattle.std.specs.declared.cmp.Ordering.TheVariants.{Less, Equal, Greater}
use Rattle.std.proofs.lemmas.Bool.{and_parts, and_from, false≢true}
use Rattle.std.proofs.lemmas.Cmp.{nat_list_cmp_total}
use Rattle.std.proofs.lemmas.List.Splits.{length-slice_split}
use Rattle.dd_catalogue.specs.Best.{IsRising}
use Rattle.dd_catalogue.specs.Rising.{above_trans}
use Rattle.dd_elem.specs.Ordered.{bytes_cmp}
use Rattle.dd_elem.specs.Uid.{IsUid, is_uid}
use Rattle.dd_elem.proofs.UidForm.{IsUid_from_is_uid, is_uid_from_IsUid}
use Rattle.dd_dir.specs.Withdrawn.{AreRisingUids, uid_in}
use Rattle.dd_walk.specs.WithdrawnPieces.{pieces_of}

-- ---- they rise

-- the one is smaller than the other
abbrev pub is_below : List ℕ × List ℕ → Bool
is_below pair = is_lt (bytes_cmp pair.0 pair.1)

-- each is smaller than the one after it
abbrev pub are_below : List (List ℕ) → Bool
are_below xs = list_all is_below (zip xs (drop 1 xs))

less_from : (r : Ordering) → is_lt r ≡ true → r ≡ Less
less_from Less e = refl
less_from Equal e = absurd (false≢true e)
less_from Greater e = absurd (false≢true e)

rising_from : (xs : List (List ℕ)) → are_below xs ≡ true → IsRising (λ u. u) bytes_cmp xs
rising_from [] e = tt
rising_from (x ∷ []) e = (tt, tt)
rising_from (x ∷ y ∷ xs) e =
    let p = and_parts (is_below (x, y)) (are_below (y ∷ xs)) e in
    let less : bytes_cmp x y ≡ Less = less_from (bytes_cmp x y) p.0 in
    let rest : IsRising (λ u. u) bytes_cmp (y ∷ xs) = rising_from (y ∷ xs) p.1 in
    ((less, above_trans (λ u. u) nat_list_cmp_total x y xs less rest.0), rest)

from_rising : (xs : List (List ℕ)) → IsRising (λ u. u) bytes_cmp xs → are_below xs ≡ true
from_rising [] up = refl
from_rising (x ∷ []) up = refl
from_rising (x ∷ y ∷ xs) up =
    and_from (is_below (x, y)) (are_below (y ∷ xs)) (ap is_lt up.0.0) (from_rising (y ∷ xs) up.1)

-- ---- each is a UID

uids_from : (xs : List (List ℕ)) → list_all is_uid xs ≡ true → AllByRecursion IsUid xs
uids_from [] e = tt
uids_from (x ∷ xs) e =
    let p = and_parts (is_uid x) (list_all is_uid xs) e in
    (IsUid_from_is_uid x p.0, uids_from xs p.1)

from_uids : (xs : List (List ℕ)) → AllByRecursion IsUid xs → list_all is_uid xs ≡ true
from_uids [] each = refl
from_uids (x ∷ xs) each = and_from (is_uid x) (list_all is_uid xs) (is_uid_from_IsUid x each.0) (from_uids xs each.1)

-- ---- both

pub rise_decides : (xs : List (List ℕ)) (uids rise : Bool) → uids ≡ list_all is_uid xs → rise ≡ are_below xs
    → uids ≡ true → Decides rise (AreRisingUids xs)
rise_decides xs uids rise a b is = (
  (λ e. record { each = uids_from xs (sym a ∙ is); rising = rising_from xs (sym b ∙ e) }),
  (λ h. b ∙ from_rising xs h.rising),
)

pub uids_decide : (xs : List (List ℕ)) (uids : Bool) → uids ≡ list_all is_uid xs → uids ≡ false
    → Decides uids (AreRisingUids xs)
uids_decide xs uids a not = (
  (λ e. absurd (false≢true (sym not ∙ e))),
  (λ h. a ∙ from_uids xs h.each),
)

-- ---- the UIDs of pieces

pub map_same : (xs : List (List ℕ)) → map (λ x. x) xs ≡ xs
map_same [] = refl
map_same (x ∷ xs) = ap (λ (l : List (List ℕ)). x ∷ l) (map_same xs)

uid_taken : (x : List ℕ) → IsUid x → uid_in x ≡ Some x
uid_taken x is = ap (λ (b : Bool). if b then Some x else None) (is_uid_from_IsUid x is)

pub uids_taken : (xs : List (List ℕ)) → AllByRecursion IsUid xs → filter_map uid_in xs ≡ xs
uids_taken [] each = refl
uids_taken (x ∷ xs) each = rw (uid_taken x each.0) (ap (λ (l : List (List ℕ)). x ∷ l) (uids_taken xs each.1))

pub some_piece : (value : List ℕ) → pieces_of value ≡ [] → ⊥
some_piece value none =
    omega (arith, ap (λ (l : List (List ℕ)). length l) none, length-slice_split (λ byte. byte == 92) value)
