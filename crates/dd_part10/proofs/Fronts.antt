-- Bytes that begin with a front, and what stands after it.
use Rattle.std.proofs.Common.{◌≡◌, ◌≢◌, ℕ, ◌-◌, ◌<◌, ◌==◌, Bool, true, false, if◌then◌else◌, List, [], ◌∷◌, ◌++◌}
use Rattle.std.proofs.Common.{length, take, drop, Option, Some, None, option_map, Bor, refl, sym, ap, ◌∙◌, arith}
use Rattle.std.proofs.Common.{eq-eqb}
use Rattle.std.proofs.lemmas.Bool.{eqb-true}
use Rattle.std.proofs.lemmas.List.{nil_from_length, length-drop, take_all}
use Rattle.std.specs.Option.{MatchOption}
use Rattle.dd_part10.specs.Reading.{rest_after}

-- after a front that was put there stands the rest
pub rest_after-front : (front rest : List ℕ) → rest_after front (front ++ rest) ≡ Some rest
rest_after-front [] rest = refl
rest_after-front (byte ∷ front) rest = rw (eq-eqb byte byte refl) (rest_after-front front rest)

-- a byte that was tested is equal, and what stands after it is the rest
tested : (b : Bool) (o : Option (List ℕ)) (rest : List ℕ) → (if b then o else None) ≡ Some rest
    → (b ≡ true) × (o ≡ Some rest)
tested true o rest e = (refl, e)
tested false o rest e = absurd cc

-- bytes after a front are what the whole has after it
pub rest_after-is : (front bs rest : List ℕ) → rest_after front bs ≡ Some rest → bs ≡ front ++ rest
rest_after-is [] bs rest e = cc
rest_after-is (first ∷ front) [] rest e = absurd cc
rest_after-is (first ∷ front) (byte ∷ bs) rest e =
    let t = tested (first == byte) (rest_after front bs) rest e in
    let same : first ≡ byte = eqb-true _ _ t.0 in
    let more : bs ≡ front ++ rest = rest_after-is front bs rest t.1 in
    cc

-- nothing stands after a front that the bytes do not begin with
none_is : (o : Option (List ℕ)) → ((rest : List ℕ) → o ≡ Some rest → ⊥) → ◌≡◌ {A = Option (List ℕ)} None o
none_is None h = refl
none_is (Some rest) h = absurd (h rest refl)

-- what `strip_prefix` says of bytes
pub rest_after-strips : (front bs : List ℕ) (r : Option (Bor (List ℕ)))
    → MatchOption r ((rest : List ℕ) → bs ≢ front ++ rest) (λ x. bs ≡ front ++ x.now)
    → option_map (λ x. x.now) r ≡ rest_after front bs
rest_after-strips front bs None h = none_is (rest_after front bs) (λ rest e. h rest (rest_after-is front bs rest e))
rest_after-strips front bs (Some x) h = sym (ap (λ (s : List ℕ). rest_after front s) h ∙ rest_after-front front x.now)

-- fewer bytes than a front has hold nothing after it
pub rest_after-short : (front : List ℕ) (n : ℕ) (bs : List ℕ) → 0 < length front → length bs < n
    → rest_after front (drop n bs) ≡ None
rest_after-short [] n bs some few = absurd (omega (arith, some))
rest_after-short (first ∷ front) n bs some few =
    let none : drop n bs ≡ [] = nil_from_length (drop n bs) (omega (arith, length-drop n bs)) in
    ap (λ (s : List ℕ). rest_after (first ∷ front) s) none

-- the slice from a place on
pub from_place : (n : ℕ) (bs : List ℕ) → take (length bs - n) (drop n bs) ≡ drop n bs
from_place n bs = take_all (length bs - n) (drop n bs) (omega (arith, length-drop n bs))
