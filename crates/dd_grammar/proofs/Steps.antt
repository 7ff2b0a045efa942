-- Steps of reading: chains of results, tests, and numbers as bytes.
use Rattle.std.proofs.Common.{◌≡◌, ℕ, ◌+◌, ◌^◌, ◌<◌, ◌⊎◌, Bool, true, false, if◌then◌else◌, List, [], ◌∷◌, ◌++◌, length}
use Rattle.std.proofs.Common.{take, drop, Option, Some, Result, Ok, Err, refl, subst, arith, inl, inr}
use Rattle.std.specs.Int.{w16, w32, from_le_bytes}
use Rattle.std.specs.Prelude.{find}
use Rattle.std.proofs.lemmas.Bool.{cases_lt}
use Rattle.std.proofs.lemmas.List.{length-take, get_or-drop, get_or-take, get_or_past, get_or_append_left}
use Rattle.std.proofs.lemmas.Nat.{le_bytes_2, le_bytes_4, from_le_bytes-to_le_bytes_2, from_le_bytes-to_le_bytes_4}
use Rattle.byteorder.specs.Endian.{little_bytes}
use Rattle.dd_grammar.specs.declared.fault.SetFault.{SetFault}
use Rattle.dd_stream.specs.Bytes.{AreBytes}
use Rattle.dd_grammar.specs.Reading.{◌>>=◌}

-- ---- results

-- the value of a step that did not fail
pub bind_ok : {A B : Type 0} (r : Result A SetFault) (f : A → Result B SetFault) (y : B) → (r >>= f) ≡ Ok y → (x : A)
    × (r ≡ Ok x) × (f x ≡ Ok y)
bind_ok (Ok x) f y e = (x, refl, e)
bind_ok (Err d) f y e = absurd cc

-- a chain whose first step did not fail
pub bind_made : {A B : Type 0} (r : Result A SetFault) (f : A → Result B SetFault) (x : A) → r ≡ Ok x → (r >>= f) ≡ f x
bind_made r f x e = rw e refl

-- a test that refuses did not hold
pub passes : {A : Type 0} (b : Bool) (d : SetFault) (r : Result A SetFault) (y : A) → (if b then Err d else r) ≡ Ok y
    → (b ≡ false) × (r ≡ Ok y)
passes true d r y e = absurd cc
passes false d r y e = (refl, e)

-- a test that lets pass held
pub allowed : {A : Type 0} (b : Bool) (d : SetFault) (r : Result A SetFault) (y : A) → (if b then r else Err d) ≡ Ok y
    → (b ≡ true) × (r ≡ Ok y)
allowed true d r y e = (refl, e)
allowed false d r y e = absurd cc

-- one of two was chosen
pub chosen : {A : Type 0} (b : Bool) (r s : A) (y : A) → (if b then r else s) ≡ y → (b ≡ true) × (r ≡ y) ⊎ (b ≡ false)
    × (s ≡ y)
chosen true r s y e = inl (refl, e)
chosen false r s y e = inr (refl, e)

-- a step that gives this
abbrev pub done : {A : Type 0} → A → Result A SetFault
done x = Ok x

-- what is there is one
pub some_is : {A : Type 0} (x y : A) → ◌≡◌ {A = Option A} (Some x) (Some y) → x ≡ y
some_is x y e = cc

-- two steps that give one result give one value
pub ok_is : {A : Type 0} (x y : A) → done x ≡ done y → x ≡ y
ok_is x y e = cc

-- ---- bytes

-- what is left of bytes, and a front of them, are bytes
pub AreBytes-drop : (n : ℕ) (bs : List ℕ) → AreBytes bs → AreBytes (drop n bs)
AreBytes-drop n bs h i = rw get_or-drop (h (n + i))

pub AreBytes-take : (n : ℕ) (bs : List ℕ) → AreBytes bs → AreBytes (take n bs)
AreBytes-take n bs h i =
    elim (cases_lt i n) [
      | inl lt ↦ rw (get_or-take n bs i 0 lt) (h i)
      | inr le ↦ rw (get_or_past (take n bs) i 0 (omega (arith, length-take n bs))) (omega arith)
    ]

-- ---- numbers

-- the number in two or four bytes stands in those alone
pub short_front : (xs ys : List ℕ) → length xs ≡ 2 → from_le_bytes w16 (xs ++ ys) ≡ from_le_bytes w16 xs
short_front xs ys len = rw (get_or_append_left xs ys 0 0 (omega arith), get_or_append_left xs ys 0 1 (omega arith)) refl

pub long_front : (xs ys : List ℕ) → length xs ≡ 4 → from_le_bytes w32 (xs ++ ys) ≡ from_le_bytes w32 xs
long_front xs ys len = rw (
  get_or_append_left xs ys 0 0 (omega arith),
  get_or_append_left xs ys 0 1 (omega arith),
  get_or_append_left xs ys 0 2 (omega arith),
  get_or_append_left xs ys 0 3 (omega arith),
) refl

-- bytes make no more than they have room for
pub short_below : (bs : List ℕ) → AreBytes bs → from_le_bytes w16 bs < 2 ^ 16
short_below bs fits = omega (arith, fits 0, fits 1)

pub long_below : (bs : List ℕ) → AreBytes bs → from_le_bytes w32 bs < 2 ^ 32
long_below bs fits = omega (arith, fits 0, fits 1, fits 2, fits 3)

-- what is written is read again, whatever stands after it
pub short_again : (n : ℕ) (ys : List ℕ) → n < 2 ^ 16 → from_le_bytes w16 (little_bytes 2 n ++ ys) ≡ n
short_again n ys lt = from_le_bytes-to_le_bytes_2 n lt

pub long_again : (n : ℕ) (ys : List ℕ) → n < 2 ^ 32 → from_le_bytes w32 (little_bytes 4 n ++ ys) ≡ n
long_again n ys lt = from_le_bytes-to_le_bytes_4 n lt

-- what is read is written so
pub short_text : (bs : List ℕ) → length bs ≡ 2 → AreBytes bs → little_bytes 2 (from_le_bytes w16 bs) ≡ bs
short_text bs len fits = le_bytes_2 bs _ len fits refl

pub long_text : (bs : List ℕ) → length bs ≡ 4 → AreBytes bs → little_bytes 4 (from_le_bytes w32 bs) ≡ bs
long_text bs len fits = le_bytes_4 bs _ len fits refl

-- ---- searching

-- what is found passes the test
pub found_passes : {X : Type 0} (test : X → Bool) (xs : List X) (x : X) → find test xs ≡ Some x → test x ≡ true
found_passes test [] x e = absurd cc
found_passes {X} test (y ∷ ys) x e =
    elim (chosen (test y) (Some y) (find test ys) (Some x) e) [
      | inl here ↦ let same : y ≡ x = some_is y x here.1 in subst (λ (z : X). test z ≡ true) same here.0
      | inr later ↦ found_passes test ys x later.1
    ]
