-- The test `is_uid` decides `IsUid`.
use Rattle.std.proofs.Common.{◌≡◌, ◌≤◌, ◌<◌, ℕ, Bool, true, false, ◌&&◌, eqb, List, [], ◌∷◌, length, refl, sym, ap, ◌∙◌}
use Rattle.std.proofs.Common.{arith}
use Rattle.std.specs.Prelude.{All, Decides}
use Rattle.std.specs.List.{list_all, slice_split, join_with_byte}
use Rattle.std.proofs.lemmas.Bool.{and_parts, and_from, and_left, leb-true, le-leb, lt-leb, eqb-false, ne_eqb, not-true}
use Rattle.std.proofs.lemmas.Bool.{not_from_false}
use Rattle.std.proofs.lemmas.Bool.Decides.{Decides-by_and}
use Rattle.std.proofs.lemmas.List.Elements.{All-nil, All-cons, All-head, All-tail, All-weaker}
use Rattle.std.proofs.lemmas.List.Splits.{slice_split_none, slice_split_at, join_with_byte-slice_split}
use Rattle.dd_elem.specs.Characters.{IsDigit, is_digit}
use Rattle.dd_elem.specs.Uid.{IsComponent, IsUid, is_component, is_uid, max_uid_length}

-- a digit is tested
is_digit_decides : (byte : ℕ) → Decides (is_digit byte) (IsDigit byte)
is_digit_decides byte = (
  λ e. let p = and_parts _ _ e in (leb-true 48 byte p.0, leb-true byte 57 p.1),
  λ h. and_from _ _ (le-leb 48 byte h.0) (le-leb byte 57 h.1),
)

-- bytes are tested for digits
digits_decides : (bytes : List ℕ) → Decides (list_all is_digit bytes) (All IsDigit bytes)
digits_decides bytes = Decides-by_and is_digit IsDigit (list_all is_digit) is_digit_decides refl (λ _ _. refl) bytes

-- what passes the test is a component
component_from_test : (bytes : List ℕ) → is_component bytes ≡ true → IsComponent bytes
component_from_test [] e = absurd (cc)
component_from_test (digit ∷ []) e = record {
  digits = All-cons IsDigit digit [] ((is_digit_decides digit).0 e) (All-nil IsDigit);
  not_empty = omega arith;
  no_leading_zero = λ zero_first. refl;
}
component_from_test (first ∷ next ∷ more) e =
    let p = and_parts _ _ e in
    record {
      digits = (digits_decides (first ∷ next ∷ more)).0 p.1;
      not_empty = omega arith;
      no_leading_zero = λ zero_first. absurd (eqb-false first 48 (not-true _ p.0) zero_first);
    }

-- the test passes at each component
test_from_component : (bytes : List ℕ) → IsComponent bytes → is_component bytes ≡ true
test_from_component [] h = absurd (omega (arith, h.not_empty))
test_from_component (digit ∷ []) h = (is_digit_decides digit).1 (All-head IsDigit digit [] h.digits)
test_from_component (first ∷ next ∷ more) h =
    let other : first ≡ 48 → ⊥ = λ zero_first. absurd (omega (arith, h.no_leading_zero zero_first)) in
    and_from _ _ (not_from_false _ (ne_eqb first 48 other)) ((digits_decides (first ∷ next ∷ more)).1 h.digits)

-- the test of a component decides
component_decides : (bytes : List ℕ) → Decides (is_component bytes) (IsComponent bytes)
component_decides bytes = (component_from_test bytes, test_from_component bytes)

-- components are tested
components_decides : (parts : List (List ℕ)) → Decides (list_all is_component parts) (All IsComponent parts)
components_decides parts = Decides-by_and is_component IsComponent (list_all is_component) component_decides refl
    (λ _ _. refl) parts

-- no dot stands in a component
no_dot : (component : List ℕ) → IsComponent component → All (λ byte. eqb byte 46 ≡ false) component
no_dot component h = All-weaker IsDigit (λ byte. eqb byte 46 ≡ false)
    (λ byte digit. ne_eqb byte 46 (λ e. omega (arith, digit.0))) component h.digits

-- components that are joined by dots are found again by cutting at the dots
slice_split-join : (first : List ℕ) (others : List (List ℕ)) → All IsComponent (first ∷ others)
    → slice_split (λ byte. eqb byte 46) (join_with_byte 46 (first ∷ others)) ≡ first ∷ others
slice_split-join first [] each = slice_split_none (λ byte. eqb byte 46) first
    (no_dot first (All-head IsComponent first [] each))
slice_split-join first (next ∷ others) each =
    slice_split_at (λ byte. eqb byte 46) first 46 (join_with_byte 46 (next ∷ others))
    (no_dot first (All-head IsComponent first (next ∷ others) each)) refl
    ∙ ap (λ (l : List (List ℕ)). first ∷ l) (slice_split-join next others
    (All-tail IsComponent first (next ∷ others) each))

-- what is cut from a UID at its dots is its components
split_is_components : (bytes : List ℕ) (components : List (List ℕ)) → All IsComponent components
    → bytes ≡ join_with_byte 46 components → 1 ≤ length bytes → slice_split (λ byte. eqb byte 46) bytes ≡ components
split_is_components bytes [] each joined some = absurd (omega (arith, ap length joined))
split_is_components bytes (first ∷ others) each joined some =
    ap (slice_split (λ byte. eqb byte 46)) joined ∙ slice_split-join first others each

-- the test passes at each UID
pub is_uid_from_IsUid : (bytes : List ℕ) → IsUid bytes → is_uid bytes ≡ true
unfolding is_uid
is_uid_from_IsUid bytes h =
    let parts = split_is_components bytes h.components h.each h.joined h.not_empty in
    and_from _ _ (le-leb (length bytes) max_uid_length h.short) (ap (list_all is_component) parts
    ∙ (components_decides h.components).1 h.each)

-- what passes the test is not empty
not_empty_from_split : (bytes : List ℕ) → list_all is_component (slice_split (λ byte. eqb byte 46) bytes) ≡ true
    → 1 ≤ length bytes
not_empty_from_split [] e = absurd (cc)
not_empty_from_split (byte ∷ bytes) e = omega arith

-- what passes the test is a UID
pub IsUid_from_is_uid : (bytes : List ℕ) → is_uid bytes ≡ true → IsUid bytes
unfolding is_uid
IsUid_from_is_uid bytes e =
    let p = and_parts _ _ e in
    record {
      components = slice_split (λ byte. eqb byte 46) bytes;
      each = (components_decides (slice_split (λ byte. eqb byte 46) bytes)).0 p.1;
      joined = sym (join_with_byte-slice_split 46 bytes);
      not_empty = not_empty_from_split bytes p.1;
      short = leb-true (length bytes) max_uid_length p.0;
    }

-- no more than `max_uid_length` characters, each part between dots being tested
pub is_uid-short : (bytes : List ℕ) → length bytes ≤ max_uid_length → is_uid bytes ≡ list_all is_component
    (slice_split (λ byte. eqb byte 46) bytes)
unfolding is_uid
is_uid-short bytes short = ap (λ (b : Bool). b && list_all is_component (slice_split (λ byte. eqb byte 46) bytes))
    (le-leb (length bytes) max_uid_length short)

-- more than `max_uid_length` characters fail the test
pub is_uid-long : (bytes : List ℕ) → max_uid_length < length bytes → is_uid bytes ≡ false
unfolding is_uid
is_uid-long bytes long = and_left _ _ (lt-leb (length bytes) max_uid_length long)

-- the test decides
pub is_uid_decides : (bytes : List ℕ) → Decides (is_uid bytes) (IsUid bytes)
is_uid_decides bytes = (IsUid_from_is_uid bytes, is_uid_from_IsUid bytes)

-- the test's result decides
pub decides_from_is : (bytes : List ℕ) (result : Bool) → result ≡ is_uid bytes → Decides result (IsUid bytes)
decides_from_is bytes result is = (λ e. IsUid_from_is_uid bytes (sym is ∙ e), λ h. is ∙ is_uid_from_IsUid bytes h)
