-- What stands in a string for a byte, by the letter of its short escape.
use Rattle.std.proofs.Common.{◌≡◌, ◌∙◌, ℕ, List, [], ◌∷◌, ◌<◌, ◌≤◌, ◌/◌, ◌%◌, Result, sym, subst, ap, ap₂}
use Rattle.std.proofs.lemmas.Bool.{le-ltb, lt-ltb}
use Rattle.std.specs.Prelude.{cond, nat_lt}
use Rattle.std.specs.Char.{digit_char}
use Rattle.json.specs.Print.{escape_byte, escape_letter}
use Rattle.dd_lines.specs.Telling.{Tells, Way}

by_letter : (n : ℕ) (one two : List ℕ) → 0 < n → cond (nat_lt 0 n) one two ≡ one
by_letter n one two some = rw (lt-ltb 0 n some)

no_letter : (n : ℕ) (one two : List ℕ) → n ≤ 0 → cond (nat_lt 0 n) one two ≡ two
no_letter n one two none = rw (le-ltb 0 n none)

abbrev pub six : ℕ → List ℕ
six x = 92 ∷ 117 ∷ 48 ∷ 48 ∷ digit_char (x / 16) ∷ digit_char (x % 16) ∷ []

abbrev pub otherwise : ℕ → List ℕ
otherwise x = cond (nat_lt x 32) (six x) (x ∷ [])

with_letter : (x letter : ℕ) → letter ≡ escape_letter x → 0 < letter → escape_byte x ≡ 92 ∷ letter ∷ []
unfolding escape_byte
with_letter x letter is some =
    by_letter (escape_letter x) (92 ∷ escape_letter x ∷ []) (otherwise x) (subst (λ (n : ℕ). 0 < n) is some)
    ∙ ap (λ (n : ℕ). 92 ∷ n ∷ []) (sym is)

without_letter : (x letter : ℕ) → letter ≡ escape_letter x → letter ≤ 0 → escape_byte x ≡ otherwise x
unfolding escape_byte
without_letter x letter is none =
    no_letter (escape_letter x) (92 ∷ escape_letter x ∷ []) (otherwise x) (subst (λ (n : ℕ). n ≤ 0) is none)

below : (x : ℕ) (one two : List ℕ) → x < 32 → cond (nat_lt x 32) one two ≡ one
below x one two small = rw (lt-ltb x 32 small)

not_below : (x : ℕ) (one two : List ℕ) → 32 ≤ x → cond (nat_lt x 32) one two ≡ two
not_below x one two large = rw (le-ltb x 32 large)

-- ---- the three ways in which a byte goes

pub letter_tells : {T E : Type 0} (r : Result T E) (x letter : ℕ) (a b : Way) → letter ≡ escape_letter x → 0 < letter
    → Tells r (92 ∷ letter ∷ []) a b → Tells r (escape_byte x) a b
letter_tells r x letter a b is some tells =
    subst (λ (text : List ℕ). Tells r text a b) (sym (with_letter x letter is some)) tells

pub digits_tell : {T E : Type 0} (r : Result T E) (x letter high low : ℕ) (a b : Way) → letter ≡ escape_letter x
    → letter ≤ 0 → x < 32 → high ≡ digit_char (x / 16) → low ≡ digit_char (x % 16)
    → Tells r (92 ∷ 117 ∷ 48 ∷ 48 ∷ high ∷ low ∷ []) a b → Tells r (escape_byte x) a b
digits_tell r x letter high low a b is none small high_is low_is tells =
    let digits : 92 ∷ 117 ∷ 48 ∷ 48 ∷ high ∷ low ∷ [] ≡ six x =
    ap₂ (λ (h l : ℕ). 92 ∷ 117 ∷ 48 ∷ 48 ∷ h ∷ l ∷ []) high_is low_is in
    subst (λ (text : List ℕ). Tells r text a b)
    (digits ∙ sym (without_letter x letter is none ∙ below x (six x) (x ∷ []) small)) tells

pub plain_tells : {T E : Type 0} (r : Result T E) (x letter : ℕ) (a b : Way) → letter ≡ escape_letter x → letter ≤ 0
    → 32 ≤ x → Tells r (x ∷ []) a b → Tells r (escape_byte x) a b
plain_tells r x letter a b is none large tells =
    subst (λ (text : List ℕ). Tells r text a b)
    (sym (without_letter x letter is none ∙ not_below x (six x) (x ∷ []) large)) tells
