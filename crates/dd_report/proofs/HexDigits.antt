-- The four hexadecimal digits of a number.
use Rattle.std.proofs.Common.{◌≡◌, ◌∙◌, ℕ, suc, ◌/◌, ◌%◌, ◌<◌, ◌≤◌, List, [], ◌∷◌, true, refl, ap, arith}
use Rattle.std.proofs.Common.{eq-eqb, ⊎_elim}
use Rattle.std.specs.Prelude.{◌==◌}
use Rattle.std.specs.Fmt.{char_count, digit_glyph, digits, digits_onto, padded_integral}
use Rattle.std.proofs.lemmas.Bool.{cases_lt, cond-false, cond-true, ne_eqb}
use Rattle.std.proofs.lemmas.Fmt.{hex_one_digit, hex_two_digits}
use Rattle.dd_elem.specs.Tag.{four_digits}

-- the digits of a number, from its last one on
step : (k n : ℕ) (acc : List ℕ) → 16 ≤ n
    → digits_onto (suc k) 16 true n acc ≡ digits_onto k 16 true (n / 16) (digit_glyph true (n % 16) ∷ acc)
step k n acc large = cond-false (n / 16 == 0) _ _ (ne_eqb (n / 16) 0 (λ none. omega arith))

last : (k n : ℕ) (acc : List ℕ) → n < 16 → digits_onto (suc k) 16 true n acc ≡ digit_glyph true (n % 16) ∷ acc
last k n acc small = cond-true (n / 16 == 0) _ _ (eq-eqb (n / 16) 0 (omega arith))

onto : (n : ℕ) → digits 16 true n ≡ digits_onto 64 16 true n []
unfolding digits
onto n = refl

three_digits : (n : ℕ) → 256 ≤ n → n < 4096
    → digits 16 true n ≡ digit_glyph true (n / 256) ∷ digit_glyph true (n / 16 % 16) ∷ digit_glyph true (n % 16) ∷ []
three_digits n large small =
    let same : n / 16 / 16 % 16 ≡ n / 256 = omega arith in
    onto n ∙ step 63 n [] (omega arith) ∙ step 62 (n / 16) (digit_glyph true (n % 16) ∷ []) (omega arith)
    ∙ last 61 (n / 16 / 16) (digit_glyph true (n / 16 % 16) ∷ digit_glyph true (n % 16) ∷ []) (omega arith)
    ∙ ap (λ (d : ℕ). digit_glyph true d ∷ digit_glyph true (n / 16 % 16) ∷ digit_glyph true (n % 16) ∷ []) same

all_digits : (n : ℕ) → 4096 ≤ n → n < 65536
    → digits 16 true n ≡ digit_glyph true (n / 4096) ∷ digit_glyph true (n / 256 % 16) ∷ digit_glyph true (n / 16 % 16)
    ∷ digit_glyph true (n % 16) ∷ []
all_digits n large small =
    let first : n / 16 / 16 / 16 % 16 ≡ n / 4096 = omega arith in
    let second : n / 16 / 16 % 16 ≡ n / 256 % 16 = omega arith in
    onto n ∙ step 63 n [] (omega arith) ∙ step 62 (n / 16) (digit_glyph true (n % 16) ∷ []) (omega arith)
    ∙ step 61 (n / 16 / 16) (digit_glyph true (n / 16 % 16) ∷ digit_glyph true (n % 16) ∷ []) (omega arith)
    ∙ last 60 (n / 16 / 16 / 16)
    (digit_glyph true (n / 16 / 16 % 16) ∷ digit_glyph true (n / 16 % 16) ∷ digit_glyph true (n % 16) ∷ [])
    (omega arith)
    ∙ rw (first, second) refl

-- with zeros before them

one : (n : ℕ) → n < 16
    → digit_glyph true (n / 4096) ∷ digit_glyph true (n / 256 % 16) ∷ digit_glyph true (n / 16 % 16)
    ∷ digit_glyph true (n % 16) ∷ [] ≡ four_digits n
unfolding padded_integral char_count
one n small =
    let a : n / 4096 ≡ 0 = omega arith in
    let b : n / 256 % 16 ≡ 0 = omega arith in
    let c : n / 16 % 16 ≡ 0 = omega arith in
    let d : n % 16 ≡ n = omega arith in
    rw (hex_one_digit true n small, a, b, c, d) refl

two : (n : ℕ) → 16 ≤ n → n < 256
    → digit_glyph true (n / 4096) ∷ digit_glyph true (n / 256 % 16) ∷ digit_glyph true (n / 16 % 16)
    ∷ digit_glyph true (n % 16) ∷ [] ≡ four_digits n
unfolding padded_integral char_count
two n large small =
    let a : n / 4096 ≡ 0 = omega arith in
    let b : n / 256 % 16 ≡ 0 = omega arith in
    let c : n / 16 % 16 ≡ n / 16 = omega arith in
    rw (hex_two_digits true n large small, a, b, c) refl

three : (n : ℕ) → 256 ≤ n → n < 4096
    → digit_glyph true (n / 4096) ∷ digit_glyph true (n / 256 % 16) ∷ digit_glyph true (n / 16 % 16)
    ∷ digit_glyph true (n % 16) ∷ [] ≡ four_digits n
unfolding padded_integral char_count
three n large small =
    let a : n / 4096 ≡ 0 = omega arith in
    let b : n / 256 % 16 ≡ n / 256 = omega arith in
    rw (three_digits n large small, a, b) refl

four : (n : ℕ) → 4096 ≤ n → n < 65536
    → digit_glyph true (n / 4096) ∷ digit_glyph true (n / 256 % 16) ∷ digit_glyph true (n / 16 % 16)
    ∷ digit_glyph true (n % 16) ∷ [] ≡ four_digits n
unfolding padded_integral char_count
four n large small = rw (all_digits n large small) refl

pub four_hex : (n : ℕ) → n < 65536
    → digit_glyph true (n / 4096) ∷ digit_glyph true (n / 256 % 16) ∷ digit_glyph true (n / 16 % 16)
    ∷ digit_glyph true (n % 16) ∷ [] ≡ four_digits n
four_hex n small =
    ⊎_elim
    (λ under. ⊎_elim
    (λ less. ⊎_elim (λ least. one n least) (λ most. two n most less) (cases_lt n 16))
    (λ most. three n most under) (cases_lt n 256))
    (λ most. four n most small) (cases_lt n 4096)
