-- The texts of the paths of a pile.
use Rattle.std.proofs.Common.{◌≡◌, ◌≤◌, ◌∙◌, ◌-◌, ◌/◌, ◌^◌, ℕ, List, [], ◌++◌, length, ap, append-nil, refl, arith}
use Rattle.std.proofs.lemmas.List.{length-append, length-replicate}
use Rattle.std.specs.Fmt.{char_count, padded_integral, format_spec, styled_decimal}
use Rattle.std.specs.Prelude.{codes, decimal, replicate}
use Rattle.dd_files.specs.Paths.{IsPathIn}
use Rattle.dd_files.proofs.OnePaths.{one_name}
use Rattle.dd_pile.specs.Paths.{IsCopyOfPile, IsListPath, copy_name, digits_at_least, folder_name}

-- a name after its folder
pub path_is : (folder name base path : List ℕ) → IsPathIn folder [] base → path ≡ base ++ name
    → IsPathIn folder name path
path_is folder name base path at is = record {
  bare = λ e. is ∙ ap (λ (xs : List ℕ). xs ++ name) (at.bare e);
  ended = λ e. is ∙ ap (λ (xs : List ℕ). xs ++ name) (at.ended e ∙ append-nil folder);
  apart = λ some e. is
      ∙ ap (λ (xs : List ℕ). xs ++ name) (at.apart some e ∙ append-nil (folder ++ codes "/"));
}

-- as many zeros as digits are lacking, and nothing else
zeros : (width n none : ℕ) → none ≡ 0
    → replicate (width - length (decimal n) - 0 - none) 48 ++ (decimal n ++ []) ≡ digits_at_least width n
zeros width n none is =
    let same : width - length (decimal n) - 0 - none ≡ width - length (decimal n) = omega (arith, is) in
    ap (λ (k : ℕ). replicate k 48 ++ (decimal n ++ [])) same
    ∙ ap (λ (xs : List ℕ). replicate (width - length (decimal n)) 48 ++ xs) (append-nil (decimal n))

-- a number that is printed with zeros in front, in a width of 3 and of 6
pub three_digits : (n : ℕ) → styled_decimal (format_spec 32 0 4 3 (2 ^ 64 - 1)) n ≡ digits_at_least 3 n
unfolding padded_integral char_count
three_digits n = zeros 3 n 0 refl

pub six_digits : (n : ℕ) → styled_decimal (format_spec 32 0 4 6 (2 ^ 64 - 1)) n ≡ digits_at_least 6 n
unfolding padded_integral char_count
six_digits n = zeros 6 n 0 refl

-- ---- a copy is never at the path of the list

many_digits : (count n : ℕ) → count ≤ length (digits_at_least count n)
many_digits count n =
    let zeros = length-replicate {A = ℕ} (count - length (decimal n)) 48 in
    let all = length-append (replicate (count - length (decimal n)) 48) (decimal n) in
    omega (arith, zeros, all)

long_name : (number : ℕ) → 10 ≤ length (copy_name number)
long_name number =
    let folder = many_digits 3 (number / 1000) in
    let last = many_digits 6 number in
    let first = length-append (folder_name number) (codes "/") in
    let all = length-append (folder_name number ++ codes "/") (digits_at_least 6 number) in
    omega (arith, folder, last, first, all)

pub list_apart : (pile path : List ℕ) → IsListPath pile path → IsCopyOfPile pile path → ⊥
list_apart pile path list copy =
    let same : codes "STAGED" ≡ copy_name copy.0 = one_name pile (codes "STAGED") (copy_name copy.0) path list copy.1 in
    omega (arith, ap length same, long_name copy.0)
