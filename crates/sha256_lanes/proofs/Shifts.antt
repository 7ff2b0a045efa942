-- Shifts of all lanes, whatever their number.
use Rattle.std.proofs.Common.{◌≡◌, ℕ, ◌<◌, ◌-◌, ◌*◌, ◌/◌, ◌%◌, ◌^◌, List, length, replicate, slice_index, bit_or, arith}
use Rattle.std.proofs.Common.{refl, ap, ◌∙◌, w32}
use Rattle.std.proofs.lemmas.Simd.{get_or-replicate, get_or-zip2, length-replicate, length-zip2}
use Rattle.std.specs.Simd.Lanes.{zip2}
use Rattle.std.specs.Int.{rotate_right}

-- an operator with the same number at each lane
pub splat_each : (f : ℕ → ℕ → ℕ) (k n : ℕ) (a : List ℕ) → length a ≡ n → (j : ℕ) → j < n
    → slice_index (zip2 f a (replicate n k)) j ≡ f (slice_index a j) k
splat_each f k n a len j low =
    get_or-zip2 f a (replicate n k) j 0 0 0 (omega (arith, len)) (omega (arith, length-replicate {A = ℕ} n k))
    ∙ ap (f (slice_index a j)) (get_or-replicate n j k 0 low)

-- two shifts of each lane under or are a rotation
pub shifts_rotate : (k n : ℕ) → 0 < k → k < 32 → (a : List ℕ) → length a ≡ n → (j : ℕ) → j < n
    → slice_index (zip2 bit_or
    (zip2 (λ x n. x / 2 ^ n) a (replicate n k))
    (zip2 (λ x n. x * 2 ^ n % 2 ^ 32) a (replicate n (32 - k)))) j
    ≡ rotate_right w32 (slice_index a j) k
shifts_rotate k n low high a len j lt =
    let e : k % 32 ≡ k = omega arith in
    let f : (32 - k) % 32 ≡ 32 - k = omega arith in
    let right : List ℕ = zip2 (λ x n. x / 2 ^ n) a (replicate n k) in
    let left : List ℕ = zip2 (λ x n. x * 2 ^ n % 2 ^ 32) a (replicate n (32 - k)) in
    let same : length a ≡ length (replicate n k) = omega (arith, len, length-replicate {A = ℕ} n k) in
    let same_left : length a ≡ length (replicate n (32 - k)) =
    omega (arith, len, length-replicate {A = ℕ} n (32 - k)) in
    get_or-zip2 bit_or right left j 0 0 0
    (omega (arith, len, length-zip2 (λ x n. x / 2 ^ n) a (replicate n k) same))
    (omega (arith, len, length-zip2 (λ x n. x * 2 ^ n % 2 ^ 32) a (replicate n (32 - k)) same_left))
    ∙ rw (
      splat_each (λ x n. x / 2 ^ n) k n a len j lt,
      splat_each (λ x n. x * 2 ^ n % 2 ^ 32) (32 - k) n a len j lt,
      e,
      f,
    ) refl
