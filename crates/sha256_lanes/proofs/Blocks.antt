-- The blocks of a padded message: its own, and those with the padding.
use Rattle.std.proofs.Common.{◌≡◌, ℕ, suc, ◌+◌, ◌-◌, ◌*◌, ◌/◌, ◌%◌, ◌^◌, ◌<◌, ◌≤◌, List, ◌∷◌, ◌++◌, length, take, drop}
use Rattle.std.proofs.Common.{replicate, slice_set, refl, sym, ap, ◌∙◌, arith, length-append, length-drop}
use Rattle.std.proofs.lemmas.List.{take-append-le, drop-append-le, drop-replicate, take-replicate, take_all, take-take}
use Rattle.std.proofs.lemmas.List.{drop-drop, append_assoc, length-replicate, set-append_right}
use Rattle.std.proofs.lemmas.Slice.{take-put_mid}
use Rattle.std.proofs.Math.Seq.{take-append-add}
use Rattle.std.specs.Int.{w64, to_be_bytes}
use Rattle.sha2.specs.Sha256.{padded_message, padding}
use Rattle.sha256_lanes.specs.Padding.{IsTail, block, block_count}
use borrow.Rule.Slice.PartMut.{put_mid, mid_of}

-- how many bytes there are with the padding
pub length_padded : (m : List ℕ) → length (padded_message m) ≡ length m + ((119 - length m % 64) % 64 + 9)
length_padded m =
    let z : ℕ = (119 - length m % 64) % 64 in
    let bytes : List ℕ = to_be_bytes w64 (length m * 8 % 2 ^ 64) in
    let eight : length bytes ≡ 8 = refl in
    omega (
      arith,
      length-append m (padding (length m)),
      length-append (replicate z 0) bytes,
      length-replicate {A = ℕ} z 0,
      eight,
    )

-- the blocks with padding, as written into an array of zeros: what is left of the message, the bit 1, the length
pub tail_made : (m before ys bytes : List ℕ) (left end n : ℕ) → before ≡ replicate 128 0 → left ≡ length m % 64
    → end ≡ left + ((119 - left) % 64 + 9) → end ≤ 128 → ys ≡ drop (length m - left) m
    → bytes ≡ to_be_bytes w64 (length m * 8 % 2 ^ 64)
    → IsTail (put_mid (end - 8) n (slice_set (ys ++ drop left before) left 0x80) bytes) m
tail_made m before ys bytes left end n eb el ee fits ey ebytes =
    let z : ℕ = (119 - left) % 64 in
    let after : List ℕ = replicate (127 - left) 0 in
    let step : 128 - left ≡ suc (127 - left) = omega arith in
    let none : left - left ≡ 0 = omega arith in
    let zeros : drop left before ≡ 0 ∷ after = rw eb (drop-replicate {X = ℕ} left 128 0 ∙ rw step refl) in
    let ly : length ys ≡ left = ap length ey ∙ length-drop (length m - left) m ∙ omega arith in
    let set : slice_set (ys ++ drop left before) left 0x80 ≡ ys ++ 0x80 ∷ after =
    set-append_right ys (drop left before) left left 0x80 ly (omega arith) ∙ rw (zeros, none) refl in
    let at : end - 8 ≡ length ys + suc z = omega arith in
    let cut : take (end - 8) (slice_set (ys ++ drop left before) left 0x80) ≡ ys ++ 0x80 ∷ replicate z 0 =
    rw (
      set,
      at,
      take-append-add ys (0x80 ∷ after) (suc z),
      take-replicate {X = ℕ} z (127 - left) 0 (omega arith),
    ) refl in
    let lset : length (slice_set (ys ++ drop left before) left 0x80) ≡ 128 =
    ap length set ∙ omega (arith, length-append ys (0x80 ∷ after), length-replicate {A = ℕ} (127 - left) 0) in
    let lb : length bytes ≡ 8 = rw ebytes refl in
    let made : take end (put_mid (end - 8) n (slice_set (ys ++ drop left before) left 0x80) bytes)
    ≡ (ys ++ 0x80 ∷ replicate z 0) ++ bytes =
    take-put_mid (end - 8) n _ bytes end (omega arith) (omega arith) ∙ ap (λ (q : List ℕ). q ++ bytes) cut in
    let whole : length m / 64 * 64 ≡ length m - left = omega arith in
    let count : length (padded_message m) - length m / 64 * 64 ≡ end = omega (arith, length_padded m) in
    let rest : drop (length m / 64 * 64) (padded_message m) ≡ ys ++ padding (length m) =
    drop-append-le (length m / 64 * 64) m (padding (length m)) (omega arith) ∙ rw (whole, ← ey) refl in
    rw (count, rest, made, append_assoc, ebytes, el) refl

-- a block of the message itself
pub block_whole : (m : List ℕ) (i : ℕ) → i < length m / 64 → take (64 * i + 64 - 64 * i) (drop (64 * i) m) ≡ block m i
block_whole m i low =
    let width : 64 * i + 64 - 64 * i ≡ 64 = omega arith in
    let at : 64 * i ≡ i * 64 = omega arith in
    rw (
      width,
      at,
      drop-append-le (i * 64) m (padding (length m)) (omega arith),
      take-append-le 64 (drop (i * 64) m) (padding (length m)) (omega (arith, length-drop (i * 64) m)),
    ) refl

-- the first block with padding
pub block_first : (t m : List ℕ) (i : ℕ) → IsTail t m → i ≡ length m / 64 → take 64 t ≡ block m i
block_first t m i tail at =
    let k : ℕ = length (padded_message m) - length m / 64 * 64 in
    sym (take-take 64 k t (omega (arith, length_padded m))) ∙ rw (tail, at) refl

-- the second
pub block_second : (t m : List ℕ) (i : ℕ) → IsTail t m → length t ≡ 128 → length m / 64 < i → i < block_count m
    → mid_of 64 64 t ≡ block m i
block_second t m i tail len low high =
    let k : ℕ = length (padded_message m) - length m / 64 * 64 in
    let all : take k t ≡ t = take_all k t (omega (arith, length_padded m)) in
    let next : i * 64 ≡ length m / 64 * 64 + 64 = omega (arith, length_padded m) in
    rw (← all, tail, drop-drop 64 (length m / 64 * 64) (padded_message m), next) refl
