-- How the lane of one message runs from block to block.
use Rattle.std.proofs.Common.{◌≡◌, ◌≢◌, ℕ, zero, suc, ◌+◌, ◌<◌, ◌≤◌, List, inl, inr, slice_index, refl, sym, ◌∙◌, arith}
use Rattle.std.proofs.lemmas.Bool.Decides.{eqb_tells}
use Rattle.std.specs.Prelude.{IsFalse, IsTrue, eqb}
use Rattle.sha2.specs.Sha256.{compress, digest_bytes, hash_after, initial_hash_256, padded_message, sha256}
use Rattle.sha2.proofs.Absorbing256.{hash_after_next}
use Rattle.sha256_lanes.specs.Lanes.{lane, lane_at}
use Rattle.sha256_lanes.specs.Padding.{block, block_count}
use Rattle.sha256_lanes.proofs.Blocks.{length_padded}

-- word k of a hash value in lane j
pub lane_word : (j : ℕ) (x : List (List ℕ)) (k : ℕ) → k < 8 → slice_index (lane j x) k ≡ lane_at x k j
lane_word j x zero h = refl
lane_word j x (suc zero) h = refl
lane_word j x (suc (suc zero)) h = refl
lane_word j x (suc (suc (suc zero))) h = refl
lane_word j x (suc (suc (suc (suc zero)))) h = refl
lane_word j x (suc (suc (suc (suc (suc zero))))) h = refl
lane_word j x (suc (suc (suc (suc (suc (suc zero)))))) h = refl
lane_word j x (suc (suc (suc (suc (suc (suc (suc zero))))))) h = refl
lane_word j x (suc (suc (suc (suc (suc (suc (suc (suc n)))))))) h = absurd (omega arith)

-- after i blocks of the message m its hash value is h, and its digest is out once it has no more
abbrev pub HasRun : List ℕ → ℕ → List ℕ → List ℕ → Type 0
HasRun m i h out = (i ≤ block_count m → h ≡ hash_after initial_hash_256 (padded_message m) i)
    × (block_count m ≤ i → out ≡ sha256 m)

pub HasRun_none : (m h out : List ℕ) → h ≡ initial_hash_256 → HasRun m 0 h out
unfolding hash_after
HasRun_none m h out e = (λ _. e, λ few. absurd (omega (arith, length_padded m)))

-- the block after i blocks; n is how many it has, and the digest comes out with the last
pub HasRun_next : (m h out b next after : List ℕ) (i n : ℕ) → HasRun m i h out → n ≡ block_count m
    → (i < block_count m → b ≡ block m i)
    → next ≡ compress h b → (IsTrue (eqb (i + 1) n) → after ≡ digest_bytes next 8)
    → (IsFalse (eqb (i + 1) n) → after ≡ out)
    → HasRun m (i + 1) next after
unfolding sha256
HasRun_next m h out b next after i n run count eb en last more =
    let ini : List ℕ = initial_hash_256 in
    let p : List ℕ = padded_message m in
    let hash : i < block_count m → next ≡ hash_after ini p (i + 1) =
    λ low. en ∙ rw (run.0 (omega arith), eb low) (sym (hash_after_next ini p i)) in (
      λ few. hash (omega arith),
      λ done. elim (eqb_tells (i + 1) n) [
        | inl is_last ↦
            let e : i + 1 ≡ block_count m = is_last.1 ∙ count in
            last is_last.0 ∙ rw (hash (omega (arith, e)), e) refl
        | inr has_more ↦
            let other : i + 1 ≢ n = has_more.1 in
            more has_more.0 ∙ run.1 (omega (arith, other, count))
      ],
    )
