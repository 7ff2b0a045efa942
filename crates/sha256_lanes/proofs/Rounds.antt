-- One round after the other.
use Rattle.std.proofs.Common.{◌≡◌, ℕ, ◌+◌, List, slice_index, refl}
use Rattle.sha2.specs.Sha256.{round, round_constants, rounds}
use Rattle.sha2.proofs.Schedule256.{rounds_next}

-- the round after t rounds
pub rounds_then : (h ws v : List ℕ) (t : ℕ) (next : List ℕ) → v ≡ rounds h ws t
    → next ≡ round v (slice_index round_constants t) (slice_index ws t) → next ≡ rounds h ws (t + 1)
rounds_then h ws v t next ev en = rw en (rw (rounds_next h ws t, ← ev) refl)
