-- The blocks of a padded message (FIPS 180-4, 5.1.1 and 5.2.1).
use Rattle.sha2.specs.Sha256.{padded_message}
use Rattle.std.specs.Prelude.{◌≡◌, ◌*◌, ◌/◌, ◌-◌, ℕ, List, drop, length, take}

-- how many blocks the message m has with its padding
abbrev pub block_count : List ℕ → ℕ
block_count m = length (padded_message m) / 64

-- block i of the message m with its padding
abbrev pub block : List ℕ → ℕ → List ℕ
block m i = take 64 (drop (i * 64) (padded_message m))

-- t begins with the blocks of the message m that have padding
abbrev pub IsTail : List ℕ → List ℕ → Type 0
IsTail t m = take (length (padded_message m) - length m / 64 * 64) t ≡ drop (length m / 64 * 64) (padded_message m)
