-- The status of a command that did its work.
use Rattle.std.specs.Prelude.{◌≡◌, ◌⊎◌, ℕ}

-- the command did its work, whatever it found
abbrev pub IsDone : ℕ → Type 0
IsDone status = (status ≡ 0) ⊎ (status ≡ 3)
