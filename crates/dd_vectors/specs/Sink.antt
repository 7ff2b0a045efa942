-- A writer over memory, as its callers see it, and what a write to it does.
use Rattle.std.specs.Prelude.{ℕ, ◌+◌, ◌≤◌, List, length, Option}
use Rattle.dd_elem.specs.Device.{IsLive, IsBeforeFail, passing}
use Rattle.dd_elem.specs.declared.counts.Counts.{Counts}

-- a writer over memory
pub record Store : Type 0 where
  pub bytes : List ℕ
  -- how many bytes it has memory for
  pub capacity : ℕ
  -- after how many bytes it fails for good
  pub fails : Option ℕ
  pub counts : Counts

-- a write to it succeeds where memory is not wanting
abbrev pub IsWritable : Store → Type 0
IsWritable s = IsLive s.counts.calls s.counts.failures × IsBeforeFail s.fails (length s.bytes)

-- how many bytes of a piece of length n the next write takes
abbrev pub taken_len : Store → ℕ → ℕ
taken_len s n = passing s.fails (length s.bytes) n

-- it has memory for n more bytes
abbrev pub HasRoom : Store → ℕ → Type 0
HasRoom s n = length s.bytes + n ≤ s.capacity
