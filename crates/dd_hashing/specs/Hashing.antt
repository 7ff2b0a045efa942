-- A writer that hashes what it takes, as its callers see it.
use Rattle.std.specs.Prelude.{◌≡◌, ℕ, ◌<◌, List}
use Rattle.dd_elem.specs.Device.{last_count}
use Rattle.dd_elem.specs.declared.counts.Counts.{Counts}

pub record Hashing : Type 0 where
  -- the bytes that it took
  pub bytes : List ℕ
  pub counts : Counts

-- a call failed only where the count of calls is at its last value
abbrev pub FailsLate : Counts → Type 0
FailsLate counts = 0 < counts.failures → counts.calls ≡ last_count
