-- A reader of a file in memory, as its callers see it, and what a read of it does.
use Rattle.std.specs.Prelude.{◌≡◌, ◌↔◌, ℕ, min, List, ◌++◌, length, take, drop, Option, Result, Ok, Err, IsOk, IfOk}
use Rattle.std.specs.Prelude.{true, false}
use Rattle.dd_elem.specs.Counts.{counts_after}
use Rattle.dd_elem.specs.Device.{IsLive, IsBeforeFail, passing}
use Rattle.dd_elem.specs.declared.counts.Counts.{Counts}

-- a reader of a file
pub record Opened : Type 0 where
  -- the bytes that it gave, and those that are still to come
  pub given : List ℕ
  pub left : List ℕ
  -- after how many bytes it fails for good
  pub fails : Option ℕ
  pub counts : Counts

-- a read of it succeeds
abbrev pub IsReadable : Opened → Type 0
IsReadable s = IsLive s.counts.calls s.counts.failures × IsBeforeFail s.fails (length s.given)

-- how many bytes the next read gives, with room for `room`
abbrev pub next_len : Opened → ℕ → ℕ
next_len s room = passing s.fails (length s.given) (min room (length s.left))

-- it after a read with this result
abbrev pub after_read : {E : Type 0} → Opened → Result ℕ E → Opened
after_read s (Ok n) = record s {
  given = s.given ++ take n s.left;
  left = drop n s.left;
  counts = counts_after s.counts true;
}
after_read s (Err e) = record s { counts = counts_after s.counts false }

-- A read of it with room for `room` bytes: exactly when it works, how many bytes come then, and what it is afterwards.
pub record Reads {E : Type 0} (room : ℕ) (result : Result ℕ E) (old new : Opened) : Type 0 where
  pub readable : IsOk result ↔ IsReadable old
  pub len : IfOk result (λ n. n ≡ next_len old room)
  pub after : new ≡ after_read old result
