-- What a call read from a reader, and what it answers.
use Rattle.std.specs.Prelude.{◌≡◌, ℕ, ◌+◌, ◌<◌, ◌≤◌, List, Option, Some, IsNone, IsSome}
use Rattle.std.specs.Io.KnownBytes.{Consumes, IsAtEnd}
use Rattle.dd_elem.specs.Device.{Gives, HasFailed, HasWorked}
use Rattle.dd_elem.specs.declared.device.Read.{Ghosts as ReadOf}

-- What one read with room for `room` bytes does to a reader that gives these bytes. The result is how many they are, or
-- None where the reader fails.
pub record ReadsOnce {R : Type 0} (reader : ReadOf R) (room : ℕ) (result : Option ℕ) (old new : R) (given : List ℕ)
    : Type 0 where
  pub gave : Gives reader.has_given old new given
  pub known : Consumes (reader.remaining old) (reader.remaining new) given
  pub end : result ≡ Some 0 → 0 < room → IsAtEnd (reader.remaining new)
  pub called : reader.calls new ≤ reader.calls old + 1
  pub worked : IsSome result → HasWorked (reader.failures old) (reader.failures new)
  pub failed : IsNone result → HasFailed (reader.failures old) (reader.failures new)

-- Between two states a reader gave these bytes, in at most `limit` reads and one more. `answers` says what is answered,
-- by the bytes that it gave, the bytes that are left, where it tells them, and its failures before and after.
pub record ReadsUpTo {R : Type 0} (reader : ReadOf R) (limit : ℕ) (old new : R)
    (answers : List ℕ → Option (List ℕ) → ℕ → ℕ → Type 0) : Type 0 where
  pub given : List ℕ
  pub gave : Gives reader.has_given old new given
  pub known : Consumes (reader.remaining old) (reader.remaining new) given
  pub few : reader.calls new ≤ reader.calls old + limit + 1
  pub answered : answers given (reader.remaining new) (reader.failures old) (reader.failures new)
