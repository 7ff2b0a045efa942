-- How a stream of a reader's bytes moves on: what it keeps of the last read, how many bytes it may still read, and how
-- it came to its end.
use Rattle.std.specs.Prelude.{◌≡◌, ◌≤◌, ℕ, ◌+◌, List, [], ◌++◌, length, take, Option, Some, None, IsSome}
use Rattle.std.specs.Io.KnownBytes.{Consumes, IsAtEnd}
use Rattle.dd_elem.specs.Device.{Gives, HasWorked, HasFailed}
use Rattle.dd_elem.specs.declared.device.Read.{Ghosts as ReadOf}
use Rattle.dd_stream.specs.declared.end.End.{End}
use Rattle.dd_stream.specs.declared.end.End.TheVariants.{Ended, Failed, TooLong}
use Rattle.dd_stream.specs.declared.stream.Stream.{Stream}
use Rattle.dd_stream.specs.Bytes.{AreBytes}

-- the bytes that came in one read, or none where it failed
abbrev pub came : Option ℕ → List ℕ → List ℕ
came (Some n) room = take n room
came None room = []

-- where a stream stands: the bytes that it read and did not give, how many it may still read, and how it ended
pub record Position : Type 0 where
  pub held : List ℕ
  pub left : ℕ
  pub end : Option End

abbrev pub position_of : {R : Type 0} → Stream R → Position
position_of stream = record { held = stream.kept; left = stream.left; end = stream.end }

-- the bytes that may still come: those that it holds, and others only while it has not ended
pub record MayCome (p : Position) (rest : List ℕ) : Type 0 where
  pub more : List ℕ
  pub parts : rest ≡ p.held ++ more
  pub shut : IsSome p.end → more ≡ []

-- at most this number of bytes may come
abbrev pub may_read : Option End → ℕ → ℕ
may_read None left = left + 1
may_read (Some end) left = 0

abbrev pub most_of : Position → ℕ
most_of p = length p.held + may_read p.end p.left

-- what the counts of a reader say, where it gave `given` and came to this end, with a limit of `left` bytes
abbrev pub Ends : End → ℕ → List ℕ → Option (List ℕ) → ℕ → ℕ → Type 0
Ends Ended left given remaining old new = (length given ≤ left) × IsAtEnd remaining × HasWorked old new
Ends Failed left given remaining old new = (length given ≤ left) × HasFailed old new
Ends TooLong left given remaining old new = (length given ≡ left + 1) × HasWorked old new

module _ {R : Type 0} (reader : ReadOf R) where
  -- a stream that has not ended did not fail; one that ended did so as its reader says; and then it rests
  abbrev pub Turns : R → R → List ℕ → ℕ → ℕ → Option End → Option End → Type 0
  Turns old new given left now None None = (reader.failures new ≡ reader.failures old) × (now + length given ≡ left)
      × (reader.calls new ≤ reader.calls old + length given)
  Turns old new given left now None (Some end) =
      Ends end left given (reader.remaining new) (reader.failures old) (reader.failures new)
      × (reader.calls new ≤ reader.calls old + left + 1)
  Turns old new given left now (Some end) after = (after ≡ Some end) × (new ≡ old) × (given ≡ [])

  -- Between two places of a stream these bytes were taken. Meanwhile its reader gave some.
  pub record Moves (old new : R) (before after : Position) (taken : List ℕ) : Type 0 where
    pub given : List ℕ
    pub gave : Gives reader.has_given old new given
    pub known : Consumes (reader.remaining old) (reader.remaining new) given
    pub bytes : AreBytes given
    pub parts : before.held ++ given ≡ taken ++ after.held
    pub turns : Turns old new given before.left after.left before.end after.end
