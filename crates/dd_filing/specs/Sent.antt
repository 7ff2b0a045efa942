-- What a tee says of its reader and its writer: it reads from the one, and sends to the other what passes.
use Rattle.std.specs.Prelude.{ℕ, ◌+◌, ◌≤◌, min, List, Option, None, Some}
use Rattle.dd_elem.specs.Device.{last_count}
use Rattle.dd_elem.specs.declared.counts.Counts.{Counts}
use Rattle.dd_elem.specs.declared.device.Write.{Ghosts as WriteOf}
use Rattle.dd_stream.specs.Sends.{Goes, Stops, counts_of}

-- a count of the tee: its reader's, and the reads since a write failed
abbrev pub late_count : ℕ → Option ℕ → ℕ
late_count n None = n
late_count n (Some late) = min (n + late) last_count

-- all that passed was written, or a write of it failed
abbrev pub IsSent : {R : Type 0} → Option ℕ → List ℕ → Option (List ℕ) × R → Option (List ℕ) × R → Counts → Counts
    → Type 0
IsSent None bytes old new before after = Goes bytes old new before after
IsSent (Some late) bytes old new before after = (taken : ℕ) × Stops bytes 0 taken old new before after

-- the same of a writer
abbrev pub SentTo : {W : Type 0} → WriteOf W → Option ℕ → List ℕ → W → W → Type 0
SentTo writer late bytes old new = IsSent late bytes (writer.contents old, writer.rest old)
    (writer.contents new, writer.rest new) (counts_of writer old) (counts_of writer new)

-- where a write failed, the reader was called before, so that its count of calls is at most the last count
abbrev pub IsCounted : Option ℕ → ℕ → Type 0
IsCounted None calls = Unit {0}
IsCounted (Some late) calls = calls ≤ last_count
