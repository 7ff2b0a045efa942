-- What `index` makes of the files at its sources.
use Rattle.std.specs.Prelude.{◌≡◌, ◌↔◌, ◌≤◌, ◌≢◌, ◌⊎◌, ℕ, zero, suc, List, Bool, true, false, Option, Result, Ok, Err, None}
use Rattle.std.specs.Prelude.{[], IfErr, IfOk, IfSome, IsOk, IsSomeAnd, length, min, slice_get, slice_index_or, sum_by}
use Rattle.std.specs.Prelude.{if◌then◌else◌, unwrap_or}
use Rattle.std.specs.List.{AllByRecursion, list_any}
use Rattle.std.specs.Str.{IsUtf8}
use Rattle.dd_elem.specs.Device.{last_count}
use Rattle.dd_elem.specs.FileId.{max_rank}
use Rattle.dd_engine.specs.declared.choice.Choice.{Choice}
use Rattle.dd_engine.specs.declared.engine.Indexed.{Indexed}
use Rattle.dd_engine.specs.declared.noted_index.NotedIndex.{NotedIndex}
use Rattle.dd_engine.specs.Indexed.{IsIndexed}
use Rattle.dd_engine.specs.IndexNotes.{NotesIndex}
use Rattle.dd_sources.specs.Readings.{IsOfOne, Reading, answers_of}
use Rattle.dd_files.specs.Files.{Held}
use Rattle.dd_files.specs.Keeping.{IfSaid}
use Rattle.dd_keys.specs.declared.fault.KeyFault.{KeyFault}
use Rattle.dd_keys.specs.declared.fault.KeyFault.TheVariants.{Read}
use Rattle.dd_keys.specs.Sources.{Answer, AnswersSource, IsOfSource}
use Rattle.dd_layout.specs.Limits.{Limits}
use Rattle.dicomdir.specs.FileSupply.{bytes_read}
use Rattle.dicomdir.specs.Origins.{IsPathAt}
use Rattle.dicomdir.specs.declared.source_counts.SourceCounts.{SourceCounts}
use Rattle.dd_file_set.specs.Standing.{StandsWhole}

-- the most bytes of a source
abbrev pub most_of_source : ℕ
most_of_source = 4294967295

-- the limits of a directory of at most this many bytes
abbrev pub limits_of : ℕ → Limits
limits_of bytes = record { bytes = bytes; per_level = max_rank }

-- ---- what was read

-- The answer for the file of the source of this name. A name that is not UTF-8 is no path, so there is no such answer;
-- nor is there one where the files say what they hold, and none stands there.
pub record AnswersName (files : Option Held) (name : List ℕ) (answer : Answer) : Type 0 where
  pub settled : IfErr answer IsOfSource
  pub path : IsUtf8 name
  pub right : IfSome files (λ held.
      IsSomeAnd (held.bytes_at name) (λ file. AnswersSource most_of_source file answer))

-- what was read of it: this answer, or its bytes could not be had
abbrev pub IsRead : Option Held → List ℕ → Reading → Type 0
IsRead files name (Ok answer) = AnswersName files name answer
IsRead files name (Err fault) = IsOfOne fault

-- this was read of the sources of these names
pub record AreRead (sources : List (List ℕ)) (old : Option Held) (readings : List Reading) : Type 0 where
  pub count : length readings ≡ length sources
  pub each : (at : ℕ) → IfSome (slice_get readings at) (IsRead old (slice_index_or sources at []))

-- each source was opened and read to its end
abbrev pub NoneFailed : List Reading → Type 0
NoneFailed readings = AllByRecursion (λ reading. IsOk reading) readings

-- Each of these sources was read, or where the run keeps going, could not be. The best of all versions that they have is
-- laid out under the label that is asked for.
pub record Indexes (keeps_going : Bool) (choice : Choice) (bytes : ℕ) (sources : List (List ℕ)) (old : Option Held)
    (noted : NotedIndex) : Type 0 where
  pub readings : List Reading
  pub read : AreRead sources old readings
  pub all : keeps_going ≡ false → NoneFailed readings
  pub notes : NotesIndex choice (limits_of bytes) (answers_of readings) (Ok noted)

-- the bytes of the files at these of the names, up to the largest count
abbrev pub bytes_of_files : Held → List (List ℕ) → List ℕ → ℕ
bytes_of_files held sources picks =
    min (sum_by (λ at. length (unwrap_or (held.bytes_at (slice_index_or sources at [])) [])) picks) last_count

-- as many bytes were read of these sources as the files at their names have, where the files say what they hold
abbrev pub CountsPicks : List (List ℕ) → List SourceCounts → List ℕ → Option Held → Type 0
CountsPicks sources counts picks files =
    IfSome files (λ held. bytes_read counts picks ≡ bytes_of_files held sources picks)

-- ---- the status

-- a source was skipped since its bytes could not be had
abbrev pub is_unread : KeyFault → Bool
is_unread Read = true
is_unread fault = false

abbrev pub has_failed : List (ℕ × KeyFault) → Bool
has_failed skipped = list_any (λ skip. is_unread skip.1) skipped

-- the status of a run that skipped these sources, where its output has this status
abbrev pub status_past : ℕ → List (ℕ × KeyFault) → ℕ
status_past zero skipped = if has_failed skipped then 3 else 0
status_past (suc status) skipped = suc status

-- a status that `index` may end with: 3 only where it goes on past sources that fail
abbrev pub IsIndexStatus : Bool → ℕ → Type 0
IsIndexStatus keeps_going status = (status ≤ 1) ⊎ ((status ≡ 3) × (keeps_going ≡ true))

-- ---- what was made

-- The file-set of the layout stands in the folder, and each image is a copy. The status is 0 exactly where each source
-- was opened and read to its end.
pub record MakesIndex (choice : Choice) (bytes : ℕ) (sources : List (List ℕ)) (folder : List ℕ) (status : ℕ)
    (old new : Option Held) : Type 0 where
  pub readings : List Reading
  pub read : AreRead sources old readings
  pub all : (status ≡ 0) ↔ NoneFailed readings
  pub indexed : Indexed
  pub is : IsIndexed choice (limits_of bytes) (answers_of readings) indexed
  pub stands : IfSaid (StandsWhole (IsPathAt sources) (λ _ _. ⊥) (λ _. None) folder indexed.plan indexed.picks.items)
      old new

-- `index` that is done has made this
abbrev pub DoneIndexes : {E : Type 0} → Result ℕ E → Choice → ℕ → List (List ℕ) → List ℕ → Option Held → Option Held
    → Type 0
DoneIndexes r choice bytes sources folder old new =
    IfOk r (λ status. status ≢ 1 → MakesIndex choice bytes sources folder status old new)
