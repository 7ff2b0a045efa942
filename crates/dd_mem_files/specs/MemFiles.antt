-- Files in memory, as their callers see them, and what changes them.
use Rattle.std.specs.Prelude.{◌≡◌, ◌≢◌, ◌<◌, ℕ, List, [], ◌++◌, ◌&&◌, length, map, take, Option, Some, None, String, Vec}
use Rattle.std.specs.Prelude.{Result, Ok, Err, IsOk, IfOk, OnErr}
use Rattle.std.specs.Prelude.{string_bytes, if◌then◌else◌, Bool, true, bytes_eq, option_map}
use Rattle.std.specs.BTreeMap.{BTreeMap}
use Rattle.std.specs.Map.{lookup}
use Rattle.std.specs.declared.alloc.Global.{Global}
use Rattle.dd_elem.specs.Device.{counted, last_count, IsBeforeFail, passing}
use Rattle.dd_elem.specs.declared.counts.Counts.{Counts}
use Rattle.dd_mem_files.specs.declared.later.Later.{Later}
use Rattle.dd_mem_files.specs.MemReader.{Opened}
use Rattle.dd_mem_files.specs.PlannedFaults.{FailingReader, Planned, after_call, after_opening, fails_at}
use Rattle.dd_files.specs.Calls.{Call}
use Rattle.dd_files.specs.Files.{Held, with_written, written}

-- the path and the bytes of each file
abbrev pub listed : BTreeMap (String Global) (Vec ℕ Global) → List (List ℕ × List ℕ)
listed files = map (λ file. (string_bytes file.0, file.1.items)) files.entries

-- the bytes of the file at a path, where there is one
abbrev pub bytes_at : List (List ℕ × List ℕ) → List ℕ → Option (List ℕ)
bytes_at files path = lookup (bytes_eq path) files

-- each file is as it was
pub record KeepsFiles (old new : List (List ℕ × List ℕ)) : Type 0 where
  pub all : (path : List ℕ) → bytes_at new path ≡ bytes_at old path

-- the file at the path has these bytes, and all others are as they were
pub record SetsFile (old new : List (List ℕ × List ℕ)) (path bytes : List ℕ) : Type 0 where
  pub file : bytes_at new path ≡ Some bytes
  pub others : (other : List ℕ) → other ≢ path → bytes_at new other ≡ bytes_at old other

-- the file at the path is there and grows by these bytes, and all others are as they were
abbrev pub GrowsFile : List (List ℕ × List ℕ) → List (List ℕ × List ℕ) → List ℕ → List ℕ → Type 0
GrowsFile old new path bytes =
    (before : List ℕ) × (bytes_at old path ≡ Some before) × SetsFile old new path (before ++ bytes)

-- a file stands at `from` and none at `path`, which gets its bytes; all other files are as they were
pub record LinksFile (old new : List (List ℕ × List ℕ)) (from path : List ℕ) : Type 0 where
  pub bytes : List ℕ
  pub there : bytes_at old from ≡ Some bytes
  pub free : bytes_at old path ≡ None
  pub sets : SetsFile old new path bytes

-- a change of the file at a path at its second opening
pub record Change : Type 0 where
  pub path : List ℕ
  -- the bytes that it gets
  pub bytes : List ℕ
  -- whether it was opened already
  pub is_opened : Bool

abbrev pub change_of : Later → Change
change_of later = record { path = string_bytes later.path; bytes = later.bytes.items; is_opened = later.is_opened }

-- what is to change after an opening of this path
abbrev pub opened : List ℕ → Option Change → Option Change
opened path later =
    option_map (λ change. if bytes_eq change.path path then record change { is_opened = true } else change) later

-- the bytes that the path gets at its next opening
abbrev pub due : Option Change → List ℕ → Option (List ℕ)
due None path = None
due (Some change) path = if change.is_opened && bytes_eq change.path path then Some change.bytes else None

-- the file at the path gets these bytes, where there are some, and all others are as they were
abbrev pub Gets : List (List ℕ × List ℕ) → List (List ℕ × List ℕ) → List ℕ → Option (List ℕ) → Type 0
Gets old new path None = new ≡ old
Gets old new path (Some bytes) = SetsFile old new path bytes

-- files in memory
pub record Stored : Type 0 where
  -- the path and the bytes of each file
  pub files : List (List ℕ × List ℕ)
  -- the path of the file that is being written
  pub current : Option (List ℕ)
  -- the calls so far, the first of them first
  pub calls : List Call
  -- the writes, and the other calls that were refused
  pub counts : Counts
  pub refusals : ℕ
  -- the file that is to change
  pub later : Option Change
  -- what is to fail
  pub planned : Planned

-- a call that is numbered may be done
abbrev pub MayCall : Stored → Type 0
MayCall s = (s.refusals < last_count) × (s.planned.call ≢ 1)

-- they after such a call that changes nothing else
abbrev pub called : Stored → Stored
called s = record s { planned = after_call s.planned }

-- they after such a call that was refused
abbrev pub refused : Stored → Stored
refused s = record (called s) { refusals = counted s.refusals }

-- an opening of the file at the path
pub record Opens (old new : Stored) (path : List ℕ) : Type 0 where
  pub files : Gets old.files new.files path (due old.later path)
  pub later : new.later ≡ opened path old.later
  pub planned : new.planned ≡ after_opening path old.planned
  pub others : new ≡ record old { files = new.files; later = new.later; planned = new.planned }

-- a new reader of these bytes, which fails after the first `n` of them where `fails` is `Some n`
abbrev pub unread : List ℕ → Option ℕ → Opened
unread bytes fails = record { given = []; left = bytes; fails = fails; counts = record { calls = 0; failures = 0 } }

-- An opening of the file at the path, which gives a new reader of its bytes; or a refusal, which counts and changes
-- nothing else.
abbrev pub OpensOrRefuses : {E : Type 0} → Stored → Stored → List ℕ → Result Opened E → Type 0
OpensOrRefuses old new path (Ok reader) =
    (old.refusals < last_count) × Opens old new path × (bytes_at new.files path ≡ Some reader.left)
    × (reader ≡ unread reader.left (fails_at old.planned.reader path))
OpensOrRefuses old new path (Err e) = new ≡ record old { refusals = counted old.refusals }

-- what they hold
abbrev pub held_of : Stored → Held
held_of s = record { bytes_at = bytes_at s.files; current = s.current; calls = s.calls }

-- what their contract says of it: nothing where a file is to change
abbrev pub told : Option Change → Held → Option Held
told None held = Some held
told (Some change) held = None

abbrev pub told_of : Stored → Option Held
told_of s = told s.later (held_of s)

-- the bytes of the file that is being written, where there is one
abbrev pub written_of : Stored → Option (List ℕ)
written_of s = written (held_of s)

-- the file that is being written is there and grows by these bytes, and all others are as they were
abbrev pub GrowsWritten : Stored → Stored → List ℕ → Type 0
GrowsWritten old new bytes = (path : List ℕ) × (old.current ≡ Some path) × GrowsFile old.files new.files path bytes

-- A write of these bytes works only where writes are not to fail yet. How many it takes then, which the file that is
-- being written grows by; else each file is as it was.
pub record Adds {E : Type 0} (bytes : List ℕ) (result : Result ℕ E) (old new : Stored) : Type 0 where
  pub room : IsOk result → IsBeforeFail old.planned.room 0
  pub len : IfOk result (λ n. n ≡ passing old.planned.room 0 (length bytes))
  pub ok : IfOk result (λ n. GrowsWritten old new (take n bytes))
  pub err : OnErr result (KeepsFiles old.files new.files)

-- the file with none of its bytes
abbrev pub emptied : Option (List ℕ) → Option (List ℕ)
emptied None = None
emptied (Some bytes) = Some []

-- what no write changes: all but the bytes of the file that is being written, the counts of writes and how much
-- they still take
pub record Unwritten : Type 0 where
  pub bytes_at : List ℕ → Option (List ℕ)
  pub current : Option (List ℕ)
  pub calls : List Call
  pub refusals : ℕ
  pub later : Option Change
  pub call : ℕ
  pub reader : Option FailingReader
  pub no_links : Bool

abbrev pub unwritten : Stored → Unwritten
unwritten s = record {
  bytes_at = with_written s.current (emptied (written_of s)) (bytes_at s.files);
  current = s.current;
  calls = s.calls;
  refusals = s.refusals;
  later = s.later;
  call = s.planned.call;
  reader = s.planned.reader;
  no_links = s.planned.no_links;
}
