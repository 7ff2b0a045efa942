-- The copy of a source in a pile, and what is found of the source.
use Rattle.std.specs.Prelude.{◌≡◌, ◌≤◌, ◌+◌, ℕ, List, true, length, take, Option, Some, IfErr, IfSome, option_map}
use Rattle.std.specs.Prelude.{Result, Ok, Err}
use Rattle.dd_elem.specs.declared.device.Read.{Ghosts as ReadOf}
use Rattle.dd_keys.specs.Sources.{Answer, AnswersSource, IsOfSource}
use Rattle.dd_files.specs.Files.{Held, grown, started}
use Rattle.dd_filing.specs.Ahead.{ahead_limit}
use Rattle.dd_filing.specs.Taken.{Taken}
use Rattle.dd_filing.specs.declared.places.Ahead.{Ahead}
use Rattle.dd_filing.specs.declared.places.Ahead.TheVariants as known
use Rattle.dd_filing.specs.declared.source_copies.SourceCopy.{SourceCopy}
use Rattle.dd_filing.specs.declared.copying.FilingFault.{FilingFault}
use Rattle.dd_filing.specs.declared.copying.FilingFault.TheVariants as faults
use Rattle.dd_files.specs.Keeping.{IsFree}
use Rattle.dd_files.specs.Reasons.{HasCounted, HasFailedReader}
use Rattle.dd_pile.specs.declared.copies.Copied.{Copied}
use Rattle.dd_pile.specs.declared.copies.Copied.TheVariants.{Absent, Cut, Whole}
use Rattle.dd_pile.specs.declared.refusal.StageRefusal.{StageRefusal}
use Rattle.dd_pile.specs.declared.refusal.StageRefusal.TheVariants as refusals
use Rattle.dd_pile.specs.Paths.{IsCopyPath}

-- the most bytes of a source that has a version
abbrev pub most_of_source : ℕ
most_of_source = 4294967295

-- A file was copied with these bytes, and this is the answer: what `index` finds in the bytes of the file. The copy has
-- all of them, or where they are too many, as many as show that.
pub record IsCopyOf (file : Option (List ℕ)) (copy : List ℕ) (answer : Answer) : Type 0 where
  pub bytes : List ℕ
  pub stands : file ≡ Some bytes
  pub front : copy ≡ take (most_of_source + 1) bytes
  pub found : AnswersSource most_of_source bytes answer

-- ---- making it

-- a new file is being written at the place of the copy with this number, from 1, where none stood
pub record StartsCopy (pile : List ℕ) (number : ℕ) (old new : Option Held) : Type 0 where
  pub path : List ℕ
  pub place : IsCopyPath pile number path
  pub free : IsFree path old
  pub started : new ≡ option_map (started path) old

-- the copy of the source at this path was written there
pub record WritesCopy (pile : List ℕ) (number : ℕ) (source : List ℕ) (copy : SourceCopy) (old new : Option Held)
    : Type 0 where
  pub bytes : List ℕ
  pub start : Option Held
  pub starts : StartsCopy pile number old start
  pub written : new ≡ option_map (grown bytes) start
  pub size : copy.size ≡ length bytes
  pub settled : IfErr copy.found IsOfSource
  pub of : IfSome old (λ files. IsCopyOf (files.bytes_at source) bytes copy.found)

-- a first part of it was written there
pub record WritesFront (pile : List ℕ) (number : ℕ) (old new : Option Held) : Type 0 where
  pub bytes : List ℕ
  pub start : Option Held
  pub starts : StartsCopy pile number old start
  pub written : new ≡ option_map (grown bytes) start

-- what became of the copy of the source at this path
abbrev pub MakesCopy : List ℕ → ℕ → List ℕ → Copied → Option Held → Option Held → Type 0
MakesCopy pile number source (Whole copy) old new = WritesCopy pile number source copy old new
MakesCopy pile number source Absent old new = new ≡ old
MakesCopy pile number source Cut old new = WritesFront pile number old new

-- the evidence where it is not whole: the files have refused a call, or a read of one of their readers has failed
abbrev pub IsCopiedDueTo : {R : Type 0} → ReadOf R → ℕ → Copied → Type 0
IsCopiedDueTo reads refusals (Whole copy) = Unit {0}
IsCopiedDueTo reads refusals Absent = HasCounted refusals
IsCopiedDueTo reads refusals Cut = HasFailedReader reads

-- what a fault makes of the copy of this source
abbrev pub cut_or_refused : FilingFault → ℕ → Result Copied StageRefusal
cut_or_refused faults.Memory at = Err refusals.Memory
cut_or_refused faults.Unsent at = Err (refusals.CopyUnsent at)
cut_or_refused fault at = Ok Cut

-- ---- what is known of it before

-- what was read of the file with these bytes: where the reader came to its end, they all, and not too many
abbrev pub IsTakenOf : Option (List ℕ) → Taken → Type 0
IsTakenOf file taken = taken.whole ≡ true → (file ≡ Some taken.bytes) × (length taken.bytes ≤ ahead_limit)

abbrev pub IsKnownOf : Option (List ℕ) → Ahead → Type 0
IsKnownOf file (known.File taken) = IsTakenOf file taken
IsKnownOf file known.Absent = Unit {0}
IsKnownOf file known.Unknown = Unit {0}

-- this is known of the file at the path
abbrev pub IsKnown : List ℕ → Ahead → Option Held → Type 0
IsKnown path ahead files = IfSome files (λ held. IsKnownOf (held.bytes_at path) ahead)
