-- What is found of files that a caller has, by the records of a directory (PS3.3 section F.3.2.2, Referenced File ID).
use Rattle.std.specs.Prelude.{◌≡◌, ℕ, not, ◌&&◌, ◌||◌, ◌==◌, nat_le, List, [], ◌∷◌, length, take, drop}
use Rattle.std.specs.Prelude.{Option, None, Some, option_map, Result, slice_get, slice_range, if◌then◌else◌}
use Rattle.std.specs.Option.{option_or}
use Rattle.dd_elem.specs.FileIdForm.{is_file_id_form}
use Rattle.dd_elem.specs.Tag.{number_of}
use Rattle.dd_version.specs.Fitting.{is_empty}
use Rattle.dd_walk.specs.Saying.{digest_in}
use Rattle.dd_walk.specs.Reading.{IsWalk}
use Rattle.dd_walk.specs.Trees.{Node, Walk}
use Rattle.dd_part10.specs.declared.fault.FileFault.{FileFault}
use Rattle.dd_part10.specs.Reading.{FileParts, file_in as parts_in}
use Rattle.dd_report.specs.Agreements.{Standing, found_in, is_image, mislabelled, standings_below}
use Rattle.dd_report.specs.Finding.{compared, file_in, without_digest}
use Rattle.dd_report.specs.declared.checking.Comparison.{Comparison}
use Rattle.dd_report.specs.declared.findings.Finding.{Finding}
use Rattle.dd_report.specs.declared.findings.Finding.TheVariants.{BadId, Differs, Mislabelled, Missing, NoDigest}
use Rattle.dd_report.specs.declared.findings.Finding.TheVariants.{NoFile, Unreadable}
use Rattle.dd_calls.specs.Faults.{file_cause, file_tag, file_within}
use Rattle.dd_calls.specs.declared.answer.Answer.{Answer}
use Rattle.dd_calls.specs.declared.given_file.GivenFile.{GivenFile}
use Rattle.dd_calls.specs.declared.finding_row.FindingRow.{FindingRow}
use Rattle.dd_calls.specs.Sizes.{over, sized}

-- ---- one file

-- what is found of a file by a digest of its bytes alone
abbrev pub found_by_digest : Comparison → Node → List ℕ → Option Finding
found_by_digest comparison node digest =
    option_or (compared (digest_in node.set) digest) (without_digest comparison.strict node)

-- What is found of a file by this digest of its bytes and by what reading it gives. `found_in` finds the same by the
-- digest and the reading of all its bytes.
abbrev pub found_by_keys : Comparison → Standing → List ℕ → Result FileParts FileFault → Option Finding
found_by_keys comparison standing digest said =
    let differs = compared (digest_in standing.node.set) digest in
    option_or (if comparison.keys && is_image standing.node then option_or differs (mislabelled standing said) else differs)
    (without_digest comparison.strict standing.node)

-- what is found of a file by its digest and by what follows it: its head, a DICOM file that stands for it where keys are
-- compared
abbrev pub found_by_head : Comparison → Standing → List ℕ → Option (Option Finding)
found_by_head comparison standing bytes =
    if nat_le 32 (length bytes)
    then Some (found_by_keys comparison standing (take 32 bytes) (parts_in (drop 32 bytes))) else None

-- What is found of a file of which this is given, by the number of its form. It could not be opened, a read of it
-- failed, all its bytes, the 32 bytes of its digest, or these and then its head. None where it is given in no such form.
abbrev pub found_given : Comparison → Standing → ℕ → List ℕ → Option (Option Finding)
found_given comparison standing form bytes =
    if form == 0 then Some (Some Missing)
    else (if form == 1 then Some (Some Unreadable)
    else (if form == 2 then Some (found_in comparison standing bytes)
    else (if (form == 3) && (length bytes == 32) then Some (found_by_digest comparison standing.node bytes)
    else (if form == 4 then found_by_head comparison standing bytes else None))))

-- nothing is found where the record is not in use or names no file, and its name is found wrong before its file
abbrev pub unless_misnamed : Node → Option Finding → Option Finding
unless_misnamed node found =
    if not node.in_use || is_empty (file_in node) then None
    else (if is_file_id_form (file_in node) then found else Some BadId)

-- what is found of the file that this record names
abbrev pub found_there : Comparison → ℕ → List ℕ → Option Standing → Option (Option Finding)
found_there comparison form bytes None = None
found_there comparison form bytes (Some standing) =
    option_map (unless_misnamed standing.node) (found_given comparison standing form bytes)

-- ---- as rows

-- a finding as a row: its number, the tag at fault, and the numbers that say why a file is no DICOM file
abbrev pub row_by : ℕ → ℕ → ℕ → ℕ → FindingRow
row_by kind tag within cause = record { kind = kind; tag = tag; within = within; cause = cause }

abbrev pub finding_row : Option Finding → FindingRow
finding_row None = row_by 0 0 0 0
finding_row (Some BadId) = row_by 1 0 0 0
finding_row (Some Missing) = row_by 2 0 0 0
finding_row (Some Unreadable) = row_by 3 0 0 0
finding_row (Some (Differs recorded found)) = row_by 4 0 0 0
finding_row (Some (Mislabelled tag)) = row_by 5 (number_of tag) 0 0
finding_row (Some (NoFile fault)) = row_by 6 (file_tag fault) (file_within fault) (file_cause fault)
finding_row (Some NoDigest) = row_by 7 0 0 0

-- ---- many files

-- the row of one more file, before those of the others
abbrev pub before : Option FindingRow → Option (List FindingRow) → Option (List FindingRow)
before None rows = None
before (Some row) None = None
before (Some row) (Some rows) = Some (row ∷ rows)

module _ (comparison : Comparison) (records : List Standing) (contents : List ℕ) where
  -- what is found of a file of which the bytes from this place on are given, up to its end
  abbrev pub row_from : ℕ → GivenFile → Option FindingRow
  row_from start file =
      if nat_le start file.end && nat_le file.end (length contents)
      then option_map finding_row
      (found_there comparison file.given (slice_range contents start file.end) (slice_get records file.row))
      else None

  -- The row of each of these files, where each can be judged. What is given of the first begins at this place, and of
  -- each other one where the file before it ends.
  abbrev pub rows_from : ℕ → List GivenFile → Option (List FindingRow)
  rows_from start [] = Some []
  rows_from start (file ∷ files) = before (row_from start file) (rows_from file.end files)

-- the records of a walk, each with those above it
abbrev pub records_of : Walk → List Standing
records_of walk = standings_below [] walk.trees

-- these are the rows of the files, by the directory in the bytes
pub record AreFound (bytes : List ℕ) (comparison : Comparison) (files : List GivenFile) (contents : List ℕ)
    (rows : List FindingRow) : Type 0 where
  pub walk : Walk
  pub is_walk : IsWalk bytes walk
  pub found : rows_from comparison (records_of walk) contents 0 files ≡ Some rows

-- one of the files can't be judged
pub record IsAmiss (bytes : List ℕ) (comparison : Comparison) (files : List GivenFile) (contents : List ℕ)
    : Type 0 where
  pub walk : Walk
  pub is_walk : IsWalk bytes walk
  pub amiss : rows_from comparison (records_of walk) contents 0 files ≡ None

-- they were given
pub record FindingsGiven (bytes : List ℕ) (comparison : Comparison) (files : List GivenFile) (contents : List ℕ)
    (old new : List FindingRow) (answer : Answer) : Type 0 where
  pub rows : List FindingRow
  pub found : AreFound bytes comparison files contents rows
  pub given : new ≡ over rows old
  pub size : answer ≡ sized 0 (length rows) 0
