-- What reading a file from a reader answers (PS3.10 section 7.1).
use Rattle.std.specs.Prelude.{◌≡◌, ℕ, List, Option, Result, Ok, Err}
use Rattle.dd_elem.specs.declared.tag.Tag.{Tag}
use Rattle.dd_stream.specs.declared.end.End.TheVariants.{Ended, Failed, TooLong}
use Rattle.dd_stream.specs.Streams.{Ends}
use Rattle.dd_part10.specs.declared.scanned.Scanned.{Scanned}
use Rattle.dd_part10.specs.declared.stream_fault.StreamFault.{StreamFault}
use Rattle.dd_part10.specs.declared.stream_fault.StreamFault.TheVariants as faults
use Rattle.dd_part10.specs.File.{IsFile}
use Rattle.dd_part10.specs.Memory.{IsRefused}
use Rattle.dd_part10.specs.Reading.{FileParts, file_in}
use Rattle.dd_part10.specs.Taking.{IsScanned}

-- the bytes are a file, which reading gives, and the scan is of it
pub record IsScannedOf (wanted : List Tag) (given : List ℕ) (scanned : Scanned) : Type 0 where
  pub file : FileParts
  pub is : IsFile given file.meta file.set file.set_at
  pub read : file_in given ≡ Ok file
  pub scans : IsScanned wanted scanned file

-- The answer of reading a file of at most `limit` bytes. The reader gave `given` in it, has `left` still to come, and
-- its failures were `old` and are `new`. Where it neither failed nor gave too much, the answer is what reading these
-- bytes gives.
abbrev pub IsFileAnswer : Result Scanned StreamFault → List Tag → ℕ → List ℕ → Option (List ℕ) → ℕ → ℕ → Type 0
IsFileAnswer (Ok scanned) wanted limit given left old new = Ends Ended limit given left old new
    × IsScannedOf wanted given scanned
IsFileAnswer (Err faults.Read) wanted limit given left old new = Ends Failed limit given left old new
IsFileAnswer (Err faults.TooLong) wanted limit given left old new = Ends TooLong limit given left old new
IsFileAnswer (Err (faults.File e)) wanted limit given left old new = Ends Ended limit given left old new
    × IsRefused wanted e given
