-- What scanning a data set from a reader answers (PS3.5 section 7).
use Rattle.std.specs.Prelude.{◌≡◌, ℕ, List, Option, Result, Ok, Err}
use Rattle.dd_elem.specs.declared.tag.Tag.{Tag}
use Rattle.dd_stream.specs.declared.end.End.TheVariants.{Ended, Failed, TooLong}
use Rattle.dd_grammar.specs.declared.fault.SetFault.TheVariants.{Memory}
use Rattle.dd_scan.specs.declared.found.Scan.{Scan}
use Rattle.dd_scan.specs.declared.scan_fault.ScanFault.{ScanFault}
use Rattle.dd_scan.specs.declared.scan_fault.ScanFault.TheVariants as faults
use Rattle.dd_encoding.specs.declared.syntax.Syntax.{Syntax}
use Rattle.dd_encoding.specs.Elements.{Elements}
use Rattle.dd_grammar.specs.AnswersAs.{FailsAs}
use Rattle.dd_grammar.specs.Faults.{is_memory}
use Rattle.dd_grammar.specs.Reading.{read_all}
use Rattle.dd_scan.specs.Scan.{IsScan, HasWanted}
use Rattle.dd_encoding.specs.Spelling.{Spells}
use Rattle.dd_stream.specs.Streams.{Ends}

-- the bytes spell a set, and the scan is of it
pub record IsScanOf (syntax : Syntax) (wanted : List Tag) (given : List ℕ) (scan : Scan) : Type 0 where
  pub set : Elements
  pub spelled : Spells syntax set given
  pub scans : IsScan wanted scan set

-- The answer of a scan of at most `limit` bytes. The reader gave `given` in it, has `left` still to come, and its
-- failures were `old` and are `new`. Where it neither failed nor gave too much, the answer is what reading these bytes
-- gives, or lack of memory where a wanted element is in them.
abbrev pub IsScanAnswer : Result Scan ScanFault → Syntax → List Tag → ℕ → List ℕ → Option (List ℕ) → ℕ → ℕ → Type 0
IsScanAnswer (Ok scan) syntax wanted limit given left old new = Ends Ended limit given left old new
    × IsScanOf syntax wanted given scan
IsScanAnswer (Err faults.Read) syntax wanted limit given left old new = Ends Failed limit given left old new
IsScanAnswer (Err faults.TooLong) syntax wanted limit given left old new = Ends TooLong limit given left old new
IsScanAnswer (Err (faults.Set e)) syntax wanted limit given left old new = Ends Ended limit given left old new
    × FailsAs is_memory e (read_all syntax given) × (e ≡ Memory → HasWanted syntax wanted given)
