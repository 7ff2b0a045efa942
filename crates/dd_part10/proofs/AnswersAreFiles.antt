-- What the code returned of bytes is a file.
use Rattle.std.proofs.Common.{ℕ, ◌^◌, ◌<◌, List, length, Result, Ok, Err}
use Rattle.std.specs.Prelude.{IfOk}
use Rattle.dd_stream.specs.Bytes.{AreBytes}
use Rattle.dd_set.specs.Views.{set_view}
use Rattle.dd_part10.specs.declared.fault.FileFault.{FileFault}
use Rattle.dd_part10.specs.declared.file.DicomFile.{DicomFile}
use Rattle.dd_part10.specs.File.{IsFile}
use Rattle.dd_grammar.specs.AnswersAs.{AnswersAs}
use Rattle.dd_part10.specs.Faults.{is_memory}
use Rattle.dd_part10.specs.Views.{file_view}
use Rattle.dd_part10.specs.Reading.{file_in}
use Rattle.dd_part10.proofs.Found.{file_found}

-- an answer is a file
pub is_found : (file : List ℕ) (r : Result DicomFile FileFault) → AreBytes file → length file < 2 ^ 64
    → AnswersAs is_memory file_view r (file_in file) → IfOk r (λ f. IsFile file f.meta (set_view f.set) f.set_at)
is_found file (Ok f) fits room e = file_found file (file_view f) e fits room
is_found file (Err d) fits room e = tt
