-- A file that was read, as the definitions see it.
use Rattle.dd_set.specs.Views.{set_view}
use Rattle.dd_part10.specs.declared.file.DicomFile.{DicomFile}
use Rattle.dd_part10.specs.Reading.{FileParts}

-- a file without where it lies in memory
abbrev pub file_view : DicomFile → FileParts
file_view f = record { meta = f.meta; set = set_view f.set; set_at = f.set_at }
