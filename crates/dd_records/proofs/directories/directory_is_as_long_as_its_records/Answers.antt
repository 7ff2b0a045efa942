use Rattle.dd_records.proofs.DirectoryElements.{length_is_of_records}
use Rattle.dd_records.proofs.directories.directory_is_as_long_as_its_records.Goals as goal

pub returns : goal.returns
returns c = length_is_of_records
