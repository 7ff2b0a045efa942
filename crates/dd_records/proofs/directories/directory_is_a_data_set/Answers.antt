use Rattle.dd_records.proofs.DirectoryElements.{elements_are_valid}
use Rattle.dd_records.proofs.directories.directory_is_a_data_set.Goals as goal

pub returns : goal.returns
returns c = elements_are_valid
