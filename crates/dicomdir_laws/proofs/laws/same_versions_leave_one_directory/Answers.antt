use Rattle.dicomdir_laws.proofs.KeptListed.{one_directory}
use Rattle.dicomdir_laws.proofs.laws.same_versions_leave_one_directory.Goals as goal

pub returns : goal.returns
returns c = λ verb other given others old new first last made also choice same.
    one_directory verb other given others old new first last made also choice same
