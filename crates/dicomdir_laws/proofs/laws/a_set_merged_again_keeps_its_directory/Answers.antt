use Rattle.dicomdir_laws.proofs.SetAgain.{merged_again}
use Rattle.dicomdir_laws.proofs.laws.a_set_merged_again_keeps_its_directory.Goals as goal

pub returns : goal.returns
returns c = λ verb given others old new first last made also choice copies.
    merged_again verb given others old new first last made also choice copies
