use Rattle.dicomdir_laws.proofs.SetsOfParts.{merged_parts}
use Rattle.dicomdir_laws.proofs.laws.a_merge_of_parts_is_the_whole.Goals as goal

pub returns : goal.returns
returns c = λ verb given others old new first last made also choice parts.
    merged_parts verb given others old new first last made also choice parts
