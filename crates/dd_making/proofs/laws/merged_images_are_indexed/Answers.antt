-- The sets list together the versions of the sources.
use Rattle.dd_making.proofs.SingleImages.{plans_agree}
use Rattle.dd_making.proofs.laws.merged_images_are_indexed.Goals as goal

pub returns : goal.returns
returns c = λ choice limits answers sets indexed merged of a b.
    plans_agree choice limits answers sets of indexed merged a b
