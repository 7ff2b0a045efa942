use Rattle.dd_layout.proofs.WorkedOffsets.{records_are, size_is, size_with_one, size_with_two}
use Rattle.dd_layout.proofs.laws.four_images_are_planned.Goals as goal

pub returns-clause-records : goal.returns-clause-records
returns-clause-records c = records_are

pub returns-clause-size : goal.returns-clause-size
returns-clause-size c = size_is

pub returns-clause-withdrawn : goal.returns-clause-withdrawn
returns-clause-withdrawn c = size_with_one

pub returns-clause-more : goal.returns-clause-more
returns-clause-more c = size_with_two
