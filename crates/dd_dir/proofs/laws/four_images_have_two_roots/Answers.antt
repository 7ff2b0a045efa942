use Rattle.std.proofs.Common.{refl, sym}
use Rattle.dd_layout.specs.Worked.{eleven_records, four_images, unnamed}
use Rattle.dd_layout.proofs.WorkedOffsets.{records_are}
use Rattle.dd_dir.proofs.RootRecords.{first_is, last_is}
use Rattle.dd_dir.proofs.laws.four_images_have_two_roots.Goals as goal

pub returns-clause-first : goal.returns-clause-first
returns-clause-first c = sym (first_is unnamed four_images eleven_records _ (sym records_are) refl)

pub returns-clause-last : goal.returns-clause-last
returns-clause-last c = sym (last_is unnamed four_images eleven_records _ (sym records_are) refl)
