use Rattle.std.proofs.Common.{◌++◌, refl}
use Rattle.dd_staged.specs.Stages.{source_items}
use Rattle.dd_staged.specs.Worked.{end_bytes, one_slice, opening_bytes, slice_block, slice_front, slice_rest}
use Rattle.dd_staged.proofs.Digested.{stage_length, worked}
use Rattle.dd_staged.proofs.laws.one_slice_is_spelled.Goals as goal

pub returns-clause-text : goal.returns-clause-text
returns-clause-text c = worked (source_items one_slice) (opening_bytes ++ (slice_front ++ (slice_block ++ (slice_rest ++ end_bytes)))) refl

pub returns-clause-size : goal.returns-clause-size
returns-clause-size c = stage_length (source_items one_slice)
