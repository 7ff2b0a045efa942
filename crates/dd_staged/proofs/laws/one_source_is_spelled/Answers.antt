use Rattle.std.proofs.Common.{◌++◌, refl}
use Rattle.dd_staged.specs.Stages.{source_items}
use Rattle.dd_staged.specs.Worked.{end_bytes, item_bytes, one_source, opening_bytes}
use Rattle.dd_staged.proofs.Digested.{stage_length, worked}
use Rattle.dd_staged.proofs.laws.one_source_is_spelled.Goals as goal

pub returns-clause-text : goal.returns-clause-text
returns-clause-text c = worked (source_items one_source) (opening_bytes ++ (item_bytes ++ end_bytes)) refl

pub returns-clause-size : goal.returns-clause-size
returns-clause-size c = stage_length (source_items one_source)
