use Rattle.std.proofs.Common.{rules, ◌≡◌, List, ap, map}
use Rattle.dd_encoding.specs.Elements.{Element}
use Rattle.dd_set.specs.Single.{item_text}
use Rattle.dd_stream.proofs.Going.{sends_same}
use Rattle.dd_staged.specs.Cells.{cell_element}
use Rattle.dd_staged.specs.Sources.{source_view}
use Rattle.dd_staged.specs.Stages.{item_with, source_elements}
use Rattle.dd_staged.proofs.writing.send_item.Goals as goal

pub returns-in-Ok : goal.returns-in-Ok
returns-in-Ok g c =
    let is : map cell_element c.version_cells-cells.result ≡ source_elements (source_view c.args.staged.now) =
    search rules in
    sends_same _ _ _ _ _ _ _ _ (ap (λ (es : List Element). item_text (item_with es)) is) c.send_item_of.ensures
