-- After the spaces what the record says.
use Rattle.std.proofs.Common.{codes}
use Rattle.std.specs.List.{repeat}
use Rattle.dd_walk.specs.ForestViews.{tree_view}
use Rattle.dd_report.specs.Listing.{record_parts}
use Rattle.dd_lines.specs.Telling.{shown_line}
use Rattle.dd_lines.proofs.GoingOn.{tells_then}
use Rattle.dd_report.proofs.listing.list_in_words.Goals as goal

pub returns-clause-written : goal.returns-clause-written
returns-clause-written g c =
    tells_then c.add_parts.result (repeat c.args.level (codes "  "))
    (shown_line (record_parts c.args.form (tree_view c.args.tree.now).node)) _ _ _ c.in_ok-add_indent.ensures.written
    c.add_parts.ensures.written
