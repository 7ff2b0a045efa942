-- The File ID is a member where it has bytes.
use Rattle.std.proofs.Common.{◌∙◌, ap, sym}
use Rattle.dd_walk.specs.ForestViews.{tree_view}
use Rattle.dd_walk.specs.Saying.{key_of}
use Rattle.dd_elem.specs.declared.tag.Tag.{Tag}
use Rattle.dd_report.proofs.MemberLines.{with_file, without_file}
use Rattle.dd_report.proofs.record_json.add_named.Goals as goal

pub returns-then-is_empty-clause-written : goal.returns-then-is_empty-clause-written
returns-then-is_empty-clause-written g c =
    without_file c.add_without_file.result c.args.level c.args.tree.now c.file_in-file.result.now
    c.value_in-key.result.now
    _ _ c.file_in-file.ensures
    (c.value_in-key.ensures ∙ ap (λ (t : Tag). key_of t (tree_view c.args.tree.now).node.set) c.label_tag.ensures)
    (sym c.is_empty.ensures ∙ c.if-is_empty.true) c.add_without_file.ensures.written

pub returns-else-is_empty-clause-written : goal.returns-else-is_empty-clause-written
returns-else-is_empty-clause-written g c =
    with_file c.add_with_file.result c.args.level c.args.tree.now c.file_in-file.result.now c.value_in-key.result.now
    _ _ c.file_in-file.ensures
    (c.value_in-key.ensures ∙ ap (λ (t : Tag). key_of t (tree_view c.args.tree.now).node.set) c.label_tag.ensures)
    (sym c.is_empty.ensures ∙ c.if-is_empty.false) c.add_with_file.ensures.written
