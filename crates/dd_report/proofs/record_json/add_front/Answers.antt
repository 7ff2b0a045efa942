-- The other members go, and then the UID.
use Rattle.std.proofs.Common.{◌∙◌, ap}
use Rattle.dd_elem.specs.declared.tag.Tag.{Tag}
use Rattle.dd_walk.specs.ForestViews.{tree_view}
use Rattle.dd_walk.specs.Saying.{key_of}
use Rattle.dd_report.proofs.MemberLines.{named_fail, uid_tells}
use Rattle.dd_report.proofs.record_json.add_front.Goals as goal

pub returns-in_err-add_named-clause-written : goal.returns-in_err-add_named-clause-written
returns-in_err-add_named-clause-written g c =
    named_fail c.from_residual.result c.args.level c.args.tree.now _ _ c.from_residual.ensures.0
    c.in_err-add_named.ensures.written

pub returns-clause-written : goal.returns-clause-written
returns-clause-written g c =
    uid_tells c.add_uid.result c.args.level c.args.tree.now c.value_in.result.now _ _ _
    (c.value_in.ensures ∙ ap (λ (t : Tag). key_of t (tree_view c.args.tree.now).node.set) c.uid_tag.ensures)
    c.in_ok-add_named.ensures.written c.add_uid.ensures.written
