-- The values as the line has them are compared with the record's.
use Rattle.std.proofs.Common.{◌≡◌, ◌∙◌, rules, true}
use Rattle.std.specs.Str.{bytes_eq}
use Rattle.dd_records.specs.Records.{kind_of}
use Rattle.dd_walk.specs.declared.forest.Tree.{the_lemmas}
use Rattle.dd_walk.specs.ForestViews.{tree_view}
use Rattle.dd_walk.specs.Saying.{key_of}
use Rattle.dd_selection.specs.Selection.{tag_of}
use Rattle.dd_selection.proofs.AskedValues.{has_one}
use Rattle.dd_selection.proofs.selection.has_one_of.Goals as goal

pub returns-then-eq : goal.returns-then-eq
returns-then-eq c =
    let kind : bytes_eq (tree_view c.args.tree.now).node.kind (kind_of c.args.level) ≡ true = search (rules, the_lemmas) in
    let is : c.value_in.result.now ≡ key_of (tag_of c.args.level) (tree_view c.args.tree.now).node.set =
    search (rules, the_lemmas) in
    c.is_one_of.ensures ∙ has_one c.args.level c.args.values.now (tree_view c.args.tree.now).node c.value_in.result.now kind is
