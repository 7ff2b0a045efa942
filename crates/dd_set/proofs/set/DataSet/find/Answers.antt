use Rattle.std.proofs.Common.{rules, ◌≡◌}
use borrow.Author.Tests.{tests}
use Rattle.std.specs.Option.{option_copied}
use Rattle.std.specs.Prelude.{find}
use Rattle.std.proofs.lemmas.Iterator.{YieldsList-from_slice}
use Rattle.std.proofs.lemmas.Iterator.Search.{find_from_yields_List}
use Rattle.dd_set.specs.declared.set.Value.TheViews.{out-DataSet}
use Rattle.dd_grammar.specs.Lists.{same_tag}
use Rattle.dd_set.proofs.FoundElements.{find_in-elements_view}
use Rattle.dd_set.proofs.Seen.{set_view-is}
use Rattle.dd_set.proofs.set.DataSet.find.Goals as goal

pub returns : goal.returns
returns c =
    let es = (out-DataSet c.args.self.now).elements.items in
    let found : option_copied c.find.result ≡ find (λ e. same_tag e.tag c.args.tag) es =
    find_from_yields_List (λ e. same_tag e.tag c.args.tag) _ _ c.find.result c.find.ensures.ran
    (YieldsList-from_slice es cc) (λ x b q k. search (rules, tests)) in
    rw (found, set_view-is c.args.self.now) (find_in-elements_view c.args.tag es)
