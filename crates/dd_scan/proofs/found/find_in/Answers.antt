use Rattle.std.proofs.Common.{rules}
use borrow.Author.Tests.{tests}
use Rattle.std.proofs.lemmas.Iterator.{YieldsList-from_slice}
use Rattle.std.proofs.lemmas.Iterator.Search.{find_from_yields_List}
use Rattle.dd_grammar.specs.Lists.{same_tag}
use Rattle.dd_scan.proofs.found.find_in.Goals as goal

pub returns : goal.returns
returns c =
    find_from_yields_List (λ found. same_tag found.tag c.args.tag) _ _ c.find.result c.find.ensures.ran
    (YieldsList-from_slice c.args.found.now cc) (λ x b q k. search (rules, tests))
