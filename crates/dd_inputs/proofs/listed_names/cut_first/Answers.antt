-- The list has a zero byte, or it is one part.
use Rattle.std.proofs.Common.{rules, ◌==◌, ◌∙◌, sym}
use borrow.Author.Tests.{tests}
use Rattle.std.proofs.lemmas.Iterator.{YieldsList-from_slice}
use Rattle.std.proofs.lemmas.Iterator.Search.{position_from_yields_List}
use Rattle.dd_inputs.proofs.NameParts.{none_behind, some_behind}
use Rattle.dd_inputs.proofs.listed_names.cut_first.Goals as goal

pub returns-in-Some-clause-parts : goal.returns-in-Some-clause-parts
returns-in-Some-clause-parts c = λ _.
    some_behind c.args.list.now c.in-Some.at (sym c.in-Some.is
    ∙ position_from_yields_List (λ byte. byte == 0) _ _ c.position.result c.position.ensures.ran
    (YieldsList-from_slice c.args.list.now c.iter.ensures.rest) (λ x b q k. search (rules, tests)))

pub returns-in-None-clause-parts : goal.returns-in-None-clause-parts
returns-in-None-clause-parts c = none_behind c.args.list.now (sym c.in-None.is
    ∙ position_from_yields_List (λ byte. byte == 0) _ _ c.position.result c.position.ensures.ran
    (YieldsList-from_slice c.args.list.now c.iter.ensures.rest) (λ x b q k. search (rules, tests)))
