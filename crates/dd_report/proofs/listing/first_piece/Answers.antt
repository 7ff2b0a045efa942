-- The value has a first separator, or no separator at all.
use Rattle.std.proofs.Common.{rules, ◌==◌, ◌∙◌, sym}
use borrow.Author.Tests.{tests}
use Rattle.std.proofs.lemmas.Iterator.{YieldsList-from_slice}
use Rattle.std.proofs.lemmas.Iterator.Search.{position_from_yields_List}
use Rattle.dd_report.proofs.WithdrawnLines.{none_after, some_after}
use Rattle.dd_report.proofs.listing.first_piece.Goals as goal

pub returns-in-Some : goal.returns-in-Some
returns-in-Some c =
    some_after c.args.value.now c.in-Some.at (sym c.in-Some.is
    ∙ position_from_yields_List (λ byte. byte == 92) _ _ c.position.result c.position.ensures.ran
    (YieldsList-from_slice c.args.value.now c.iter.ensures.rest) (λ x b q k. search (rules, tests)))

pub returns-in-None : goal.returns-in-None
returns-in-None c =
    none_after c.args.value.now (sym c.in-None.is
    ∙ position_from_yields_List (λ byte. byte == 92) _ _ c.position.result c.position.ensures.ran
    (YieldsList-from_slice c.args.value.now c.iter.ensures.rest) (λ x b q k. search (rules, tests)))
