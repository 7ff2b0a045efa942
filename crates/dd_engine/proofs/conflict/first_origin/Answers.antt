use Rattle.std.proofs.Common.{rules, ◌≡◌, sym, ap, ◌∙◌}
use borrow.Author.Tests.{tests}
use Rattle.std.specs.List.{zip}
use Rattle.std.specs.Ordering.{is_eq}
use Rattle.std.specs.Prelude.{find, option_map}
use Rattle.std.proofs.lemmas.Iterator.{YieldsList-from_slice, YieldsList-from_zip}
use Rattle.std.proofs.lemmas.Iterator.Search.{find_from_yields_List}
use Rattle.std.proofs.lemmas.Iterator.Consumers.{YieldsList-at}
use Rattle.dd_version.specs.Orders.{parts_cmp}
use Rattle.dd_version.specs.declared.parts.Parts.{Parts}
use Rattle.dd_engine.proofs.conflict.first_origin.Given.{Over}
use Rattle.dd_engine.proofs.conflict.first_origin.Goals as goal
use Rattle.dd_engine.proofs.conflict.first_origin.Goals.{After-find}

-- the search finds the first version that equals this one, with its origin
found_is : (g : Over) (c : After-find g)
    → option_map (λ p. (p.0.now, p.1.now)) c.find.result
    ≡ find (λ held. is_eq (parts_cmp held.1 c.args.version.now)) (zip c.args.origins.now c.args.versions.now)
found_is g c =
    find_from_yields_List (λ held. is_eq (parts_cmp held.1 c.args.version.now)) c.find.new.self _ c.find.result
    c.find.ensures.ran
    (YieldsList-from_zip (YieldsList-at c.zip-held.ensures.first (YieldsList-from_slice c.args.origins.now cc))
    (YieldsList-from_slice c.args.versions.now c.zip-held.ensures.second.0))
    (λ x b q k. search (rules, tests))

pub returns-in-Some : goal.returns-in-Some
returns-in-Some g c =
    ap (option_map (λ (held : g.row.T.Denot × Parts). held.0))
    (sym (ap (option_map (λ p. (p.0.now, p.1.now))) c.in-Some.is) ∙ found_is g (goal.at.returns-in-Some g c).After-find)

pub returns-in-None : goal.returns-in-None
returns-in-None g c =
    ap (option_map (λ (held : g.row.T.Denot × Parts). held.0))
    (sym (ap (option_map (λ p. (p.0.now, p.1.now))) c.in-None.is) ∙ found_is g (goal.at.returns-in-None g c).After-find)
