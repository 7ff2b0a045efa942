use Rattle.std.proofs.Common.{rules}
use borrow.Author.Tests.{tests}
use Rattle.std.specs.Prelude.{not}
use Rattle.std.proofs.lemmas.Iterator.{YieldsList-from_slice}
use Rattle.std.proofs.lemmas.Iterator.Search.{all_from_yields_List}
use Rattle.dd_catalogue.specs.Versions.{kept}
use Rattle.dd_engine.specs.Noting.{is_other}
use Rattle.dd_engine.proofs.left_out.are_kept.Goals as goal

pub returns : goal.returns
returns c =
    all_from_yields_List (λ version. not (is_other (kept c.args.best.now version.instance) version))
    c.all.new.self _ _ c.all.ensures.ran (YieldsList-from_slice c.args.versions.now cc)
    (λ x b q k. search (rules, tests))
