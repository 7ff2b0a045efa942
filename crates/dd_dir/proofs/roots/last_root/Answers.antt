use Rattle.std.proofs.Common.{rules, ◌≡◌, reverse, sym, ap, ◌∙◌}
use borrow.Author.Tests.{tests}
use Rattle.std.specs.Option.{option_copied}
use Rattle.std.specs.Prelude.{find}
use Rattle.std.proofs.lemmas.Iterator.Adapters.{YieldsList-from_rev_slice}
use Rattle.std.proofs.lemmas.Iterator.Search.{find_from_yields_List}
use Rattle.dd_dir.proofs.RootRecords.{is_root, last_is}
use Rattle.dd_dir.proofs.roots.last_root.Goals as goal

pub returns-in-None : goal.returns-in-None
returns-in-None c = λ label versions is.
    let rows = c.args.records.now in
    let found : option_copied c.find.result ≡ find (λ row. is_root row.level) (reverse rows) =
    find_from_yields_List (λ row. is_root row.level) _ _ c.find.result c.find.ensures.ran
    (YieldsList-from_rev_slice rows cc) (λ x b q k. search (rules, tests)) in
    last_is label versions rows _ is (sym (ap option_copied c.in-None.is) ∙ found)

pub returns-in-Some : goal.returns-in-Some
returns-in-Some c = λ label versions is.
    let rows = c.args.records.now in
    let found : option_copied c.find.result ≡ find (λ row. is_root row.level) (reverse rows) =
    find_from_yields_List (λ row. is_root row.level) _ _ c.find.result c.find.ensures.ran
    (YieldsList-from_rev_slice rows cc) (λ x b q k. search (rules, tests)) in
    last_is label versions rows _ is (sym (ap option_copied c.in-Some.is) ∙ found)
