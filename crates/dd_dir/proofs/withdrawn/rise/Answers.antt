use Rattle.std.proofs.Common.{rules, ◌==◌}
use borrow.Author.Tests.{tests}
use Rattle.std.proofs.lemmas.Iterator.{YieldsList-from_zip}
use Rattle.std.proofs.lemmas.Iterator.Adapters.{YieldsList-from_skip}
use Rattle.std.proofs.lemmas.Iterator.Consumers.{YieldsList-at}
use Rattle.std.proofs.lemmas.Iterator.Splits.{YieldsList-from_slice_split}
use Rattle.std.proofs.lemmas.Iterator.Search.{all_from_yields_List}
use Rattle.dd_dir.proofs.WithdrawnUids.{is_below}
use Rattle.dd_dir.proofs.withdrawn.rise.Goals as goal

pub returns : goal.returns
returns c =
    all_from_yields_List is_below c.all.new.self _ _ c.all.ensures.ran
    (YieldsList-from_zip
    (YieldsList-at c.zip.ensures.first (YieldsList-from_slice_split _ (λ byte. byte == 92) c.args.value.now
    c.split-2.ensures.rest c.split-2.ensures.done c.split-2.ensures.closure (λ x b q k. search (rules, tests))))
    (YieldsList-at c.zip.ensures.second (YieldsList-from_skip 1
    (YieldsList-at c.skip-later.ensures.source (YieldsList-from_slice_split _ (λ byte. byte == 92) c.args.value.now
    c.split.ensures.rest c.split.ensures.done c.split.ensures.closure (λ x b q k. search (rules, tests))))
    c.skip-later.ensures.count)))
    (λ x b q k. search (rules, tests))
