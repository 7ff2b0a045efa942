use Rattle.std.proofs.Common.{rules, ◌==◌}
use borrow.Author.Tests.{tests}
use Rattle.std.proofs.lemmas.Iterator.Splits.{YieldsList-from_slice_split}
use Rattle.std.proofs.lemmas.Iterator.Search.{all_from_yields_List}
use Rattle.dd_elem.specs.Uid.{is_uid}
use Rattle.dd_dir.proofs.withdrawn.are_uids.Goals as goal

pub returns : goal.returns
returns c =
    all_from_yields_List is_uid _ _ _ c.all.ensures.ran
    (YieldsList-from_slice_split _ (λ byte. byte == 92) c.args.value.now c.split.ensures.rest c.split.ensures.done
    c.split.ensures.closure (λ x b q k. search (rules, tests)))
    (λ x b q k. search (rules, tests))
