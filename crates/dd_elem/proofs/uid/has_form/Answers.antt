use Rattle.std.proofs.Common.{rules, sym, ◌∙◌, ◌==◌}
use borrow.Author.Tests.{tests}
use Rattle.std.proofs.lemmas.Iterator.Splits.{YieldsList-from_slice_split}
use Rattle.std.proofs.lemmas.Iterator.Search.{all_from_yields_List}
use Rattle.dd_elem.specs.Uid.{is_component}
use Rattle.dd_elem.proofs.UidForm.{decides_from_is, is_uid-short, is_uid-long}
use Rattle.std.proofs.lemmas.Bool.{lt-leb}
use Rattle.dd_elem.proofs.uid.has_form.Goals as goal

pub returns-then-bytes-le-MAX_LENGTH-clause-test : goal.returns-then-bytes-le-MAX_LENGTH-clause-test
returns-then-bytes-le-MAX_LENGTH-clause-test c =
    all_from_yields_List is_component _ _ _ c.all.ensures.ran
    (YieldsList-from_slice_split _ (λ byte. byte == 46) c.args.bytes.now c.split.ensures.rest c.split.ensures.done
    c.split.ensures.closure (λ x b q k. search (rules, tests)))
    (λ x b q k. search (rules, tests))
    ∙ sym (is_uid-short c.args.bytes.now c.if-bytes-le-MAX_LENGTH.true)

pub returns-then-bytes-le-MAX_LENGTH-clause-form : goal.returns-then-bytes-le-MAX_LENGTH-clause-form
returns-then-bytes-le-MAX_LENGTH-clause-form c =
    decides_from_is c.args.bytes.now _ (returns-then-bytes-le-MAX_LENGTH-clause-test c)

pub returns-else-bytes-le-MAX_LENGTH-clause-test : goal.returns-else-bytes-le-MAX_LENGTH-clause-test
returns-else-bytes-le-MAX_LENGTH-clause-test c = lt-leb _ _ c.if-bytes-le-MAX_LENGTH.false
    ∙ sym (is_uid-long c.args.bytes.now c.if-bytes-le-MAX_LENGTH.false)
