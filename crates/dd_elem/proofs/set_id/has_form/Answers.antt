use Rattle.std.proofs.Common.{sym, ◌∙◌}
use Rattle.std.proofs.lemmas.Bool.{lt-leb}
use Rattle.dd_elem.proofs.SetIdForm.{decides_from_is, is_set_id-short, is_set_id-long}
use Rattle.dd_elem.proofs.set_id.has_form.Goals as goal

pub returns-then-bytes-le-MAX_LENGTH-clause-test : goal.returns-then-bytes-le-MAX_LENGTH-clause-test
returns-then-bytes-le-MAX_LENGTH-clause-test c =
    c.are_id_characters.ensures ∙ sym (is_set_id-short c.args.bytes.now c.if-bytes-le-MAX_LENGTH.true)

pub returns-then-bytes-le-MAX_LENGTH-clause-form : goal.returns-then-bytes-le-MAX_LENGTH-clause-form
returns-then-bytes-le-MAX_LENGTH-clause-form c =
    decides_from_is c.args.bytes.now _ (returns-then-bytes-le-MAX_LENGTH-clause-test c)

pub returns-else-bytes-le-MAX_LENGTH-clause-test : goal.returns-else-bytes-le-MAX_LENGTH-clause-test
returns-else-bytes-le-MAX_LENGTH-clause-test c = lt-leb _ _ c.if-bytes-le-MAX_LENGTH.false
    ∙ sym (is_set_id-long c.args.bytes.now c.if-bytes-le-MAX_LENGTH.false)
