-- The words of the record, then its values, and then the end of the line.
use Rattle.std.proofs.Common.{◌∙◌, refl}
use Rattle.dd_report.proofs.RecordLines.{record_ends, values_are, values_fail, words_are, words_fail}
use Rattle.dd_report.proofs.listing.add_parts.Goals as goal

pub returns-in_err-add_words-clause-written : goal.returns-in_err-add_words-clause-written
returns-in_err-add_words-clause-written g c =
    words_fail c.from_residual.result c.args.form c.args.tree.now _ _ _ c.from_residual.ensures.0
    (words_are c.args.tree.now c.as_bytes-at.result.now _ c.label_of.result.now c.flag_of.result.now
    (c.as_bytes-at.ensures.value ∙ c.format.ensures.text) refl c.label_of.ensures c.flag_of.ensures)
    c.in_err-add_words.ensures.written

pub returns-in_err-add_values-clause-written : goal.returns-in_err-add_values-clause-written
returns-in_err-add_values-clause-written g c =
    values_fail c.from_residual-in_err-add_values.result c.args.form c.args.tree.now _ _ _ _ _
    c.from_residual-in_err-add_values.ensures.0
    (words_are c.args.tree.now c.as_bytes-at.result.now _ c.label_of.result.now c.flag_of.result.now
    (c.as_bytes-at.ensures.value ∙ c.format.ensures.text) refl c.label_of.ensures c.flag_of.ensures)
    (values_are c.args.form c.args.tree.now _ c.tags_in.result.now refl c.tags_in.ensures)
    c.in_ok-add_words.ensures.written c.in_err-add_values.ensures.written

pub returns-clause-written : goal.returns-clause-written
returns-clause-written g c =
    record_ends c.add_end.result c.args.form c.args.tree.now _ _ _ _ _ _
    (words_are c.args.tree.now c.as_bytes-at.result.now _ c.label_of.result.now c.flag_of.result.now
    (c.as_bytes-at.ensures.value ∙ c.format.ensures.text) refl c.label_of.ensures c.flag_of.ensures)
    (values_are c.args.form c.args.tree.now _ c.tags_in.result.now refl c.tags_in.ensures)
    c.in_ok-add_words.ensures.written c.in_ok-add_values.ensures.written c.add_end.ensures.written
