use Rattle.std.proofs.Common.{ap, sym, subst, ◌-◌, ◌∙◌, arith}
use Rattle.std.specs.List.{AllByRecursion}
use Rattle.std.proofs.lemmas.Result.{err_from_is_err_and}
use Rattle.dd_records.specs.Records.{record_item}
use Rattle.dd_records.specs.Cells.{IsShortElement}
use Rattle.dd_records.proofs.Valid.{record_valid}
use Rattle.dd_set.specs.Single.{item_text}
use Rattle.dd_encoding.specs.Spelling.{max_levels}
use Rattle.dd_stream.proofs.Going.{first_fails, then_sends, sends_same}
use Rattle.dd_dir.specs.Directories.{elements_for}
use Rattle.dd_version.specs.WellFormed.{IsWellFormed}
use Rattle.dd_dir.proofs.KeyedRecords.{keyed_is}
use Rattle.dd_dir.proofs.RecordTexts.{elements_are, record_parts, second_fits}
use Rattle.dd_dir.proofs.RowTexts.{text_of}
use Rattle.dd_dir.proofs.records.send_record.Goals as goal

pub overflow_sub-size : goal.overflow_sub-size
overflow_sub-size g c = omega (arith, c.requires.measured)

pub returns-in_err-sent-clause-sends : goal.returns-in_err-sent-clause-sends
returns-in_err-sent-clause-sends g c =
    let p = err_from_is_err_and c.from_residual.result c.from_residual.ensures.1 in
    let planned = c.args.planned.now in
    let entries = elements_for c.args.versions.now planned in
    let are = elements_are c.args.versions.now planned c.index-versions-planned.result c.parts_of-parts.result.now
    c.requires.sound.0 c.index-versions-planned.is c.parts_of-parts.ensures.value in
    let whole = record_parts entries c.item_header-header.result c.args.size c.item_header-header.ensures
    c.requires.measured in
    rw (p.1, p.2) (sends_same _ _ _ _ _ _ _ _ whole
    (first_fails c.item_header-header.result (text_of entries) _ _ _ _ _ _ c.in_err-sent.ensures))

pub send_rows-requires : goal.send_rows-requires
send_rows-requires g c =
    let planned = c.args.planned.now in
    let entries = elements_for c.args.versions.now planned in
    let are = elements_are c.args.versions.now planned c.index-versions-planned.result c.parts_of-parts.result.now
    c.requires.sound.0 c.index-versions-planned.is c.parts_of-parts.ensures.value in
    let whole = record_parts entries c.item_header-header.result c.args.size c.item_header-header.ensures
    c.requires.measured in
    let table = c.rows.ensures.exact planned.next planned.lower planned.file c.parts_of-parts.result.now ∙ sym are in
    rw table (second_fits c.item_header-header.result (text_of entries) (item_text (record_item entries)) c.args.sent
    c.in_ok-sent.sent whole c.requires.fits c.in_ok-sent.ensures.ok.0)

pub returns-clause-sends : goal.returns-clause-sends
returns-clause-sends g c =
    let planned = c.args.planned.now in
    let entries = elements_for c.args.versions.now planned in
    let are = elements_are c.args.versions.now planned c.index-versions-planned.result c.parts_of-parts.result.now
    c.requires.sound.0 c.index-versions-planned.is c.parts_of-parts.ensures.value in
    let whole = record_parts entries c.item_header-header.result c.args.size c.item_header-header.ensures
    c.requires.measured in
    let table = c.rows.ensures.exact planned.next planned.lower planned.file c.parts_of-parts.result.now ∙ sym are in
    sends_same _ _ _ _ _ _ _ _ whole
    (then_sends c.item_header-header.result (text_of entries) _ _ _ _ _ _ _ _ _ c.in_ok-sent.ensures
    (sends_same _ _ _ _ _ _ _ _ (ap text_of table) c.send_rows.ensures.sends))

pub returns-clause-valid : goal.returns-clause-valid
returns-clause-valid g c = λ ok.
    let planned = c.args.planned.now in
    let are = elements_are c.args.versions.now planned c.index-versions-planned.result c.parts_of-parts.result.now
    c.requires.sound.0 c.index-versions-planned.is c.parts_of-parts.ensures.value in
    let table = c.rows.ensures.exact planned.next planned.lower planned.file c.parts_of-parts.result.now in
    rw are (record_valid (max_levels - 1) planned.level planned.next planned.lower planned.next planned.lower
    planned.file planned.file c.parts_of-parts.result.now c.requires.sound.1 c.requires.sound.1
    (subst (AllByRecursion IsShortElement) table (c.send_rows.ensures.short ok)))

pub returns-in_err-sent-clause-keyed : goal.returns-in_err-sent-clause-keyed
returns-in_err-sent-clause-keyed g c =
    keyed_is c.args.versions.now c.args.planned.now c.index-versions-planned.result c.parts_of-parts.result.now
    c.requires.sound.0 c.index-versions-planned.is c.parts_of-parts.ensures.value
    (subst IsWellFormed (sym c.parts_of-parts.ensures.value) c.parts_of-parts.ensures.formed)

pub returns-clause-keyed : goal.returns-clause-keyed
returns-clause-keyed g c =
    keyed_is c.args.versions.now c.args.planned.now c.index-versions-planned.result c.parts_of-parts.result.now
    c.requires.sound.0 c.index-versions-planned.is c.parts_of-parts.ensures.value
    (subst IsWellFormed (sym c.parts_of-parts.ensures.value) c.parts_of-parts.ensures.formed)
