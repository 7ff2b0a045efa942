use Rattle.dd_records.proofs.Records.{size_from_one, valid_from_one}
use Rattle.dd_records.proofs.record_sizes.record_size.Goals as goal

pub returns-clause-exact : goal.returns-clause-exact
returns-clause-exact c =
    size_from_one c.args.level c.rows.result.now c.bare_record.result c.args.parts.now c.cells_size.result
    c.rows.ensures.exact c.bare_record.ensures.level c.bare_record.ensures.file c.cells_size.ensures.exact

pub returns-clause-valid : goal.returns-clause-valid
returns-clause-valid c =
    valid_from_one c.args.level c.rows.result.now c.bare_record.result c.args.parts.now c.rows.ensures.exact
    c.bare_record.ensures.level c.bare_record.ensures.file c.cells_size.ensures.short
