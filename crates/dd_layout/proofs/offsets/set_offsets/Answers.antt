use Rattle.std.proofs.Common.{rules, ◌≡◌, ◌+◌, refl, arith}
use Rattle.dd_records.specs.Directory.{first_offset}
use Rattle.dd_layout.proofs.OffsetPass.{end_of, weight}
use Rattle.dd_layout.proofs.OffsetsAlong.{of_turn, size_of_turn, end_within, end_known, offsets_are_known}
use Rattle.dd_layout.proofs.PlaceTurns.{rows_more, end_more}
use Rattle.dd_layout.proofs.offsets.set_offsets.Goals as goal
use Rattle.dd_layout.proofs.offsets.set_offsets.Goals.{After-record_size-size}

pub loop-record-init : goal.loop-record-init
loop-record-init c = record { rows = refl; end = c.first_offset-end.ensures.exact; fits = c.if-end-most.false }

-- the record of a turn is of one of the versions
pub offset_bounds-versions-record : goal.offset_bounds-versions-record
offset_bounds-versions-record c =
    let within = of_turn c.args.versions.now c.args.records.now c.loop-record.records c.loop-record.record-index
    (first_offset c.args.label.now) c.record-item.result c.requires.records c.loop-record-test.true
    c.loop-record.invariant.rows in
    search rules

pub bounds-versions-record : goal.bounds-versions-record
bounds-versions-record c =
    of_turn c.args.versions.now c.args.records.now c.loop-record.records c.loop-record.record-index
    (first_offset c.args.label.now) c.record-item.result c.requires.records c.loop-record-test.true
    c.loop-record.invariant.rows

-- the end after a turn
end_turned : (c : After-record_size-size)
    → c.loop-record.end + c.record_size-size.result
    ≡ end_of (weight c.args.versions.now) (c.loop-record.record-index + 1) (first_offset c.args.label.now)
    c.args.records.now
end_turned c =
    end_more (weight c.args.versions.now) c.loop-record.record-index (first_offset c.args.label.now)
    c.args.records.now c.loop-record.records c.record-item.result c.loop-record.end c.record_size-size.result
    c.loop-record-test.true c.loop-record.invariant.rows c.loop-record.invariant.end
    (size_of_turn c.args.versions.now c.args.records.now c.loop-record.records c.loop-record.record-index
    (first_offset c.args.label.now) c.record-item.result c.index-versions-record.result c.parts.result.now
    c.record_size-size.result c.requires.records c.requires.files c.loop-record-test.true c.loop-record.invariant.rows
    c.index-versions-record.is c.parts.ensures.value c.record_size-size.ensures.exact)

-- a directory with an end above the limit is itself above it
pub returns-then-end-most-2-clause-fits : goal.returns-then-end-most-2-clause-fits
returns-then-end-most-2-clause-fits c = λ fits.
    let within = end_within c.args.label.now c.args.versions.now c.args.records.now (c.loop-record.record-index + 1)
    (c.loop-record.end + c.record_size-size.result) c.requires.records
    (end_turned (goal.at.returns-then-end-most-2-clause-fits c).After-record_size-size) in
    omega arith

pub loop-record-preserved : goal.loop-record-preserved
loop-record-preserved c = record {
  rows = rows_more (weight c.args.versions.now) c.loop-record.record-index (first_offset c.args.label.now)
      c.args.records.now c.loop-record.records c.record-item.result c.loop-record.end c.loop-record-test.true
      c.loop-record.invariant.rows c.loop-record.invariant.end;
  end = end_turned (goal.at.loop-record-preserved c).After-record_size-size;
  fits = c.if-end-most-2.false;
}

-- the end of the last record is the end of all records
pub returns-clause-fits : goal.returns-clause-fits
returns-clause-fits c =
    let end = end_known c.args.label.now c.args.versions.now c.args.records.now c.loop-record.record-index
    c.loop-record.end c.requires.records c.loop-record-test.false c.loop-record.invariant.end in
    let most = c.loop-record.invariant.fits in
    let same = c.from-most.ensures in
    (omega arith, end)

pub returns-clause-placed : goal.returns-clause-placed
returns-clause-placed c = λ some.
    offsets_are_known c.args.label.now c.args.versions.now c.args.records.now c.loop-record.records
    c.loop-record.record-index c.requires.records c.loop-record-test.false c.loop-record.invariant.rows
