use Rattle.std.proofs.Common.{◌≡◌, ◌≤◌}
use Rattle.dd_records.specs.Directory.{first_offset}
use Rattle.dd_layout.proofs.OffsetPass.{end_of, placed_to, weight}
use Rattle.dd_layout.proofs.offsets.set_offsets.Given as goal

-- the rows up to here have their offsets, and all ends are within the limit
abbrev pub invariant-loop-record : goal.invariant-loop-record
invariant-loop-record l = record {
  rows : l.records ≡ placed_to (weight l.versions) l.record-index (first_offset l.label) l.initial.records;
  end : l.end ≡ end_of (weight l.versions) l.record-index (first_offset l.label) l.initial.records;
  fits : l.end ≤ l.most;
}
