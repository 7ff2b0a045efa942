use Rattle.std.proofs.Common.{◌≡◌, ◌++◌, drop, map, take}
use Rattle.dd_layout.specs.Stages.{moved_record}
use Rattle.dd_layout.proofs.under.move_records.Given as goal

-- the records up to here are moved
abbrev pub invariant-loop-record : goal.invariant-loop-record
invariant-loop-record l = record {
  rows : l.records ≡ map (moved_record l.from l.to) (take l.record-index l.initial.records)
      ++ drop l.record-index l.initial.records;
}
