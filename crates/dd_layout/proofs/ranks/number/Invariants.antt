use Rattle.std.proofs.Common.{◌≡◌, ◌++◌, take, drop}
use Rattle.dd_layout.specs.Numbering.{counters_of}
use Rattle.dd_layout.proofs.NumberPass.{AreWithin, numbered_from}
use Rattle.dd_layout.proofs.ranks.number.Given as goal

-- from here on the pass gives what it gives from the first record, and no counter is above the records that came
abbrev pub invariant-loop-record : goal.invariant-loop-record
invariant-loop-record l = record {
  numbered : take l.record-index l.records ++ numbered_from l.counters (drop l.record-index l.records)
      ≡ numbered_from (counters_of 0 0 0 0) l.fn.records;
  within : AreWithin l.record-index l.counters;
}
