use Rattle.std.proofs.Common.{◌≡◌, drop, map, None}
use Rattle.dd_layout.specs.Numbering.{counters_of}
use Rattle.dd_layout.specs.Stages.{level_in}
use Rattle.dd_layout.proofs.NumberPass.{AreWithin, noted_from}
use Rattle.dd_layout.proofs.ranks.crowded_level.Given as goal

-- from here on the pass notes what it notes from the first record, and no counter is above the records that came
abbrev pub invariant-loop-record : goal.invariant-loop-record
invariant-loop-record l = record {
  noted : noted_from l.most l.counters l.crowded (map level_in (drop l.record-index l.records))
      ≡ noted_from l.most (counters_of 0 0 0 0) None (map level_in l.records);
  within : AreWithin l.record-index l.counters;
}
