use Rattle.std.proofs.Common.{◌≡◌, ◌∷◌, ◌++◌, map, take}
use Rattle.dd_layout.specs.WalkedRecords.{standing}
use Rattle.dd_layout.proofs.RowRecords.{record_of_level}
use Rattle.dd_layout.proofs.nodes.push_records.Given as goal

-- the list has what it had at the start, and after it a record for each level that the loop has done
abbrev pub invariant-loop-level : goal.invariant-loop-level
invariant-loop-level l = l.records.items ≡ l.fn.records.items
    ++ map (record_of_level (standing l.first ∷ map standing l.later) l.first.version.now)
    (take l.level-index l.level-items)
