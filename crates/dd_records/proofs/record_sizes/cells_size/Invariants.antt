use Rattle.std.proofs.Common.{◌≡◌, ◌+◌, ◌*◌, ◌≤◌, length}
use Rattle.std.specs.List.{AllByRecursion}
use Rattle.dd_records.specs.Cells.{IsShortElement, table_elements}
use Rattle.dd_records.specs.Sizes.{elements_size}
use Rattle.dd_records.proofs.record_sizes.cells_size.Given as goal

-- the rows that are left have the rest of the size, and the whole is short where they are
abbrev pub invariant-loop-rows : goal.invariant-loop-rows
invariant-loop-rows l =
    (l.size + elements_size (table_elements l.rows l.planned.level l.planned.next l.planned.lower l.planned.file
    l.parts)
    ≡ elements_size (table_elements l.initial.rows l.planned.level l.planned.next l.planned.lower l.planned.file
    l.parts))
    × (l.size + 1036 * length l.rows ≤ 1036 * length l.initial.rows)
    × (AllByRecursion IsShortElement (table_elements l.rows l.planned.level l.planned.next l.planned.lower
    l.planned.file l.parts)
    → AllByRecursion IsShortElement (table_elements l.initial.rows l.planned.level l.planned.next l.planned.lower
    l.planned.file l.parts))

abbrev pub decreases-loop-rows : goal.decreases-loop-rows
decreases-loop-rows l = length l.rows
