use Rattle.std.proofs.Common.{◌≡◌, ◌<◌, ◌^◌, ◌+◌, length, drop}
use Rattle.dd_staged.specs.Cells.{cells_text}
use Rattle.dd_staged.proofs.sizes.cells_size.Given as goal

abbrev pub invariant-loop-cell : goal.invariant-loop-cell
invariant-loop-cell l = record {
  sum : length (cells_text l.cells) ≡ l.total + length (cells_text (drop l.cell-index l.cells));
  few : l.total < 2 ^ 64;
}
