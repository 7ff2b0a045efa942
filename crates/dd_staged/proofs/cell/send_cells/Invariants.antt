use Rattle.std.proofs.Common.{◌<◌, ◌^◌, drop, length}
use Rattle.std.specs.List.{AllByRecursion}
use Rattle.dd_stream.proofs.Going.{GoesOn}
use Rattle.dd_stream.specs.Sends.{counts_of}
use Rattle.dd_staged.specs.Cells.{HasRoom, cells_text}
use Rattle.dd_staged.proofs.cell.send_cells.Given as goal

abbrev pub invariant-loop-cell : goal.invariant-loop-cell
invariant-loop-cell g l = record {
  goes : GoesOn (cells_text l.cells) (cells_text (drop l.cell-index l.cells)) l.initial.sent l.sent
      (g.W.Write.contents l.initial.writer, g.W.Write.rest l.initial.writer)
      (g.W.Write.contents l.writer, g.W.Write.rest l.writer) (counts_of g.W.Write l.initial.writer)
      (counts_of g.W.Write l.writer);
  small : length (cells_text (drop l.cell-index l.cells)) < 2 ^ 32;
  room : AllByRecursion HasRoom (drop l.cell-index l.cells);
}
