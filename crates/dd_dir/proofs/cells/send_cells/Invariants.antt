use Rattle.std.proofs.Common.{drop, map}
use Rattle.std.specs.List.{AllByRecursion}
use Rattle.dd_records.specs.Cells.{IsShortElement, cell_element}
use Rattle.dd_encoding.specs.Elements.{elements_of}
use Rattle.dd_encoding.specs.Spelling.{elements_text}
use Rattle.dd_stream.proofs.Going.{GoesOn}
use Rattle.dd_stream.specs.Sends.{counts_of}
use Rattle.dd_dir.proofs.cells.send_cells.Given as goal

abbrev pub invariant-loop-cell : goal.invariant-loop-cell
invariant-loop-cell g l = record {
  goes : GoesOn (elements_text (elements_of (map cell_element l.cells)))
      (elements_text (elements_of (map cell_element (drop l.cell-index l.cells)))) l.initial.sent l.sent
      (g.W.Write.contents l.initial.writer, g.W.Write.rest l.initial.writer)
      (g.W.Write.contents l.writer, g.W.Write.rest l.writer) (counts_of g.W.Write l.initial.writer)
      (counts_of g.W.Write l.writer);
  short : AllByRecursion IsShortElement (map cell_element (drop l.cell-index l.cells));
}
