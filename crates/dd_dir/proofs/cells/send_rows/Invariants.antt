use Rattle.std.proofs.Common.{drop}
use Rattle.dd_stream.proofs.Going.{GoesOn}
use Rattle.dd_stream.specs.Sends.{counts_of}
use Rattle.dd_dir.proofs.RowTexts.{AreShort, rows_text}
use Rattle.dd_dir.proofs.cells.send_rows.Given as goal

-- the rows that are left are still to be sent, and all are short where those are
abbrev pub invariant-loop-row : goal.invariant-loop-row
invariant-loop-row g l = record {
  goes : GoesOn (rows_text l.planned l.parts l.rows) (rows_text l.planned l.parts (drop l.row-index l.rows))
      l.initial.sent l.sent (g.W.Write.contents l.initial.writer, g.W.Write.rest l.initial.writer)
      (g.W.Write.contents l.writer, g.W.Write.rest l.writer) (counts_of g.W.Write l.initial.writer)
      (counts_of g.W.Write l.writer);
  short : AreShort l.planned l.parts (drop l.row-index l.rows) → AreShort l.planned l.parts l.rows;
}
