use Rattle.std.proofs.Common.{ℕ, drop}
use Rattle.dd_encoding.specs.Spelling.{elements_text, items_text, AreElements, AreItems}
use Rattle.dd_set.specs.Views.{elements_view, items_view}
use Rattle.dd_stream.proofs.Going.{GoesOn}
use Rattle.dd_stream.specs.Sends.{counts_of}
use Rattle.dd_set.proofs.writing.+writing.Given as goal

abbrev pub invariant-send_items-loop-item : goal.invariant-send_items-loop-item
invariant-send_items-loop-item g l = record {
  goes : GoesOn (items_text (items_view l.items)) (items_text (items_view (drop l.item-index l.items)))
      l.initial.sent l.sent (g.W.Write.contents l.initial.writer, g.W.Write.rest l.initial.writer)
      (g.W.Write.contents l.writer, g.W.Write.rest l.writer) (counts_of g.W.Write l.initial.writer)
      (counts_of g.W.Write l.writer);
  valid : AreItems l.syntax l.levels (items_view (drop l.item-index l.items));
}

abbrev pub invariant-send_set-loop-element : goal.invariant-send_set-loop-element
invariant-send_set-loop-element g l = record {
  goes : GoesOn (elements_text (elements_view l.element-items))
      (elements_text (elements_view (drop l.element-index l.element-items)))
      l.initial.sent l.sent (g.W.Write.contents l.initial.writer, g.W.Write.rest l.initial.writer)
      (g.W.Write.contents l.writer, g.W.Write.rest l.writer) (counts_of g.W.Write l.initial.writer)
      (counts_of g.W.Write l.writer);
  valid : (low : ℕ) × AreElements l.syntax l.levels low (elements_view (drop l.element-index l.element-items));
}
