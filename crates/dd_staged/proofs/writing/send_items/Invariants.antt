use Rattle.std.proofs.Common.{◌<◌, ◌^◌, drop, length}
use Rattle.dd_stream.proofs.Going.{GoesOn}
use Rattle.dd_stream.specs.Sends.{counts_of}
use Rattle.dd_staged.proofs.ItemTexts.{sources_text}
use Rattle.dd_staged.proofs.writing.send_items.Given as goal

abbrev pub invariant-loop-staged : goal.invariant-loop-staged
invariant-loop-staged g l = record {
  goes : GoesOn (sources_text l.list) (sources_text (drop l.staged-index l.list)) l.initial.sent l.sent
      (g.W.Write.contents l.initial.writer, g.W.Write.rest l.initial.writer)
      (g.W.Write.contents l.writer, g.W.Write.rest l.writer) (counts_of g.W.Write l.initial.writer)
      (counts_of g.W.Write l.writer);
  small : length (sources_text (drop l.staged-index l.list)) < 2 ^ 32;
}
