use Rattle.std.proofs.Common.{drop}
use Rattle.dd_encoding.specs.Spelling.{fragments_text, AreFragments}
use Rattle.dd_set.specs.Views.{pieces}
use Rattle.dd_stream.proofs.Going.{GoesOn}
use Rattle.dd_stream.specs.Sends.{counts_of}
use Rattle.dd_set.proofs.writing.send_fragments.Given as goal

abbrev pub invariant-loop-fragment : goal.invariant-loop-fragment
invariant-loop-fragment g l = record {
  goes : GoesOn (fragments_text (pieces l.fragments)) (fragments_text (pieces (drop l.fragment-index l.fragments)))
      l.initial.sent l.sent (g.W.Write.contents l.initial.writer, g.W.Write.rest l.initial.writer)
      (g.W.Write.contents l.writer, g.W.Write.rest l.writer) (counts_of g.W.Write l.initial.writer)
      (counts_of g.W.Write l.writer);
  valid : AreFragments (pieces (drop l.fragment-index l.fragments));
}
