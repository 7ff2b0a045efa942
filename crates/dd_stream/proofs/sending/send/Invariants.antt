use Rattle.std.proofs.Common.{◌≡◌, ◌≤◌, ◌+◌, ◌-◌, length, take}
use Rattle.std.specs.Io.KnownBytes.{Appends}
use Rattle.dd_stream.proofs.sending.send.Given as goal

abbrev pub invariant-loop-at : goal.invariant-loop-at
invariant-loop-at g l = record {
  within : l.at ≤ length l.bytes;
  holds : Appends (g.W.Write.contents l.initial.writer) (g.W.Write.contents l.writer) (take l.at l.bytes);
  stays : g.W.Write.rest l.writer ≡ g.W.Write.rest l.initial.writer;
  worked : g.W.Write.failures l.writer ≡ g.W.Write.failures l.initial.writer;
  called : g.W.Write.calls l.writer ≤ g.W.Write.calls l.initial.writer + l.at;
}

abbrev pub decreases-loop-at : goal.decreases-loop-at
decreases-loop-at g l = length l.bytes - l.at
