-- The bytes so far went.
use Rattle.std.proofs.Common.{◌≡◌}
use Rattle.json.specs.Print.{escape_byte}
use Rattle.dd_lines.specs.Telling.{way_of}
use Rattle.dd_lines.proofs.GoingOn.{Went}
use Rattle.dd_json.proofs.parts.add_escaped.Given as goal

abbrev pub invariant-loop-byte : goal.invariant-loop-byte
invariant-loop-byte g l = record {
  same : l.lines.to.ghost_name ≡ l.initial.lines.to.ghost_name;
  went : Went escape_byte l.text l.byte-index (way_of g.W.Write l.initial.lines) (way_of g.W.Write l.lines);
  stays : g.W.Write.rest l.lines.to.now ≡ g.W.Write.rest l.initial.lines.to.now;
}
