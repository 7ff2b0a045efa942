-- The texts so far went.
use Rattle.std.proofs.Common.{◌≡◌}
use Rattle.dd_lines.specs.Telling.{way_of}
use Rattle.dd_lines.proofs.GoingOn.{Went}
use Rattle.dd_json.proofs.EscapedTexts.{text_escape}
use Rattle.dd_json.proofs.parts.add_escaped_texts.Given as goal

abbrev pub invariant-loop-text : goal.invariant-loop-text
invariant-loop-text g l = record {
  same : l.lines.to.ghost_name ≡ l.initial.lines.to.ghost_name;
  went : Went text_escape l.texts l.text-index (way_of g.W.Write l.initial.lines) (way_of g.W.Write l.lines);
  stays : g.W.Write.rest l.lines.to.now ≡ g.W.Write.rest l.initial.lines.to.now;
}
