-- The characters so far went.
use Rattle.std.proofs.Common.{◌≡◌}
use Rattle.dd_lines.specs.Telling.{way_of}
use Rattle.dd_lines.proofs.GoingOn.{Went}
use Rattle.dd_dicom_json.proofs.PartTexts.{escaped_char}
use Rattle.dd_dicom_json.proofs.escapes.add_latin1.Given as goal

abbrev pub invariant-loop-character : goal.invariant-loop-character
invariant-loop-character g l = record {
  same : l.lines.to.ghost_name ≡ l.initial.lines.to.ghost_name;
  went : Went escaped_char l.characters l.character-index (way_of g.W.Write l.initial.lines) (way_of g.W.Write l.lines);
}
