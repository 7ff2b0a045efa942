-- The parts so far went.
use Rattle.std.proofs.Common.{◌≡◌}
use Rattle.dd_lines.specs.Telling.{way_of}
use Rattle.dd_lines.proofs.GoingOn.{Went}
use Rattle.dd_dicom_json.specs.Parts.{part_text}
use Rattle.dd_dicom_json.proofs.parts.add_parts.Given as goal

abbrev pub invariant-loop-part : goal.invariant-loop-part
invariant-loop-part g l = record {
  same : l.lines.to.ghost_name ≡ l.initial.lines.to.ghost_name;
  went : Went part_text l.parts l.part-index (way_of g.W.Write l.initial.lines) (way_of g.W.Write l.lines);
}
