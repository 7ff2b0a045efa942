-- The groups so far went, and the rest is left.
use Rattle.std.proofs.Common.{◌≡◌, length}
use Rattle.base64.specs.Engines.{standard}
use Rattle.base64.specs.GeneralPurpose.{encode_of}
use Rattle.json.specs.Print.{escape}
use Rattle.dd_lines.specs.Telling.{way_of}
use Rattle.dd_dicom_json.proofs.Leaving.{Leaves}
use Rattle.dd_dicom_json.proofs.base64_text.add_base64.Given as goal

abbrev pub invariant-loop-rest : goal.invariant-loop-rest
invariant-loop-rest g l = record {
  same : l.lines.to.ghost_name ≡ l.initial.lines.to.ghost_name;
  left : Leaves (escape (encode_of standard l.bytes)) (escape (encode_of standard l.rest))
      (way_of g.W.Write l.initial.lines) (way_of g.W.Write l.lines);
}

abbrev pub decreases-loop-rest : goal.decreases-loop-rest
decreases-loop-rest g l = length l.rest
