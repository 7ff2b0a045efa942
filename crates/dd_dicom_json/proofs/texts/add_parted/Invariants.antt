-- The values so far went, and the other values are left.
use Rattle.std.proofs.Common.{◌≡◌, false, length}
use Rattle.serde_json.specs.Written.{items_text}
use Rattle.dd_lines.specs.Telling.{way_of}
use Rattle.dd_dicom_json.specs.Values.{items_by, text_items, value_data}
use Rattle.dd_dicom_json.proofs.Leaving.{Leaves}
use Rattle.dd_dicom_json.proofs.ListTexts.{left}
use Rattle.dd_dicom_json.proofs.texts.add_parted.Given as goal

abbrev pub invariant-loop-rest : goal.invariant-loop-rest
invariant-loop-rest g l = record {
  same : l.lines.to.ghost_name ≡ l.initial.lines.to.ghost_name;
  went : Leaves (items_text false (text_items l.form l.set l.bytes))
      (items_text l.later (items_by (value_data l.form l.set) (left l.form l.rest)))
      (way_of g.W.Write l.initial.lines) (way_of g.W.Write l.lines);
}

abbrev pub decreases-loop-rest : goal.decreases-loop-rest
decreases-loop-rest g l = length (left l.form l.rest)
