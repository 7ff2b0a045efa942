-- The fragments so far went, and the others are left.
use Rattle.std.proofs.Common.{◌≡◌, false, drop}
use Rattle.serde_json.specs.Written.{items_text}
use Rattle.dd_lines.specs.Telling.{way_of}
use Rattle.dd_set.specs.Views.{pieces}
use Rattle.dd_dicom_json.specs.DicomJson.{fragment_data}
use Rattle.dd_dicom_json.specs.Values.{items_by}
use Rattle.dd_dicom_json.proofs.Leaving.{Leaves}
use Rattle.dd_dicom_json.proofs.names.add_all_fragments.Given as goal

abbrev pub invariant-loop-fragment : goal.invariant-loop-fragment
invariant-loop-fragment g l = record {
  same : l.lines.to.ghost_name ≡ l.initial.lines.to.ghost_name;
  went : Leaves (items_text false (items_by fragment_data (pieces l.fragments)))
      (items_text l.later (items_by fragment_data (pieces (drop l.fragment-index l.fragments))))
      (way_of g.W.Write l.initial.lines) (way_of g.W.Write l.lines);
}
