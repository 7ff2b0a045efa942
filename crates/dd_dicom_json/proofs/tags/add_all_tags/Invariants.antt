-- The tags so far went, and the others are left.
use Rattle.std.proofs.Common.{◌≡◌, false, length}
use Rattle.serde_json.specs.Written.{items_text}
use Rattle.dd_lines.specs.Telling.{way_of}
use Rattle.dd_dicom_json.specs.Values.{tag_items}
use Rattle.dd_dicom_json.proofs.Leaving.{Leaves}
use Rattle.dd_dicom_json.proofs.tags.add_all_tags.Given as goal

abbrev pub invariant-loop-rest : goal.invariant-loop-rest
invariant-loop-rest g l = record {
  same : l.lines.to.ghost_name ≡ l.initial.lines.to.ghost_name;
  went : Leaves (items_text false (tag_items l.bytes)) (items_text l.later (tag_items l.rest))
      (way_of g.W.Write l.initial.lines) (way_of g.W.Write l.lines);
}

abbrev pub decreases-loop-rest : goal.decreases-loop-rest
decreases-loop-rest g l = length l.rest
