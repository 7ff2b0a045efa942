-- The members or items so far went, and the others are left.
use Rattle.std.proofs.Common.{◌≡◌, false, drop}
use Rattle.serde_json.specs.Written.{items_text, members_text}
use Rattle.dd_lines.specs.Telling.{way_of}
use Rattle.dd_set.specs.Views.{elements_view, items_view}
use Rattle.dd_dicom_json.specs.DicomJson.{element_members, item_datas}
use Rattle.dd_dicom_json.proofs.Leaving.{Leaves}
use Rattle.dd_dicom_json.proofs.elements.+elements.Given as goal

abbrev pub invariant-add_members-loop-element : goal.invariant-add_members-loop-element
invariant-add_members-loop-element g l = record {
  same : l.lines.to.ghost_name ≡ l.initial.lines.to.ghost_name;
  went : Leaves (members_text false (element_members l.set (elements_view l.elements)))
      (members_text l.later (element_members l.set (elements_view (drop l.element-index l.elements))))
      (way_of g.W.Write l.initial.lines) (way_of g.W.Write l.lines);
}

abbrev pub invariant-add_items-loop-item : goal.invariant-add_items-loop-item
invariant-add_items-loop-item g l = record {
  same : l.lines.to.ghost_name ≡ l.initial.lines.to.ghost_name;
  went : Leaves (items_text false (item_datas l.set (items_view l.items)))
      (items_text l.later (item_datas l.set (items_view (drop l.item-index l.items))))
      (way_of g.W.Write l.initial.lines) (way_of g.W.Write l.lines);
}
