-- A data set member by member, and a sequence item by item.
use Rattle.std.proofs.Common.{arith, ◌∙◌, ◌++◌, ◌∷◌, [], sym, refl, false, codes}
use Rattle.json.specs.Print.{quoted}
use Rattle.serde_json.specs.Written.{comma_if, compact_text, items_text, members_text}
use Rattle.dd_elem.specs.declared.vr.Vr.TheVariants.{SQ}
use Rattle.dd_set.specs.Views.{elements_view, items_view, value_view}
use Rattle.dd_dicom_json.specs.DicomJson.{content_data, element_members, item_datas}
use Rattle.dd_dicom_json.specs.Names.{tag_name}
use Rattle.dd_dicom_json.specs.Texts.{opening}
use Rattle.dd_dicom_json.proofs.ElementTexts.{datum_at, item_parts, items_end, member_at, members_end}
use Rattle.dd_dicom_json.proofs.ElementTexts.{set_members, some_sequence}
use Rattle.dd_dicom_json.proofs.Leaving.{first_fails, leaves_ends, leaves_fails, leaves_next, middle_fails, second_tells}
use Rattle.dd_dicom_json.proofs.Leaving.{third_tells}
use Rattle.dd_dicom_json.proofs.ListTexts.{member_parts}
use Rattle.dd_dicom_json.proofs.elements.+elements.Goals as goal

-- ---- a data set

pub add_elements-returns-in_err-add_raw-clause-written : goal.add_elements-returns-in_err-add_raw-clause-written
add_elements-returns-in_err-add_raw-clause-written g t c =
    first_fails c.from_residual.result _ (123 ∷ []) _ _ _ c.from_residual.ensures.0
    (set_members c.args.around _ c.args.set.now _ refl refl) c.in_err-add_raw.ensures.written

pub add_elements-returns-clause-written : goal.add_elements-returns-clause-written
add_elements-returns-clause-written g t c =
    second_tells c.add_members.result _ (123 ∷ [])
    (members_text false (element_members c.within.result (elements_view c.deref.result.now))) _ _ _
    (set_members c.args.around c.within.result c.args.set.now c.deref.result.now c.deref.ensures.value c.within.ensures)
    c.in_ok-add_raw.ensures.written c.add_members.ensures.written

pub add_members-returns-in_err-add_member-clause-written : goal.add_members-returns-in_err-add_member-clause-written
add_members-returns-in_err-add_member-clause-written g t c =
    leaves_fails c.from_residual.result _ _ _ _ _ _ _ c.from_residual.ensures.0
    (member_at c.args.set c.loop-element.later c.args.elements.now c.loop-element.element-index c.element-item.result
    c.loop-element-test.true c.element-item.is)
    c.loop-element.invariant.went c.in_err-add_member.ensures.written

pub add_members-loop-element-preserved : goal.add_members-loop-element-preserved
add_members-loop-element-preserved g t c = record {
  same = c.in_ok-add_member.ensures.same ∙ c.loop-element.invariant.same;
  went = leaves_next _ _ _ _ _ _ _
      (member_at c.args.set c.loop-element.later c.args.elements.now c.loop-element.element-index c.element-item.result
      c.loop-element-test.true c.element-item.is)
      c.loop-element.invariant.went c.in_ok-add_member.ensures.written;
}

pub add_members-returns-clause-written : goal.add_members-returns-clause-written
add_members-returns-clause-written g t c =
    leaves_ends c.add_raw.result _ _ (125 ∷ []) _ _ _
    (members_end c.args.set c.loop-element.later c.args.elements.now c.loop-element.element-index (omega arith))
    c.loop-element.invariant.went c.add_raw.ensures.written

-- ---- an element

pub add_member-returns-in_err-add_tag-clause-written : goal.add_member-returns-in_err-add_tag-clause-written
add_member-returns-in_err-add_tag-clause-written g t c =
    first_fails c.from_residual.result _ (comma_if c.args.later ++ (quoted (tag_name c.args.element.now.tag) ++ 58 ∷ []))
    _ _ _ c.from_residual.ensures.0
    (member_parts c.args.later (tag_name c.args.element.now.tag)
    (compact_text (content_data c.args.set c.args.element.now.vr (value_view c.args.element.now.value))))
    c.in_err-add_tag.ensures.written

pub add_member-returns-clause-written : goal.add_member-returns-clause-written
add_member-returns-clause-written g t c =
    second_tells c.add_content.result _
    (comma_if c.args.later ++ (quoted (tag_name c.args.element.now.tag) ++ 58 ∷ [])) _ _ _ _
    (member_parts c.args.later (tag_name c.args.element.now.tag)
    (compact_text (content_data c.args.set c.args.element.now.vr (value_view c.args.element.now.value))))
    c.in_ok-add_tag.ensures.written c.add_content.ensures.written

-- ---- a sequence

pub add_sequence-returns-clause-written : goal.add_sequence-returns-clause-written
add_sequence-returns-clause-written g t c =
    third_tells c.add_raw.result _ (opening SQ (codes "Value"))
    (items_text false (item_datas c.args.set (items_view c.args.items.now))) (125 ∷ []) _ _ _ _
    (some_sequence c.args.set c.args.items.now (sym c.is_empty.ensures ∙ c.if-is_empty.false))
    c.in_ok-open_list.ensures.written c.in_ok-add_items.ensures.written c.add_raw.ensures.written

pub add_sequence-returns-in_err-open_list-clause-written : goal.add_sequence-returns-in_err-open_list-clause-written
add_sequence-returns-in_err-open_list-clause-written g t c =
    first_fails c.from_residual.result _ (opening SQ (codes "Value")) _ _ _ c.from_residual.ensures.0
    (some_sequence c.args.set c.args.items.now (sym c.is_empty.ensures ∙ c.if-is_empty.false)) c.in_err-open_list.ensures.written

pub add_sequence-returns-in_err-add_items-clause-written : goal.add_sequence-returns-in_err-add_items-clause-written
add_sequence-returns-in_err-add_items-clause-written g t c =
    middle_fails c.from_residual-in_err-add_items.result _ (opening SQ (codes "Value"))
    (items_text false (item_datas c.args.set (items_view c.args.items.now))) (125 ∷ []) _ _ _
    c.from_residual-in_err-add_items.ensures.0
    (some_sequence c.args.set c.args.items.now (sym c.is_empty.ensures ∙ c.if-is_empty.false)) c.in_ok-open_list.ensures.written c.in_err-add_items.ensures.written

pub add_items-returns-in_err-add_item-clause-written : goal.add_items-returns-in_err-add_item-clause-written
add_items-returns-in_err-add_item-clause-written g t c =
    leaves_fails c.from_residual.result _ _ _ _ _ _ _ c.from_residual.ensures.0
    (datum_at c.args.set c.loop-item.later c.args.items.now c.loop-item.item-index c.item-item.result
    c.loop-item-test.true c.item-item.is)
    c.loop-item.invariant.went c.in_err-add_item.ensures.written

pub add_items-loop-item-preserved : goal.add_items-loop-item-preserved
add_items-loop-item-preserved g t c = record {
  same = c.in_ok-add_item.ensures.same ∙ c.loop-item.invariant.same;
  went = leaves_next _ _ _ _ _ _ _
      (datum_at c.args.set c.loop-item.later c.args.items.now c.loop-item.item-index c.item-item.result
      c.loop-item-test.true c.item-item.is)
      c.loop-item.invariant.went c.in_ok-add_item.ensures.written;
}

pub add_items-returns-clause-written : goal.add_items-returns-clause-written
add_items-returns-clause-written g t c =
    leaves_ends c.add_raw.result _ _ (93 ∷ []) _ _ _
    (items_end c.args.set c.loop-item.later c.args.items.now c.loop-item.item-index (omega arith))
    c.loop-item.invariant.went c.add_raw.ensures.written

pub add_item-returns-in_err-add_raw-clause-written : goal.add_item-returns-in_err-add_raw-clause-written
add_item-returns-in_err-add_raw-clause-written g t c =
    first_fails c.from_residual.result _ c.comma.result.now _ _ _ c.from_residual.ensures.0
    (item_parts c.args.set c.args.later c.comma.result.now c.args.item.now c.comma.ensures)
    c.in_err-add_raw.ensures.written

pub add_item-returns-clause-written : goal.add_item-returns-clause-written
add_item-returns-clause-written g t c =
    second_tells c.add_elements.result _ c.comma.result.now _ _ _ _
    (item_parts c.args.set c.args.later c.comma.result.now c.args.item.now c.comma.ensures)
    c.in_ok-add_raw.ensures.written c.add_elements.ensures.written
