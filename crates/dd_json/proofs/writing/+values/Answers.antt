-- The opening bracket goes, then each item or member after a comma but for the first, then the closing bracket.
use Rattle.std.proofs.Common.{◌∙◌, ◌∷◌, [], ◌++◌, ◌+◌, true, false, arith, refl}
use Rattle.serde_json.specs.Written.{comma_if, compact_text, items_text, members_text}
use Rattle.dd_json.specs.Values.{items_view, members_view, value_of}
use Rattle.dd_json.proofs.Along.{along_fails, along_more, along_none, along_tells}
use Rattle.dd_json.proofs.ValueTexts.{array_tells, comma_fails, item_next, items_end, items_from, member_goes}
use Rattle.dd_json.proofs.ValueTexts.{members_end, name_fails, object_tells, value_fails}
use Rattle.dd_json.proofs.writing.+values.Goals as goal

pub add_json-returns-in_ok-add_raw-in-Array-clause-written : goal.add_json-returns-in_ok-add_raw-in-Array-clause-written
add_json-returns-in_ok-add_raw-in-Array-clause-written g t c =
    array_tells c.add_items.result c.args.value.now c.in-Array.items _ _ _ c.in-Array.is
    c.in_ok-add_raw-in-Array.ensures.written c.add_items.ensures.written

pub add_json-returns-in_ok-add_raw-in-Object-clause-written :
    goal.add_json-returns-in_ok-add_raw-in-Object-clause-written
add_json-returns-in_ok-add_raw-in-Object-clause-written g t c =
    object_tells c.add_members.result c.args.value.now c.in-Object.members _ _ _ c.in-Object.is
    c.in_ok-add_raw-in-Object.ensures.written c.add_members.ensures.written

-- ---- items

pub add_items-loop-item-init : goal.add_items-loop-item-init
add_items-loop-item-init g t c = record {
  same = refl;
  went = along_none _ _;
  stays = refl;
}

pub add_items-returns-in_err-add_comma_if-clause-written : goal.add_items-returns-in_err-add_comma_if-clause-written
add_items-returns-in_err-add_comma_if-clause-written g t c =
    let items = c.args.items.now in
    let next = item_next c.loop-item.later items c.loop-item.item-index c.item-item.result _ _ c.loop-item-test.true
    c.item-item.is c.loop-item.invariant.went in
    along_fails c.from_residual.result (items_text false (items_view items)) (comma_if c.loop-item.later)
    (compact_text (value_of c.item-item.result) ++ items_from true items (c.loop-item.item-index + 1)) _ _ _
    c.from_residual.ensures.0 next c.in_err-add_comma_if.ensures.written

pub add_items-returns-in_err-add_json-clause-written : goal.add_items-returns-in_err-add_json-clause-written
add_items-returns-in_err-add_json-clause-written g t c =
    let items = c.args.items.now in
    let rest = items_from true items (c.loop-item.item-index + 1) in
    let next = item_next c.loop-item.later items c.loop-item.item-index c.item-item.result _ _ c.loop-item-test.true
    c.item-item.is c.loop-item.invariant.went in
    let comma = along_more (items_text false (items_view items)) (comma_if c.loop-item.later)
    (compact_text (value_of c.item-item.result) ++ rest) _ _ _ next c.in_ok-add_comma_if.ensures.written in
    along_fails c.from_residual-in_err-add_json.result (items_text false (items_view items))
    (compact_text (value_of c.item-item.result)) rest _ _ _ c.from_residual-in_err-add_json.ensures.0 comma
    c.in_err-add_json.ensures.written

pub add_items-loop-item-preserved : goal.add_items-loop-item-preserved
add_items-loop-item-preserved g t c = record {
  same = c.in_ok-add_json.ensures.same ∙ c.in_ok-add_comma_if.ensures.same ∙ c.loop-item.invariant.same;
  went =
      let items = c.args.items.now in
      let rest = items_from true items (c.loop-item.item-index + 1) in
      let next = item_next c.loop-item.later items c.loop-item.item-index c.item-item.result _ _ c.loop-item-test.true
      c.item-item.is c.loop-item.invariant.went in
      let comma = along_more (items_text false (items_view items)) (comma_if c.loop-item.later)
      (compact_text (value_of c.item-item.result) ++ rest) _ _ _ next c.in_ok-add_comma_if.ensures.written in
      along_more (items_text false (items_view items)) (compact_text (value_of c.item-item.result)) rest _ _ _ comma
      c.in_ok-add_json.ensures.written;
  stays = c.in_ok-add_json.ensures.rest ∙ c.in_ok-add_comma_if.ensures.rest ∙ c.loop-item.invariant.stays;
}

pub add_items-returns-clause-written : goal.add_items-returns-clause-written
add_items-returns-clause-written g t c =
    along_tells c.add_raw.result (items_text false (items_view c.args.items.now)) (93 ∷ []) _ _ _
    (items_end c.loop-item.later c.args.items.now c.loop-item.item-index _ _ (omega arith) c.loop-item.invariant.went)
    c.add_raw.ensures.written

-- ---- members

pub add_members-loop-member-init : goal.add_members-loop-member-init
add_members-loop-member-init g t c = record {
  same = refl;
  went = along_none _ _;
  stays = refl;
}

pub add_members-returns-in_err-add_comma_if-clause-written : goal.add_members-returns-in_err-add_comma_if-clause-written
add_members-returns-in_err-add_comma_if-clause-written g t c =
    comma_fails c.from_residual.result c.loop-member.later c.args.members.now c.loop-member.member-index _ _ _
    c.from_residual.ensures.0 c.loop-member-test.true c.loop-member.invariant.went c.in_err-add_comma_if.ensures.written

pub add_members-returns-in_err-add_member_name-clause-written :
    goal.add_members-returns-in_err-add_member_name-clause-written
add_members-returns-in_err-add_member_name-clause-written g t c =
    name_fails c.from_residual-in_err-add_member_name.result c.loop-member.later c.args.members.now
    c.loop-member.member-index _ _ _ _ _ c.from_residual-in_err-add_member_name.ensures.0 c.loop-member-test.true
    c.loop-member.invariant.went c.in_ok-add_comma_if.ensures.written c.in_err-add_member_name.ensures.written

pub add_members-returns-in_err-add_json-clause-written : goal.add_members-returns-in_err-add_json-clause-written
add_members-returns-in_err-add_json-clause-written g t c =
    value_fails c.from_residual-in_err-add_json.result c.loop-member.later c.args.members.now
    c.loop-member.member-index _ _ _ _ _ _ c.from_residual-in_err-add_json.ensures.0 c.loop-member-test.true
    c.loop-member.invariant.went c.in_ok-add_comma_if.ensures.written c.in_ok-add_member_name.ensures.written
    c.in_err-add_json.ensures.written

pub add_members-loop-member-preserved : goal.add_members-loop-member-preserved
add_members-loop-member-preserved g t c = record {
  same = c.in_ok-add_json.ensures.same ∙ c.in_ok-add_member_name.ensures.same ∙ c.in_ok-add_comma_if.ensures.same
      ∙ c.loop-member.invariant.same;
  went = member_goes c.loop-member.later c.args.members.now c.loop-member.member-index _ _ _ _ _ _ c.loop-member-test.true
      c.loop-member.invariant.went c.in_ok-add_comma_if.ensures.written c.in_ok-add_member_name.ensures.written
      c.in_ok-add_json.ensures.written;
  stays = c.in_ok-add_json.ensures.rest ∙ c.in_ok-add_member_name.ensures.rest ∙ c.in_ok-add_comma_if.ensures.rest
      ∙ c.loop-member.invariant.stays;
}

pub add_members-returns-clause-written : goal.add_members-returns-clause-written
add_members-returns-clause-written g t c =
    along_tells c.add_raw.result (members_text false (members_view c.args.members.now)) (125 ∷ []) _ _ _
    (members_end c.loop-member.later c.args.members.now c.loop-member.member-index _ _ (omega arith)
    c.loop-member.invariant.went) c.add_raw.ensures.written
