-- The brace, the groups that have characters, and the other brace.
use Rattle.std.proofs.Common.{◌∷◌, [], refl}
use Rattle.dd_dicom_json.proofs.Leaving.{first_fails, leaves_fails, leaves_first, leaves_last, leaves_next}
use Rattle.dd_dicom_json.proofs.ListTexts.{after_brace, after_first, after_second, name_parts}
use Rattle.dd_dicom_json.proofs.texts.add_name.Goals as goal

pub returns-in_err-add_raw-clause-written : goal.returns-in_err-add_raw-clause-written
returns-in_err-add_raw-clause-written g c =
    let first = c.part_at_equals.result.0.now in
    let second = c.part_at_equals-2.result.0.now in
    let third = c.part_at_equals-2.result.1.now in
    let two = c.has_earlier-is_second_later.result in
    let three = c.has_earlier-is_third_later.result in
    let is = name_parts c.args.set c.has_earlier-is_second_later.result c.has_earlier-is_third_later.result c.args.value.now
    c.part_at_equals.result.0.now c.part_at_equals.result.1.now c.part_at_equals-2.result.0.now
    c.part_at_equals-2.result.1.now c.part_at_equals.ensures.before c.part_at_equals.ensures.after
    c.part_at_equals-2.ensures.before c.part_at_equals-2.ensures.after c.has_earlier-is_second_later.ensures c.has_earlier-is_third_later.ensures in
    first_fails c.from_residual.result _ (123 ∷ []) _ _ _ c.from_residual.ensures.0 is c.in_err-add_raw.ensures.written

pub returns-in_err-add_group-clause-written : goal.returns-in_err-add_group-clause-written
returns-in_err-add_group-clause-written g c =
    let first = c.part_at_equals.result.0.now in
    let second = c.part_at_equals-2.result.0.now in
    let third = c.part_at_equals-2.result.1.now in
    let two = c.has_earlier-is_second_later.result in
    let three = c.has_earlier-is_third_later.result in
    let is = name_parts c.args.set c.has_earlier-is_second_later.result c.has_earlier-is_third_later.result c.args.value.now
    c.part_at_equals.result.0.now c.part_at_equals.result.1.now c.part_at_equals-2.result.0.now
    c.part_at_equals-2.result.1.now c.part_at_equals.ensures.before c.part_at_equals.ensures.after
    c.part_at_equals-2.ensures.before c.part_at_equals-2.ensures.after c.has_earlier-is_second_later.ensures c.has_earlier-is_third_later.ensures in
    leaves_fails c.from_residual-in_err-add_group.result _ (after_brace c.args.set two three first second third) _ (after_first c.args.set two three second third) _ _ _ c.from_residual-in_err-add_group.ensures.0 refl (leaves_first _ (123 ∷ []) (after_brace c.args.set two three first second third) _ _ is c.in_ok-add_raw.ensures.written) c.in_err-add_group.ensures.written

pub returns-in_err-add_group-2-clause-written : goal.returns-in_err-add_group-2-clause-written
returns-in_err-add_group-2-clause-written g c =
    let first = c.part_at_equals.result.0.now in
    let second = c.part_at_equals-2.result.0.now in
    let third = c.part_at_equals-2.result.1.now in
    let two = c.has_earlier-is_second_later.result in
    let three = c.has_earlier-is_third_later.result in
    let is = name_parts c.args.set c.has_earlier-is_second_later.result c.has_earlier-is_third_later.result c.args.value.now
    c.part_at_equals.result.0.now c.part_at_equals.result.1.now c.part_at_equals-2.result.0.now
    c.part_at_equals-2.result.1.now c.part_at_equals.ensures.before c.part_at_equals.ensures.after
    c.part_at_equals-2.ensures.before c.part_at_equals-2.ensures.after c.has_earlier-is_second_later.ensures c.has_earlier-is_third_later.ensures in
    leaves_fails c.from_residual-in_err-add_group-2.result _ (after_first c.args.set two three second third) _ (after_second c.args.set three third) _ _ _ c.from_residual-in_err-add_group-2.ensures.0 refl (leaves_next _ (after_brace c.args.set two three first second third) _ (after_first c.args.set two three second third) _ _ _ refl (leaves_first _ (123 ∷ []) (after_brace c.args.set two three first second third) _ _ is c.in_ok-add_raw.ensures.written) c.in_ok-add_group.ensures.written) c.in_err-add_group-2.ensures.written

pub returns-in_err-add_group-3-clause-written : goal.returns-in_err-add_group-3-clause-written
returns-in_err-add_group-3-clause-written g c =
    let first = c.part_at_equals.result.0.now in
    let second = c.part_at_equals-2.result.0.now in
    let third = c.part_at_equals-2.result.1.now in
    let two = c.has_earlier-is_second_later.result in
    let three = c.has_earlier-is_third_later.result in
    let is = name_parts c.args.set c.has_earlier-is_second_later.result c.has_earlier-is_third_later.result c.args.value.now
    c.part_at_equals.result.0.now c.part_at_equals.result.1.now c.part_at_equals-2.result.0.now
    c.part_at_equals-2.result.1.now c.part_at_equals.ensures.before c.part_at_equals.ensures.after
    c.part_at_equals-2.ensures.before c.part_at_equals-2.ensures.after c.has_earlier-is_second_later.ensures c.has_earlier-is_third_later.ensures in
    leaves_fails c.from_residual-in_err-add_group-3.result _ (after_second c.args.set three third) _ (125 ∷ []) _ _ _ c.from_residual-in_err-add_group-3.ensures.0 refl (leaves_next _ (after_first c.args.set two three second third) _ (after_second c.args.set three third) _ _ _ refl (leaves_next _ (after_brace c.args.set two three first second third) _ (after_first c.args.set two three second third) _ _ _ refl (leaves_first _ (123 ∷ []) (after_brace c.args.set two three first second third) _ _ is c.in_ok-add_raw.ensures.written) c.in_ok-add_group.ensures.written) c.in_ok-add_group-2.ensures.written) c.in_err-add_group-3.ensures.written

pub returns-clause-written : goal.returns-clause-written
returns-clause-written g c =
    let first = c.part_at_equals.result.0.now in
    let second = c.part_at_equals-2.result.0.now in
    let third = c.part_at_equals-2.result.1.now in
    let two = c.has_earlier-is_second_later.result in
    let three = c.has_earlier-is_third_later.result in
    let is = name_parts c.args.set c.has_earlier-is_second_later.result c.has_earlier-is_third_later.result c.args.value.now
    c.part_at_equals.result.0.now c.part_at_equals.result.1.now c.part_at_equals-2.result.0.now
    c.part_at_equals-2.result.1.now c.part_at_equals.ensures.before c.part_at_equals.ensures.after
    c.part_at_equals-2.ensures.before c.part_at_equals-2.ensures.after c.has_earlier-is_second_later.ensures c.has_earlier-is_third_later.ensures in
    leaves_last c.add_raw-2.result _ (125 ∷ []) _ _ _ (leaves_next _ (after_second c.args.set three third) _ (125 ∷ []) _ _ _ refl (leaves_next _ (after_first c.args.set two three second third) _ (after_second c.args.set three third) _ _ _ refl (leaves_next _ (after_brace c.args.set two three first second third) _ (after_first c.args.set two three second third) _ _ _ refl (leaves_first _ (123 ∷ []) (after_brace c.args.set two three first second third) _ _ is c.in_ok-add_raw.ensures.written) c.in_ok-add_group.ensures.written) c.in_ok-add_group-2.ensures.written) c.in_ok-add_group-3.ensures.written) c.add_raw-2.ensures.written
