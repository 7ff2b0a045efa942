use Rattle.std.proofs.Common.{rules, ◌≡◌, ◌<◌, ◌^◌, ◌-◌, length, take, sym, ap, ◌∙◌}
use Rattle.std.proofs.lemmas.Result.{err_from_is_err_and}
use Rattle.sha2.specs.Sha256.{sha256}
use Rattle.sha2.proofs.Facts256.{length-sha256}
use Rattle.dd_set.specs.Views.{elements_view, items_view, set_view}
use Rattle.dd_set.proofs.Seen.{set_view-is}
use Rattle.dd_staged.specs.declared.stage_fault.StageFault.TheVariants.{BadStage}
use Rattle.dd_staged.proofs.ReadStage.{count_small, list_of, no_list_bad, no_set_bad, read_bad, read_found, set_of_list}
use Rattle.dd_staged.proofs.reading.read_list.Goals as goal

pub returns-in_err-set-clause-bad : goal.returns-in_err-set-clause-bad
returns-in_err-set-clause-bad c =
    let p = err_from_is_err_and c.from_residual.result c.from_residual.ensures.1 in
    rw (p.1, p.2) (λ n same.
    let is : c.in_err-set.field-0.0 ≡ BadStage n = cc in
    let none = c.in_err-set.ensures.bad n cc in
    no_set_bad n c.args.bytes.now none.0 none.1)

pub returns-in_default-clause-bad : goal.returns-in_default-clause-bad
returns-in_default-clause-bad c = λ n same.
    let text = c.args.bytes.now in
    let set = c.in_ok-set.set in
    let view : elements_view c.deref.result.now ≡ set_view set =
    ap elements_view c.deref.ensures.value ∙ sym (set_view-is set) in
    let is : n ≡ 0 = cc in
    no_list_bad n text is (λ parts list. c.items_in.ensures.none c.in_default.is parts (count_small text parts list)
    (view ∙ set_of_list text (set_view set) parts c.digest_before.result c.in_ok-set.ensures.found
    c.digest_before.ensures list))

pub returns-clause-found : goal.returns-clause-found
returns-clause-found c =
    let text = c.args.bytes.now in
    let set = c.in_ok-set.set in
    let view : elements_view c.deref.result.now ≡ set_view set =
    ap elements_view c.deref.ensures.value ∙ sym (set_view-is set) in
    let short : length text < 2 ^ 32 = search rules in
    let long : length c.digest_before.result ≡ 32 = ap length c.digest_before.ensures ∙ length-sha256 _ in
    let parts = items_view c.in-Some.items.now in
    read_found text parts c.read_items.result (list_of text (set_view set) parts c.digest_before.result c.in_ok-set.ensures.found long
    c.digest_before.ensures (sym view ∙ c.in-Some.ensures.some) short) c.read_items.ensures.each c.read_items.ensures.spelled

pub returns-clause-bad : goal.returns-clause-bad
returns-clause-bad c = λ n same.
    let text = c.args.bytes.now in
    let set = c.in_ok-set.set in
    let view : elements_view c.deref.result.now ≡ set_view set =
    ap elements_view c.deref.ensures.value ∙ sym (set_view-is set) in
    let short : length text < 2 ^ 32 = search rules in
    let long : length c.digest_before.result ≡ 32 = ap length c.digest_before.ensures ∙ length-sha256 _ in
    let parts = items_view c.in-Some.items.now in
    read_bad n text parts (list_of text (set_view set) parts c.digest_before.result c.in_ok-set.ensures.found long
    c.digest_before.ensures (sym view ∙ c.in-Some.ensures.some) short) (c.read_items.ensures.bad n same)
