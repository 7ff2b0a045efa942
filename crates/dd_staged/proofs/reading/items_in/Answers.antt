use Rattle.std.proofs.Common.{◌≡◌, ◌-◌, true, length, take, refl, sym, ap, ◌∙◌}
use Rattle.dd_encoding.specs.Elements.{elements_of}
use Rattle.dd_set.specs.Views.{element_view, items_view}
use Rattle.dd_staged.specs.Stages.{digest_element, list_elements}
use Rattle.dd_staged.proofs.ReadStage.{EndsIn, both_joined, first_part, last_part}
use Rattle.dd_staged.proofs.reading.items_in.Goals as goal

pub returns-in_err-items-clause-none : goal.returns-in_err-items-clause-none
returns-in_err-items-clause-none c = λ e parts few same.
    let ends : EndsIn c.args.elements.now c.last-item.result =
    record { some = c.in-len1-up.len_at_least; is = c.last-item.is } in
    c.in_err-items.ensures.none refl parts few
    (first_part c.args.elements.now c.last-item.result (elements_of (list_elements parts))
    (digest_element c.args.digest.now) ends same)

pub returns-then-is_cell-clause-some : goal.returns-then-is_cell-clause-some
returns-then-is_cell-clause-some c =
    let es = c.args.elements.now in
    let ends : EndsIn es c.last-item.result =
    record { some = c.in-len1-up.len_at_least; is = c.last-item.is } in
    let parts = items_view c.in_ok-items.items.now in
    both_joined es c.last-item.result (elements_of (list_elements parts)) (digest_element c.args.digest.now) ends
    c.in_ok-items.ensures.some (c.is_cell.ensures.0 c.if-is_cell.true ∙ c.digest_cell.ensures.exact)

pub returns-else-is_cell-clause-none : goal.returns-else-is_cell-clause-none
returns-else-is_cell-clause-none c = λ e parts few same.
    let es = c.args.elements.now in
    let ends : EndsIn es c.last-item.result =
    record { some = c.in-len1-up.len_at_least; is = c.last-item.is } in
    let last = last_part es c.last-item.result (elements_of (list_elements parts))
    (digest_element c.args.digest.now) ends same in
    let yes : c.is_cell.result ≡ true = c.is_cell.ensures.1 (last ∙ sym c.digest_cell.ensures.exact) in
    let no = c.if-is_cell.false in
    absurd cc
