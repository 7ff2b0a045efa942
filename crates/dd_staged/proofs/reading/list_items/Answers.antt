use Rattle.std.proofs.Common.{rules, arith, ◌≡◌, ◌-◌, true, length, take, map, refl, sym, ap, ◌∙◌}
use Rattle.byteorder.specs.Endian.{little_bytes}
use Rattle.dd_encoding.specs.Elements.{elements_of}
use Rattle.dd_set.specs.Views.{elements_view, items_view}
use Rattle.dd_staged.specs.Cells.{cell_element}
use Rattle.dd_staged.specs.Stages.{count_of, front_elements, items_element}
use Rattle.dd_staged.proofs.ReadStage.{EndsIn, before_items, both_joined, count_items, first_part, last_part}
use Rattle.dd_staged.proofs.ReadStage.{same_items}
use Rattle.dd_staged.proofs.reading.list_items.Goals as goal

pub returns-in_err-items-clause-none : goal.returns-in_err-items-clause-none
returns-in_err-items-clause-none c = λ e parts few same.
    let ends : EndsIn c.args.elements.now c.last-item.result =
    record { some = c.in-len1-up.len_at_least; is = c.last-item.is } in
    c.in_err-items.ensures.none refl parts
    (last_part c.args.elements.now c.last-item.result (before_items parts) (items_element parts) ends same)

pub returns-in_err-count-clause-none : goal.returns-in_err-count-clause-none
returns-in_err-count-clause-none c = λ e parts few same.
    let ends : EndsIn c.args.elements.now c.last-item.result =
    record { some = c.in-len1-up.len_at_least; is = c.last-item.is } in
    let items = c.in_ok-items.items.now in
    let is : parts ≡ items_view items = same_items parts (items_view items)
    (sym (last_part c.args.elements.now c.last-item.result (before_items parts) (items_element parts) ends same)
    ∙ c.in_ok-items.ensures.some) in
    let count : count_of parts ≡ length items = ap count_of is ∙ count_items items in
    c.in_err-count.ensures (omega (arith, count, few))

pub returns-then-are_cells-clause-some : goal.returns-then-are_cells-clause-some
returns-then-are_cells-clause-some c =
    let es = c.args.elements.now in
    let ends : EndsIn es c.last-item.result =
    record { some = c.in-len1-up.len_at_least; is = c.last-item.is } in
    let parts = items_view c.in_ok-items.items.now in
    let items = c.in_ok-items.items.now in
    let cells : map cell_element c.front_cells.result ≡ front_elements (little_bytes 4 (length items)) = search rules in
    let front : elements_view (take (length es - 1) es) ≡ elements_of (map cell_element c.front_cells.result) =
    c.are_cells.ensures.0 c.if-are_cells.true in
    both_joined es c.last-item.result (before_items parts) (items_element parts) ends
    (front ∙ ap elements_of cells
    ∙ ap (λ n. elements_of (front_elements (little_bytes 4 n))) (sym (count_items c.in_ok-items.items.now)))
    c.in_ok-items.ensures.some

pub returns-else-are_cells-clause-none : goal.returns-else-are_cells-clause-none
returns-else-are_cells-clause-none c = λ e parts few same.
    let es = c.args.elements.now in
    let ends : EndsIn es c.last-item.result =
    record { some = c.in-len1-up.len_at_least; is = c.last-item.is } in
    let items = c.in_ok-items.items.now in
    let is : parts ≡ items_view items = same_items parts (items_view items)
    (sym (last_part es c.last-item.result (before_items parts) (items_element parts) ends same) ∙ c.in_ok-items.ensures.some) in
    let count : count_of parts ≡ length items = ap count_of is ∙ count_items items in
    let cells : map cell_element c.front_cells.result ≡ front_elements (little_bytes 4 (length items)) = search rules in
    let front : elements_view (take (length es - 1) es) ≡ elements_of (map cell_element c.front_cells.result) =
    first_part es c.last-item.result (before_items parts) (items_element parts) ends same
    ∙ ap (λ n. elements_of (front_elements (little_bytes 4 n))) count ∙ ap elements_of (sym cells) in
    let yes : c.are_cells.result ≡ true = c.are_cells.ensures.1 front in
    let no = c.if-are_cells.false in
    absurd cc
