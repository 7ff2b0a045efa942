use Rattle.std.proofs.Common.{rules, ◌≡◌, ◌≤◌, length, ap, arith}
use Rattle.std.proofs.lemmas.Result.{err_from_is_err_and}
use Rattle.dd_set.specs.declared.set.DataSet.{the_lemmas}
use Rattle.dd_encoding.specs.Elements.{items}
use Rattle.dd_set.specs.Single.{mark_text}
use Rattle.dd_encoding.specs.Spelling.{elements_text, items_text, header_text, sequence_end_text}
use Rattle.dd_set.specs.Views.{elements_view, value_view, items_view}
use Rattle.dd_stream.proofs.Going.{first_fails, then_sends, sends_same, goes_on_fails, goes_on_piece, goes_on_end}
use Rattle.dd_stream.proofs.Going.{third_fits}
use Rattle.dd_set.proofs.Parts.{element_items, item_split, element_seen_at, part_at, element_valid, part_valid_at}
use Rattle.dd_set.proofs.Parts.{set_text}
use Rattle.dd_set.proofs.Counting.{elements_view-end}
use Rattle.dd_set.proofs.writing.+writing.Goals as goal

pub send_items-returns-in_err-sent : goal.send_items-returns-in_err-sent
send_items-returns-in_err-sent g t c =
    let p = err_from_is_err_and c.from_residual.result c.from_residual.ensures.1 in
    let at = part_at c.args.items.now c.loop-item.item-index c.item-item.result c.loop-item-test.true c.item-item.is in
    rw (p.1, p.2) (goes_on_fails _ _ _ _ _ _ _ _ _ _ _ _ _ c.loop-item.invariant.goes at c.in_err-sent.ensures)

pub send_items-loop-item-preserved : goal.send_items-loop-item-preserved
send_items-loop-item-preserved g t c =
    let parts = c.args.items.now in
    let at = part_at parts c.loop-item.item-index c.item-item.result c.loop-item-test.true c.item-item.is in
    record {
      goes = goes_on_piece _ _ _ _ _ _ _ _ _ _ _ _ _ c.loop-item.invariant.goes at c.in_ok-sent.ensures;
      valid = (part_valid_at _ _ parts c.loop-item.item-index c.item-item.result c.loop-item-test.true c.item-item.is
          c.loop-item.invariant.valid).1;
    }

pub send_set-returns-in_err-sent : goal.send_set-returns-in_err-sent
send_set-returns-in_err-sent g t c =
    let p = err_from_is_err_and c.from_residual.result c.from_residual.ensures.1 in
    let at = element_seen_at c.deref-element-items.result.now c.loop-element.element-index c.element-item.result
    c.loop-element-test.true c.element-item.is in
    rw (p.1, p.2) (sends_same (elements_text (elements_view c.deref-element-items.result.now)) _ _ _ _ _ _ _
    (set_text c.args.set.now _ c.deref-element-items.ensures.value)
    (goes_on_fails _ _ _ _ _ _ _ _ _ _ _ _ _ c.loop-element.invariant.goes at c.in_err-sent.ensures))

pub send_set-loop-element-preserved : goal.send_set-loop-element-preserved
send_set-loop-element-preserved g t c =
    let es = c.deref-element-items.result.now in
    let at = element_seen_at es c.loop-element.element-index c.element-item.result c.loop-element-test.true
    c.element-item.is
    in
    record {
      goes = goes_on_piece _ _ _ _ _ _ _ _ _ _ _ _ _ c.loop-element.invariant.goes at c.in_ok-sent.ensures;
      valid = (
        _,
        (element_valid _ _ _ es c.loop-element.element-index c.element-item.result c.loop-element-test.true
            c.element-item.is c.loop-element.invariant.valid.1).1,
      );
    }

pub send_set-returns : goal.send_set-returns
send_set-returns g t c =
    let es = c.deref-element-items.result.now in
    let past : length es ≤ c.loop-element.element-index = omega arith in
    sends_same (elements_text (elements_view es)) _ _ _ _ _ _ _
    (set_text c.args.set.now _ c.deref-element-items.ensures.value)
    (goes_on_end _ _ _ _ _ _ _ _ c.loop-element.invariant.goes
    (ap elements_text (elements_view-end es c.loop-element.element-index past)))

pub send_element-returns-in_err-sent-in-Items : goal.send_element-returns-in_err-sent-in-Items
send_element-returns-in_err-sent-in-Items g t c =
    let p = err_from_is_err_and c.from_residual.result c.from_residual.ensures.1 in
    let parts = items_view c.in-Items.items.items in
    let is : value_view c.args.element.now.value ≡ items c.in-Items.length parts = search (rules, the_lemmas) in
    let counted = rw c.deref.ensures.value at c.items_length-count.ensures in
    rw (p.1, p.2) (sends_same _ _ _ _ _ _ _ _ (element_items c.args.element.now c.in-Items.length parts
    c.items_length-count.result is counted)
    (first_fails _ _ _ _ _ _ _ _ c.in_err-sent-in-Items.ensures))

pub send_element-returns-in_err-sent-in-Items-2 : goal.send_element-returns-in_err-sent-in-Items-2
send_element-returns-in_err-sent-in-Items-2 g t c =
    let p = err_from_is_err_and c.from_residual-in_err-sent-in-Items-2.result
    c.from_residual-in_err-sent-in-Items-2.ensures.1 in
    let parts = items_view c.in-Items.items.items in
    let is : value_view c.args.element.now.value ≡ items c.in-Items.length parts = search (rules, the_lemmas) in
    let counted = rw c.deref.ensures.value at c.items_length-count.ensures in
    let stopped = rw c.deref-in-Items.ensures.value at c.in_err-sent-in-Items-2.ensures in
    rw (p.1, p.2) (sends_same _ _ _ _ _ _ _ _ (element_items c.args.element.now c.in-Items.length parts
    c.items_length-count.result is counted)
    (then_sends _ _ _ _ _ _ _ _ _ _ _ c.in_ok-sent-in-Items.ensures (first_fails _ _ _ _ _ _ _ _ stopped)))

pub send_element-send_end-requires : goal.send_element-send_end-requires
send_element-send_end-requires g t c =
    let parts = items_view c.in-Items.items.items in
    let is : value_view c.args.element.now.value ≡ items c.in-Items.length parts = search (rules, the_lemmas) in
    let counted = rw c.deref.ensures.value at c.items_length-count.ensures in
    let went = rw c.deref-in-Items.ensures.value at c.in_ok-sent-in-Items-2.ensures in
    third_fits (header_text c.args.element.now.tag c.args.element.now.vr c.items_length-count.result) (items_text parts)
    (mark_text c.in-Items.length sequence_end_text) _ _ _ _
    (element_items c.args.element.now c.in-Items.length parts c.items_length-count.result is counted) c.requires.fits
    c.in_ok-sent-in-Items.ensures.ok.0 went.ok.0

pub send_element-returns-in_ok-sent-in-Items-2 : goal.send_element-returns-in_ok-sent-in-Items-2
send_element-returns-in_ok-sent-in-Items-2 g t c =
    let parts = items_view c.in-Items.items.items in
    let is : value_view c.args.element.now.value ≡ items c.in-Items.length parts = search (rules, the_lemmas) in
    let counted = rw c.deref.ensures.value at c.items_length-count.ensures in
    let went = rw c.deref-in-Items.ensures.value at c.in_ok-sent-in-Items-2.ensures in
    sends_same _ _ _ _ _ _ _ _ (element_items c.args.element.now c.in-Items.length parts c.items_length-count.result is
    counted)
    (then_sends _ _ _ _ _ _ _ _ _ _ _ c.in_ok-sent-in-Items.ensures
    (then_sends _ _ _ _ _ _ _ _ _ _ _ went c.send_end.ensures))

pub send_item-returns-in_err-sent : goal.send_item-returns-in_err-sent
send_item-returns-in_err-sent g t c =
    let p = err_from_is_err_and c.from_residual.result c.from_residual.ensures.1 in
    rw (p.1, p.2) (sends_same _ _ _ _ _ _ _ _ (item_split c.args.item.now c.item_header.result c.set_length-count.result
    c.item_header.ensures c.set_length-count.ensures)
    (first_fails _ _ _ _ _ _ _ _ c.in_err-sent.ensures))

pub send_item-returns-in_err-sent-2 : goal.send_item-returns-in_err-sent-2
send_item-returns-in_err-sent-2 g t c =
    let p = err_from_is_err_and c.from_residual-in_err-sent-2.result c.from_residual-in_err-sent-2.ensures.1 in
    rw (p.1, p.2) (sends_same _ _ _ _ _ _ _ _ (item_split c.args.item.now c.item_header.result c.set_length-count.result
    c.item_header.ensures c.set_length-count.ensures)
    (then_sends _ _ _ _ _ _ _ _ _ _ _ c.in_ok-sent.ensures (first_fails _ _ _ _ _ _ _ _ c.in_err-sent-2.ensures)))

pub send_item-send_end-requires : goal.send_item-send_end-requires
send_item-send_end-requires g t c =
    third_fits _ _ _ _ _ _ _ (item_split c.args.item.now c.item_header.result c.set_length-count.result
    c.item_header.ensures c.set_length-count.ensures) c.requires.fits c.in_ok-sent.ensures.ok.0
    c.in_ok-sent-2.ensures.ok.0

pub send_item-returns : goal.send_item-returns
send_item-returns g t c =
    sends_same _ _ _ _ _ _ _ _ (item_split c.args.item.now c.item_header.result c.set_length-count.result
    c.item_header.ensures c.set_length-count.ensures)
    (then_sends _ _ _ _ _ _ _ _ _ _ _ c.in_ok-sent.ensures (then_sends _ _ _ _ _ _ _ _ _ _ _ c.in_ok-sent-2.ensures
    c.send_end.ensures))
