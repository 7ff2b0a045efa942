use Rattle.std.proofs.Common.{rules, ◌≡◌, ◌<◌, ◌+◌, ◌++◌, IsSomeAnd, length, length-append, ap, subst}
use Rattle.std.proofs.Common.{sym, ◌∙◌, arith}
use Rattle.std.proofs.lemmas.Result.{IfOk-weaker, on_err_weaker}
use Rattle.dd_set.specs.declared.set.DataSet.{the_lemmas}
use Rattle.dd_encoding.specs.Elements.{Content, items}
use Rattle.dd_encoding.specs.Spelling.{header_text, length_of, items_text}
use Rattle.dd_set.specs.Starts.{content_places, item_places}
use Rattle.dd_set.specs.Views.{value_view, items_view}
use Rattle.dd_set.proofs.Places.{item_places-length}
use Rattle.dd_set.proofs.starts.starts_of.Goals as goal

pub returns-in-Items-clause-memory : goal.returns-in-Items-clause-memory
returns-in-Items-clause-memory c = λ front.
    let e = c.args.element.now in
    let parts = items_view c.in-Items.items.items in
    let before = front ++ header_text e.tag e.vr (length_of c.in-Items.length (items_text parts)) in
    let seen : value_view e.value ≡ items c.in-Items.length parts = search (rules, the_lemmas) in
    on_err_weaker c.items_starts.result (λ some.
    let there : 0 < length (item_places before parts) = omega
    (arith, item_places-length before c.in-Items.items.items, some) in
    subst (λ (v : Content). IsSomeAnd (content_places front e.tag e.vr v) (λ places. 0 < length places))
    (sym seen) there) (rw c.deref.ensures.value at c.items_starts.ensures.memory)

pub returns-in-Items-clause-places : goal.returns-in-Items-clause-places
returns-in-Items-clause-places c = λ front is.
    let e = c.args.element.now in
    let parts = items_view c.in-Items.items.items in
    let n = length_of c.in-Items.length (items_text parts) in
    let header = header_text e.tag e.vr n in
    let seen : value_view e.value ≡ items c.in-Items.length parts = search (rules, the_lemmas) in
    let first : length (front ++ header) ≡ c.args.at + 4 + c.shape_size.result = omega
    (arith, is, c.shape_size.ensures.exact n, length-append front header) in
    IfOk-weaker c.items_starts.result _ _
    (λ starts found. found ∙ ap (λ (v : Content). content_places front e.tag e.vr v) (sym seen))
    (rw c.deref.ensures.value at (c.items_starts.ensures.places (front ++ header) first))
