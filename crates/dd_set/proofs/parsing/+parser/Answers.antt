-- What the loops read, and the item of defined length; the search finds the rest.
use Rattle.std.proofs.Common.{rules, ◌≡◌, ◌+◌, ◌-◌, ◌<◌, ◌≤◌, length, suc, [], ◌∷◌, ◌++◌, map, ap, sym, subst, ◌∙◌, arith}
use Rattle.std.proofs.Common.{inl, inr, Some, None, Ok, Err, ℕ}
use Rattle.std.proofs.lemmas.Result.{err_from_is_err_and}
use Rattle.std.proofs.lemmas.List.{map_push}
use Rattle.dd_elem.specs.Tag.{number_of}
use Rattle.dd_set.specs.declared.set.DataSet.{the_lemmas}
use Rattle.dd_set.specs.declared.set.Value.TheViews.{roll-Item, roll-Element, roll-DataSet}
use Rattle.dd_encoding.specs.declared.syntax.Length.TheVariants.{Defined}
use Rattle.dd_encoding.specs.Elements.{elements_of, fragments}
use Rattle.dd_grammar.specs.AnswersAs.{FailsAs}
use Rattle.dd_grammar.specs.Faults.{is_memory}
use Rattle.dd_grammar.specs.Checks.{header_view}
use Rattle.dd_grammar.specs.declared.checks.Header.{Header as HeaderValue}
use Rattle.dd_encoding.specs.declared.syntax.Length.{Length}
use Rattle.dd_encoding.specs.declared.syntax.Syntax.{Syntax}
use Rattle.dd_set.specs.declared.set.Value.{Value}
use Rattle.dd_set.specs.Places.{at_view}
use Rattle.dd_grammar.specs.Reading.{item_reader, sequence_with, set_with, item_at, element_at, front_at, content_at, left_after, At}
use Rattle.dd_set.specs.Memory.{unkept_sequence, unkept_set, unkept_item}
use Rattle.dd_grammar.specs.declared.fault.SetFault.TheVariants.{Memory}
use Rattle.dd_set.specs.Views.{set_view, element_view, value_view, item_view}
use Rattle.dd_grammar.proofs.Failing.{fails_is}
use Rattle.dd_grammar.proofs.Loops.{fails_along, items_more, items_done, items_fail, elements_more, elements_done}
use Rattle.dd_grammar.proofs.Loops.{elements_fail}
use Rattle.dd_grammar.proofs.ReadingOn.{element_none, element_found, front_refused, content_stops, item_none}
use Rattle.dd_grammar.proofs.ReadingOn.{item_found, item_front_refused, part_refused, part_stops, within_found}
use Rattle.dd_grammar.proofs.ReadingOn.{within_fails, deeper_is}
use Rattle.dd_set.proofs.Unkept.{fault_is, sequence_fails, sequence_wants, set_stops, set_wants, deeper_unkept}
use Rattle.dd_set.proofs.Unkept.{value_wants}
use Rattle.dd_grammar.proofs.Steps.{bind_made}
use Rattle.dd_set.proofs.parsing.+parser.Goals as goal

pub sequence-returns-in_err-found-clause-exact : goal.sequence-returns-in_err-found-clause-exact
sequence-returns-in_err-found-clause-exact t c =
    let p = err_from_is_err_and c.from_residual.result c.from_residual.ensures.1 in
    let at = c.items.invariant in
    rw (p.1, p.2) (items_fail (item_reader c.args.levels) c.args.syntax c.args.form (length c.items.place.rest.now) at.0
    (map item_view c.items.items.items) (at_view c.items.place)
    (sequence_with (item_reader c.args.levels) c.args.syntax c.args.form (at_view c.args.at)) c.in_err-found.field-0.0
    at.1 c.in_err-found.ensures.exact at.3)

pub sequence-returns-in-None-clause-exact : goal.sequence-returns-in-None-clause-exact
sequence-returns-in-None-clause-exact t c =
    let at = c.items.invariant in
    let ended : item_at (item_reader c.args.levels) c.args.syntax c.args.form (at_view c.items.place) ≡ Ok
    (None, at_view c.in_ok-found.rest) = rw c.in-None.is at c.in_ok-found.ensures.exact in
    items_done (item_reader c.args.levels) c.args.syntax c.args.form (length c.items.place.rest.now) at.0
    (map item_view c.items.items.items) (at_view c.items.place) (at_view c.in_ok-found.rest)
    (sequence_with (item_reader c.args.levels) c.args.syntax c.args.form (at_view c.args.at)) at.1 ended at.3

pub sequence-items-preserved : goal.sequence-items-preserved
sequence-items-preserved t c =
    let at = c.items.invariant in
    let next = c.in-Some.next in
    let found : item_at (item_reader c.args.levels) c.args.syntax c.args.form (at_view c.items.place) ≡ Ok
    (Some (item_view next), at_view c.in_ok-found.rest) = rw c.in-Some.is at c.in_ok-found.ensures.exact in
    let shorter : length c.in_ok-found.rest.rest.now < length c.items.place.rest.now =
    rw c.in-Some.is at c.in_ok-found.ensures.shorter in
    let pushed : map item_view c.push.new.self.items ≡ map item_view c.items.items.items ++ item_view next ∷ [] =
    rw c.in_ok-push-in-Some.ensures.items (map_push _ c.items.items.items next) in (
      at.0 - 1,
      omega arith,
      omega arith,
      rw pushed (items_more (item_reader c.args.levels) c.args.syntax c.args.form (length c.items.place.rest.now) at.0
          (map item_view c.items.items.items) (at_view c.items.place) (at_view c.in_ok-found.rest) (item_view next)
          (sequence_with (item_reader c.args.levels) c.args.syntax c.args.form (at_view c.args.at)) at.1 found at.3),
      inr (sequence_wants c.args.levels c.args.syntax c.args.form (at_view c.args.at) (at_view c.items.place)
          (at_view c.in_ok-found.rest) (item_view next) at.4 found),
    )

pub sequence-returns-in_err-found-clause-memory : goal.sequence-returns-in_err-found-clause-memory
sequence-returns-in_err-found-clause-memory t c = λ memory.
    let p = err_from_is_err_and c.from_residual.result c.from_residual.ensures.1 in
    let refused : c.in_err-found.field-0.0 ≡ Memory = fault_is _ _ _ p.1 p.2 memory in
    sequence_fails c.args.levels c.args.syntax c.args.form (at_view c.args.at)
    (at_view c.items.place) c.items.invariant.4 (c.in_err-found.ensures.memory (ap (λ e. Err e) refused))

pub sequence-returns-in_err-push-in-Some-clause-memory : goal.sequence-returns-in_err-push-in-Some-clause-memory
sequence-returns-in_err-push-in-Some-clause-memory t c = λ memory.
    let next = c.in-Some.next in
    let found : item_at (item_reader c.args.levels) c.args.syntax c.args.form (at_view c.items.place) ≡ Ok
    (Some (item_view next), at_view c.in_ok-found.rest) = rw c.in-Some.is at c.in_ok-found.ensures.exact in
    sequence_wants c.args.levels c.args.syntax c.args.form (at_view c.args.at) (at_view c.items.place)
    (at_view c.in_ok-found.rest) (item_view next) c.items.invariant.4 found

-- ---- a set

pub set-returns-in_err-header-clause-exact : goal.set-returns-in_err-header-clause-exact
set-returns-in_err-header-clause-exact t c =
    let p = err_from_is_err_and c.from_residual.result c.from_residual.ensures.1 in
    let at = c.elements.invariant in
    let sequence = sequence_with (item_reader c.args.levels) in
    rw (p.1, p.2) (elements_fail sequence c.args.syntax c.args.form (length c.elements.place.rest.now) at.0
    c.elements.low (map element_view c.elements.elements.items) (at_view c.elements.place)
    (set_with (item_reader c.args.levels) c.args.syntax c.args.form (at_view c.args.at)) c.in_err-header.field-0.0 at.1
    (fails_is c.in_err-header.field-0.0 _ (front_refused sequence c.args.syntax c.args.form c.elements.low
    (at_view c.elements.place) c.in_err-header.field-0.0 c.in_err-header.ensures.exact)) at.3)

pub set-returns-in_err-header-clause-memory : goal.set-returns-in_err-header-clause-memory
set-returns-in_err-header-clause-memory t c = λ memory.
    let p = err_from_is_err_and c.from_residual.result c.from_residual.ensures.1 in
    let refused : c.in_err-header.field-0.0 ≡ Memory = fault_is _ _ _ p.1 p.2 memory in
    set_stops c.args.levels c.args.syntax c.args.form c.elements.low (at_view c.args.at)
    (at_view c.elements.place) c.elements.invariant.4
    (inl (front_refused (unkept_sequence (unkept_item c.args.levels)) c.args.syntax c.args.form c.elements.low
    (at_view c.elements.place) Memory (rw refused at c.in_err-header.ensures.exact)))

pub set-returns-in_default-clause-exact : goal.set-returns-in_default-clause-exact
set-returns-in_default-clause-exact t c =
    let at = c.elements.invariant in
    let sequence = sequence_with (item_reader c.args.levels) in
    let ended = element_none sequence c.args.syntax c.args.form c.elements.low (at_view c.elements.place)
    (at_view c.in_ok-header.rest) (rw c.in_default.is at c.in_ok-header.ensures.exact) in
    let seen : set_view (roll-DataSet (record { elements = c.elements.elements })) ≡ elements_of
    (map element_view c.elements.elements.items) = search (rules, the_lemmas) in
    rw seen (elements_done sequence c.args.syntax c.args.form (length c.elements.place.rest.now) at.0 c.elements.low
    (map element_view c.elements.elements.items) (at_view c.elements.place) (at_view c.in_ok-header.rest)
    (set_with (item_reader c.args.levels) c.args.syntax c.args.form (at_view c.args.at)) at.1 ended at.3)

pub set-returns-in_err-value-clause-exact : goal.set-returns-in_err-value-clause-exact
set-returns-in_err-value-clause-exact t c =
    let p = err_from_is_err_and c.from_residual-in_err-value.result c.from_residual-in_err-value.ensures.1 in
    let at = c.elements.invariant in
    let sequence = sequence_with (item_reader c.args.levels) in
    rw (p.1, p.2) (elements_fail sequence c.args.syntax c.args.form (length c.elements.place.rest.now) at.0
    c.elements.low (map element_view c.elements.elements.items) (at_view c.elements.place)
    (set_with (item_reader c.args.levels) c.args.syntax c.args.form (at_view c.args.at)) c.in_err-value.field-0.0 at.1
    (content_stops sequence c.args.syntax c.args.form c.elements.low (at_view c.elements.place) _ _
    c.in_err-value.field-0.0 (rw c.in-Some.is at c.in_ok-header.ensures.exact) c.in_err-value.ensures.exact) at.3)

pub set-returns-in_err-value-clause-memory : goal.set-returns-in_err-value-clause-memory
set-returns-in_err-value-clause-memory t c = λ memory.
    let p = err_from_is_err_and c.from_residual-in_err-value.result c.from_residual-in_err-value.ensures.1 in
    let refused : c.in_err-value.field-0.0 ≡ Memory = fault_is _ _ _ p.1 p.2 memory in
    set_stops c.args.levels c.args.syntax c.args.form c.elements.low (at_view c.args.at)
    (at_view c.elements.place) c.elements.invariant.4
    (value_wants c.args.levels c.args.syntax c.args.form c.elements.low (at_view c.elements.place) _ _
    (rw c.in-Some.is at c.in_ok-header.ensures.exact) (c.in_err-value.ensures.memory (ap (λ e. Err e) refused)))

-- the element of a header and of the value after it
element_is : (levels : ℕ) (syntax : Syntax) (form : Length) (low : ℕ) (at mid end : At) (header : HeaderValue)
    (value : Value) → front_at syntax form low at ≡ Ok (Some (header_view header), mid)
    → content_at (sequence_with (item_reader levels)) syntax (header_view header) mid ≡ Ok (value_view value, end)
    → element_at (sequence_with (item_reader levels)) syntax form low at
    ≡ Ok (Some (element_view (roll-Element (record { tag = header.tag; vr = header.shape.vr; value = value }))), end)
element_is levels syntax form low at mid end header value is holds =
    let seen : element_view (roll-Element (record { tag = header.tag; vr = header.shape.vr; value = value })) ≡ record
    { tag = header.tag; vr = header.shape.vr; content = value_view value } = search (rules, the_lemmas) in
    rw seen (element_found (sequence_with (item_reader levels)) syntax form low at (header_view header) mid end
    (value_view value) is holds)

pub set-elements-preserved : goal.set-elements-preserved
set-elements-preserved t c =
    let at = c.elements.invariant in
    let header = c.in-Some.header in
    let next = roll-Element (record { tag = header.tag; vr = header.shape.vr; value = c.in_ok-value.value }) in
    let found = element_is c.args.levels c.args.syntax c.args.form c.elements.low (at_view c.elements.place)
    (at_view c.in_ok-header.rest) (at_view c.in_ok-value.rest) header c.in_ok-value.value
    (rw c.in-Some.is at c.in_ok-header.ensures.exact) c.in_ok-value.ensures.exact in
    let opens : length c.in_ok-header.rest.rest.now < length c.elements.place.rest.now =
    rw c.in-Some.is at c.in_ok-header.ensures.shorter in
    let holds : length c.in_ok-value.rest.rest.now ≤ length c.in_ok-header.rest.rest.now =
    c.in_ok-value.ensures.shorter in
    let shorter : length c.in_ok-value.rest.rest.now < length c.elements.place.rest.now = omega (arith, opens, holds) in
    let pushed : map element_view c.push.new.self.items ≡ map element_view c.elements.elements.items
    ++ element_view next ∷ [] = rw c.in_ok-push.ensures.items (map_push _ c.elements.elements.items next) in
    let seen : (element_view next).tag ≡ header.tag = search (rules, the_lemmas) in
    let low : c.low_after-low.result ≡ number_of (element_view next).tag + 1 = rw seen c.low_after-low.ensures in (
      at.0 - 1,
      omega arith,
      omega arith,
      rw (pushed, low) (elements_more (sequence_with (item_reader c.args.levels)) c.args.syntax c.args.form
          (length c.elements.place.rest.now) at.0 c.elements.low (map element_view c.elements.elements.items)
          (at_view c.elements.place) (at_view c.in_ok-value.rest) (element_view next)
          (set_with (item_reader c.args.levels) c.args.syntax c.args.form (at_view c.args.at)) at.1 found at.3),
      inr (set_wants c.args.levels c.args.syntax c.args.form c.elements.low (at_view c.args.at)
          (at_view c.elements.place) (at_view c.in_ok-value.rest) (element_view next) at.4 found),
    )

pub set-returns-in_err-push-clause-memory : goal.set-returns-in_err-push-clause-memory
set-returns-in_err-push-clause-memory t c = λ memory.
    let header = c.in-Some.header in
    let next = roll-Element (record { tag = header.tag; vr = header.shape.vr; value = c.in_ok-value.value }) in
    let found = element_is c.args.levels c.args.syntax c.args.form c.elements.low (at_view c.elements.place)
    (at_view c.in_ok-header.rest) (at_view c.in_ok-value.rest) header c.in_ok-value.value
    (rw c.in-Some.is at c.in_ok-header.ensures.exact) c.in_ok-value.ensures.exact in
    set_wants c.args.levels c.args.syntax c.args.form c.elements.low (at_view c.args.at) (at_view c.elements.place)
    (at_view c.in_ok-value.rest) (element_view next) c.elements.invariant.4 found

-- ---- fragments

pub content-returns-in_err-fragments-in-Fragments-clause-memory :
    goal.content-returns-in_err-fragments-in-Fragments-clause-memory
content-returns-in_err-fragments-in-Fragments-clause-memory t c = λ memory.
    let p = err_from_is_err_and c.from_residual-in_err-fragments-in-Fragments.result
    c.from_residual-in_err-fragments-in-Fragments.ensures.1 in
    let refused : c.in_err-fragments-in-Fragments.field-0.0 ≡ Memory = fault_is _ _ _ p.1 p.2 memory in
    let whole = c.in_err-fragments-in-Fragments.ensures.memory (ap (λ e. Err e) refused) in
    let is = rw c.in-Fragments.is at (c.in_ok-n.ensures.exact (sequence_with (item_reader c.args.levels))
    c.args.at.rest.now) in
    inr (fragments whole.0, whole.1, is ∙ bind_made _ _ _ whole.2)

-- ---- an item

pub item-returns-in_err-length-clause-exact : goal.item-returns-in_err-length-clause-exact
item-returns-in_err-length-clause-exact t c =
    let p = err_from_is_err_and c.from_residual.result c.from_residual.ensures.1 in
    rw (p.1, p.2) (fails_is c.in_err-length.field-0.0 _
    (item_front_refused (item_reader c.args.levels) c.args.syntax c.args.form (at_view c.args.at)
    c.in_err-length.field-0.0 c.in_err-length.ensures.exact))

pub item-returns-in_err-length-clause-memory : goal.item-returns-in_err-length-clause-memory
item-returns-in_err-length-clause-memory t c = λ memory.
    let p = err_from_is_err_and c.from_residual.result c.from_residual.ensures.1 in
    let refused : c.in_err-length.field-0.0 ≡ Memory = fault_is _ _ _ p.1 p.2 memory in
    item_front_refused (unkept_item c.args.levels) c.args.syntax c.args.form (at_view c.args.at) Memory
    (rw refused at c.in_err-length.ensures.exact)

pub item-returns-in_default-clause-exact : goal.item-returns-in_default-clause-exact
item-returns-in_default-clause-exact t c =
    item_none (item_reader c.args.levels) c.args.syntax c.args.form (at_view c.args.at) _
    (rw c.in_default.is at c.in_ok-length.ensures.exact)

pub item-returns-in_err-item-clause-exact : goal.item-returns-in_err-item-clause-exact
item-returns-in_err-item-clause-exact t c =
    let p = err_from_is_err_and c.from_residual-in_err-item.result c.from_residual-in_err-item.ensures.1 in
    rw (p.1, p.2) (part_stops (item_reader c.args.levels) c.args.syntax c.args.form (at_view c.args.at) c.in-Some.n _
    c.in_err-item.field-0.0
    (rw c.in-Some.is at c.in_ok-length.ensures.exact) c.in_err-item.ensures.exact)

pub item-returns-in_err-item-clause-memory : goal.item-returns-in_err-item-clause-memory
item-returns-in_err-item-clause-memory t c = λ memory.
    let p = err_from_is_err_and c.from_residual-in_err-item.result c.from_residual-in_err-item.ensures.1 in
    let refused : c.in_err-item.field-0.0 ≡ Memory = fault_is _ _ _ p.1 p.2 memory in
    part_refused (unkept_item c.args.levels) c.args.syntax c.args.form (at_view c.args.at) c.in-Some.n _ Memory
    (rw c.in-Some.is at c.in_ok-length.ensures.exact) (c.in_err-item.ensures.memory (ap (λ e. Err e) refused))

pub item-returns-clause-exact : goal.item-returns-clause-exact
item-returns-clause-exact t c =
    item_found (item_reader c.args.levels) c.args.syntax c.args.form (at_view c.args.at) c.in-Some.n _ _ _
    (rw c.in-Some.is at c.in_ok-length.ensures.exact) c.in_ok-item.ensures.exact

-- ---- an item of defined length

pub part-returns-in_err-set-in-Closed-clause-exact : goal.part-returns-in_err-set-in-Closed-clause-exact
part-returns-in_err-set-in-Closed-clause-exact t c =
    let p = err_from_is_err_and c.from_residual-in_err-set-in-Closed.result
    c.from_residual-in_err-set-in-Closed.ensures.1 in
    let deeper : c.args.levels ≡ suc (c.args.levels - 1) = omega arith in
    let set = set_with (item_reader (c.args.levels - 1)) in
    let is = rw c.in-Closed.is at (c.in_ok-reach_of.ensures.exact set c.args.syntax c.args.at.rest.now) in
    let place : at_view c.within.result ≡ record { left = Some c.in-Closed.n; bytes = c.args.at.rest.now } =
    search rules in
    rw (p.1, p.2) (fails_along c.in_err-set-in-Closed.field-0.0 _ _
    (subst (λ (a : At). FailsAs is_memory c.in_err-set-in-Closed.field-0.0 (set c.args.syntax Defined a)) place
    c.in_err-set-in-Closed.ensures.exact) (λ e failed.
    deeper_is c.args.levels (c.args.levels - 1) c.args.n c.args.syntax (at_view c.args.at) deeper ∙ is
    ∙ within_fails c.in-Closed.n (at_view c.args.at) (set c.args.syntax Defined) _ e failed))

pub part-returns-in_err-set-in-Closed-clause-memory : goal.part-returns-in_err-set-in-Closed-clause-memory
part-returns-in_err-set-in-Closed-clause-memory t c = λ memory.
    let p = err_from_is_err_and c.from_residual-in_err-set-in-Closed.result
    c.from_residual-in_err-set-in-Closed.ensures.1 in
    let refused : c.in_err-set-in-Closed.field-0.0 ≡ Memory = fault_is _ _ _ p.1 p.2 memory in
    let deeper : c.args.levels ≡ suc (c.args.levels - 1) = omega arith in
    let set = unkept_set (unkept_item (c.args.levels - 1)) in
    let is = rw c.in-Closed.is at (c.in_ok-reach_of.ensures.exact set c.args.syntax c.args.at.rest.now) in
    let place : at_view c.within.result ≡ record { left = Some c.in-Closed.n; bytes = c.args.at.rest.now } =
    search rules in
    deeper_unkept c.args.levels (c.args.levels - 1) c.args.n c.args.syntax (at_view c.args.at) deeper ∙ is
    ∙ within_fails c.in-Closed.n (at_view c.args.at) (set c.args.syntax Defined) _ Memory
    (subst (λ (a : At). set c.args.syntax Defined a ≡ Err Memory) place
    (c.in_err-set-in-Closed.ensures.memory (ap (λ e. Err e) refused)))

pub part-returns-in_ok-set-in-Closed-clause-exact : goal.part-returns-in_ok-set-in-Closed-clause-exact
part-returns-in_ok-set-in-Closed-clause-exact t c =
    let s = c.in_ok-set-in-Closed.set in
    let seen : item_view (roll-Item (record { length = Defined; set = s })) ≡ record
    { length = Defined; set = set_view s } = search (rules, the_lemmas) in
    let deeper : c.args.levels ≡ suc (c.args.levels - 1) = omega arith in
    let set = set_with (item_reader (c.args.levels - 1)) in
    let is = rw c.in-Closed.is at (c.in_ok-reach_of.ensures.exact set c.args.syntax c.args.at.rest.now) in
    let place : at_view c.within.result ≡ record { left = Some c.in-Closed.n; bytes = c.args.at.rest.now } =
    search rules in
    let after : at_view c.after.result ≡ record {
      left = left_after c.args.at.left c.in-Closed.n;
      bytes =
          c.in_ok-set-in-Closed.end.rest.now;
    } = search rules in
    rw (seen, after) (deeper_is c.args.levels (c.args.levels - 1) c.args.n c.args.syntax (at_view c.args.at) deeper
    ∙ is
    ∙ within_found c.in-Closed.n (at_view c.args.at) (set c.args.syntax Defined) _ (set_view s)
    (at_view c.in_ok-set-in-Closed.end)
    (ap (λ (a : At). set c.args.syntax Defined a) (sym place) ∙ c.in_ok-set-in-Closed.ensures.exact))
