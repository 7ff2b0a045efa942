-- The answers of the calls, put together: a header and what stands after it are an element or an item, and the loops
-- read one after the other.
use Rattle.std.proofs.Common.{rules, ◌≡◌, ◌∙◌, ◌-◌, suc, ap, arith}
use Rattle.std.proofs.lemmas.Result.{err_from_is_err_and}
use Rattle.dd_encoding.specs.declared.syntax.Length.TheVariants.{Defined, Undefined}
use Rattle.dd_grammar.specs.Checks.{header_view}
use Rattle.dd_encoding.specs.Elements.{Elements, items}
use Rattle.dd_grammar.specs.AnswersAs.{FailsAs}
use Rattle.dd_grammar.specs.Faults.{is_memory}
use Rattle.dd_grammar.specs.Reading.{At, item_reader, sequence_with, set_with, element_at, item_at, left_after}
use Rattle.dd_stream.proofs.Along.{scans_none, scans_same, scans_then}
use Rattle.dd_grammar.proofs.Failing.{fails_is}
use Rattle.dd_grammar.proofs.Loops.{fails_along}
use Rattle.dd_grammar.proofs.ReadingOn.{within_found, within_fails}
use Rattle.dd_scan.proofs.Skipped.{ElementStep, ItemStep, element_steps, item_steps}
use Rattle.dd_grammar.proofs.ReadingOn.{deeper_is, element_none, front_stops, content_stops, item_none}
use Rattle.dd_scan.proofs.Skipped.{skips_along}
use Rattle.dd_grammar.proofs.ReadingOn.{item_front_stops, part_stops}
use Rattle.dd_scan.proofs.Skipped.{elements_start, elements_go, elements_end, elements_stop, items_start, items_go}
use Rattle.dd_scan.proofs.Skipped.{items_end, items_stop}
use Rattle.dd_scan.proofs.skipping.+skipping.Goals as goal

pub skip_content-returns-in_ok-skip_items-in-Closed-clause-found :
    goal.skip_content-returns-in_ok-skip_items-in-Closed-clause-found
skip_content-returns-in_ok-skip_items-in-Closed-clause-found g t c =
    let sequence = sequence_with (item_reader c.args.levels) in
    let left_is : c.left_after-after.result ≡ left_after c.args.at.now.left c.in-Closed.n = c.left_after-after.ensures
    ∙ ap (left_after c.args.at.now.left) c.from-n.ensures in
    scans_same _ _ _ _ _ _ c.in_ok-skip_items-in-Closed.ensures.found (λ bytes rest few t h.
    let is = rw c.in-Closed.is at (c.in_ok-n.ensures.exact sequence bytes) in
    let read = rw c.from-n.ensures at h.1 in (
      items Defined h.0,
      rw left_is (is ∙ within_found c.in-Closed.n (record { left = c.args.at.now.left; bytes = bytes })
          (sequence c.in-Closed.inner Defined) _ h.0 _ read),
    ))

-- ---- items

pub skip_items-items-init : goal.skip_items-items-init
skip_items-items-init g t c =
    record {
      same = search rules;
      goes = scans_none _ _ _ _ (g.met.F.Feed.stays _) (λ rest k. items_start (item_reader c.args.levels) c.args.syntax
          c.args.form c.args.at.now.left rest);
      fewer = omega arith;
    }

pub skip_items-returns-in_err-n-clause-found : goal.skip_items-returns-in_err-n-clause-found
skip_items-returns-in_err-n-clause-found g t c =
    let p = err_from_is_err_and c.from_residual.result c.from_residual.ensures.1 in
    rw (p.1, p.2) (scans_then _ _ g.met.F.Feed.goes g.met.F.Feed.tells_before _ _ _ _ _ _ c.items.invariant.goes
    c.in_err-n.ensures.found
    (λ bytes mid rest few fewer go h.
    items_stop (item_reader c.args.levels) c.args.syntax c.args.form c.args.at.now.left bytes c.items.at.left mid
    c.in_err-n.field-0.0 go
    (item_front_stops (item_reader c.args.levels) c.args.syntax c.args.form
    (record { left = c.items.at.left; bytes = mid }) c.in_err-n.field-0.0 h)))

pub skip_items-returns-in_default-clause-found : goal.skip_items-returns-in_default-clause-found
skip_items-returns-in_default-clause-found g t c =
    scans_then _ _ g.met.F.Feed.goes g.met.F.Feed.tells_before _ _ _ _ _ _ c.items.invariant.goes
    c.in_ok-n.ensures.found
    (λ bytes mid rest few fewer go h.
    let ended = item_none (item_reader c.args.levels) c.args.syntax c.args.form
    (record { left = c.items.at.left; bytes = mid }) _ (rw c.in_default.is at h) in (
      _,
      items_end (item_reader c.args.levels) c.args.syntax c.args.form c.args.at.now.left bytes c.items.at.left mid _
          go ended,
    ))

pub skip_items-returns-in_err-skip_part-clause-found : goal.skip_items-returns-in_err-skip_part-clause-found
skip_items-returns-in_err-skip_part-clause-found g t c =
    let p = err_from_is_err_and c.from_residual-in_err-skip_part.result c.from_residual-in_err-skip_part.ensures.1 in
    let part = item_reader c.args.levels in
    let e = c.in_err-skip_part.field-0.0 in
    let one = scans_then _ _ g.met.F.Feed.goes g.met.F.Feed.tells_before _ _ _ _ _
    (λ bytes rest. FailsAs is_memory e (item_at part c.args.syntax c.args.form
    (record { left = c.items.at.left; bytes = bytes })))
    c.in_ok-n.ensures.found c.in_err-skip_part.ensures.found
    (λ bytes mid rest few fewer h k. part_stops part c.args.syntax c.args.form
    (record { left = c.items.at.left; bytes = bytes }) c.in-Some.n _ e (rw c.in-Some.is at h) k) in
    rw (p.1, p.2) (scans_then _ _ g.met.F.Feed.goes g.met.F.Feed.tells_before _ _ _ _ _ _ c.items.invariant.goes one
    (λ bytes mid rest few fewer go h. items_stop part c.args.syntax c.args.form c.args.at.now.left bytes c.items.at.left
    mid e go
    h))

pub skip_items-items-preserved : goal.skip_items-items-preserved
skip_items-items-preserved g t c =
    let part = item_reader c.args.levels in
    let one = scans_then _ _ g.met.F.Feed.goes g.met.F.Feed.tells_before _ _ _ _ _
    (λ bytes rest. ItemStep part c.args.syntax c.args.form c.items.at.left bytes c.skip_part.new.at.left rest)
    c.in_ok-n.ensures.found c.in_ok-skip_part.ensures.found
    (λ bytes mid rest few fewer h k. item_steps part c.args.syntax c.args.form c.items.at.left c.in-Some.n bytes
    c.item_front.new.self.left c.skip_part.new.at.left mid rest (rw c.in-Some.is at h) k few) in
    record {
      same = search rules;
      goes = scans_then _ _ g.met.F.Feed.goes g.met.F.Feed.tells_before _ _ _ _ _ _ c.items.invariant.goes one
          (λ bytes mid rest few fewer go h. items_go part c.args.syntax c.args.form c.args.at.now.left bytes
          c.items.at.left mid
          h.item c.skip_part.new.at.left rest go h.read h.shorter);
      fewer = omega arith;
    }

-- ---- an item

pub skip_part-returns-in_err-reach_of-clause-found : goal.skip_part-returns-in_err-reach_of-clause-found
skip_part-returns-in_err-reach_of-clause-found g t c =
    let p = err_from_is_err_and c.from_residual.result c.from_residual.ensures.1 in
    let deeper : c.args.levels ≡ suc (c.args.levels - 1) = omega arith in
    rw (p.1, p.2) (scans_none _ _ _ _ (g.met.F.Feed.stays _) (λ rest k. fails_is c.in_err-reach_of.field-0.0 _
    (deeper_is c.args.levels (c.args.levels - 1) c.args.n c.args.syntax (record {
      left
          = c.args.at.now.left;
      bytes = rest;
    })
    deeper ∙ c.in_err-reach_of.ensures.exact (set_with (item_reader (c.args.levels - 1))) c.args.syntax rest)))

pub skip_part-returns-in_err-skip_set-in-Closed-clause-found :
    goal.skip_part-returns-in_err-skip_set-in-Closed-clause-found
skip_part-returns-in_err-skip_set-in-Closed-clause-found g t c =
    let p = err_from_is_err_and c.from_residual-in_err-skip_set-in-Closed.result
    c.from_residual-in_err-skip_set-in-Closed.ensures.1 in
    let deeper : c.args.levels ≡ suc (c.args.levels - 1) = omega arith in
    let set = set_with (item_reader (c.args.levels - 1)) in
    rw (p.1, p.2) (scans_same _ _ _ _ _ _ c.in_err-skip_set-in-Closed.ensures.found (λ bytes rest k few h.
    let at : At = record { left = c.args.at.now.left; bytes = bytes } in
    let is = rw c.in-Closed.is at (c.in_ok-reach_of.ensures.exact set c.args.syntax bytes) in
    fails_along c.in_err-skip_set-in-Closed.field-0.0 _ _ (rw c.from-n.ensures at h) (λ e failed.
    deeper_is c.args.levels (c.args.levels - 1) c.args.n c.args.syntax at deeper ∙ is
    ∙ within_fails c.in-Closed.n at (set c.args.syntax Defined) _ e failed)))

pub skip_part-returns-in-Open-clause-found : goal.skip_part-returns-in-Open-clause-found
skip_part-returns-in-Open-clause-found g t c =
    let deeper : c.args.levels ≡ suc (c.args.levels - 1) = omega arith in
    let set = set_with (item_reader (c.args.levels - 1)) in
    scans_same _ _ _ _ _ _ c.skip_set.ensures.found (λ bytes rest k few h.
    let at : At = record { left = c.args.at.now.left; bytes = bytes } in
    let is = rw c.in-Open.is at (c.in_ok-reach_of.ensures.exact set c.args.syntax bytes) in
    rw (deeper_is c.args.levels (c.args.levels - 1) c.args.n c.args.syntax at deeper, is)
    (skips_along (λ (s : Elements). record { length = Undefined; set = s }) _ _ _ h))

pub skip_part-returns-in_ok-skip_set-in-Closed-clause-found :
    goal.skip_part-returns-in_ok-skip_set-in-Closed-clause-found
skip_part-returns-in_ok-skip_set-in-Closed-clause-found g t c =
    let deeper : c.args.levels ≡ suc (c.args.levels - 1) = omega arith in
    let set = set_with (item_reader (c.args.levels - 1)) in
    let left_is : c.left_after-after.result ≡ left_after c.args.at.now.left c.in-Closed.n = c.left_after-after.ensures
    ∙ ap (left_after c.args.at.now.left) c.from-n.ensures in
    scans_same _ _ _ _ _ _ c.in_ok-skip_set-in-Closed.ensures.found (λ bytes rest k few h.
    let at : At = record { left = c.args.at.now.left; bytes = bytes } in
    let is = rw c.in-Closed.is at (c.in_ok-reach_of.ensures.exact set c.args.syntax bytes) in
    let read = rw c.from-n.ensures at h.1 in (
      record { length = Defined; set = h.0 },
      rw left_is (deeper_is c.args.levels (c.args.levels - 1) c.args.n
          c.args.syntax at deeper ∙ is ∙ within_found c.in-Closed.n at (set c.args.syntax Defined) _ h.0 _ read),
    ))

-- ---- elements

pub skip_set-elements-init : goal.skip_set-elements-init
skip_set-elements-init g t c =
    record {
      same = search rules;
      goes = scans_none _ _ _ _ (g.met.F.Feed.stays _) (λ rest k. elements_start (item_reader c.args.levels)
          c.args.syntax c.args.form c.args.at.now.left rest);
      fewer = omega arith;
    }

pub skip_set-returns-in_err-header-clause-found : goal.skip_set-returns-in_err-header-clause-found
skip_set-returns-in_err-header-clause-found g t c =
    let p = err_from_is_err_and c.from_residual.result c.from_residual.ensures.1 in
    rw (p.1, p.2) (scans_then _ _ g.met.F.Feed.goes g.met.F.Feed.tells_before _ _ _ _ _ _ c.elements.invariant.goes
    c.in_err-header.ensures.found
    (λ bytes mid rest few fewer go h.
    elements_stop (item_reader c.args.levels) c.args.syntax c.args.form c.args.at.now.left bytes c.elements.at.left mid
    c.elements.low c.in_err-header.field-0.0 go
    (front_stops (sequence_with (item_reader c.args.levels)) c.args.syntax c.args.form c.elements.low
    (record { left = c.elements.at.left; bytes = mid }) c.in_err-header.field-0.0 h)))

pub skip_set-returns-in_default-clause-found : goal.skip_set-returns-in_default-clause-found
skip_set-returns-in_default-clause-found g t c =
    scans_then _ _ g.met.F.Feed.goes g.met.F.Feed.tells_before _ _ _ _ _ _ c.elements.invariant.goes
    c.in_ok-header.ensures.found
    (λ bytes mid rest few fewer go h.
    let ended = element_none (sequence_with (item_reader c.args.levels)) c.args.syntax c.args.form c.elements.low
    (record { left = c.elements.at.left; bytes = mid }) _ (rw c.in_default.is at h) in (
      _,
      elements_end (item_reader c.args.levels) c.args.syntax c.args.form c.args.at.now.left bytes c.elements.at.left mid
          c.elements.low _ go ended,
    ))

pub skip_set-returns-in_err-skip_content-clause-found : goal.skip_set-returns-in_err-skip_content-clause-found
skip_set-returns-in_err-skip_content-clause-found g t c =
    let p = err_from_is_err_and c.from_residual-in_err-skip_content.result c.from_residual-in_err-skip_content.ensures.1
    in
    let sequence = sequence_with (item_reader c.args.levels) in
    let e = c.in_err-skip_content.field-0.0 in
    let one = scans_then _ _ g.met.F.Feed.goes g.met.F.Feed.tells_before _ _ _ _ _
    (λ bytes rest. FailsAs is_memory e (element_at sequence c.args.syntax c.args.form c.elements.low
    (record { left = c.elements.at.left; bytes = bytes })))
    c.in_ok-header.ensures.found c.in_err-skip_content.ensures.found
    (λ bytes mid rest few fewer h k. content_stops sequence c.args.syntax c.args.form c.elements.low
    (record { left = c.elements.at.left; bytes = bytes }) (header_view c.in-Some.header) _ e (rw c.in-Some.is at h) k)
    in
    rw (p.1, p.2) (scans_then _ _ g.met.F.Feed.goes g.met.F.Feed.tells_before _ _ _ _ _ _ c.elements.invariant.goes one
    (λ bytes mid rest few fewer go h. elements_stop (item_reader c.args.levels) c.args.syntax c.args.form
    c.args.at.now.left
    bytes c.elements.at.left mid c.elements.low e go h))

pub skip_set-elements-preserved : goal.skip_set-elements-preserved
skip_set-elements-preserved g t c =
    let part = item_reader c.args.levels in
    let one = scans_then _ _ g.met.F.Feed.goes g.met.F.Feed.tells_before _ _ _ _ _
    (λ bytes rest. ElementStep (sequence_with part) c.args.syntax c.args.form c.elements.low c.elements.at.left
    c.in-Some.header.tag bytes c.skip_content.new.at.left rest)
    c.in_ok-header.ensures.found c.in_ok-skip_content.ensures.found
    (λ bytes mid rest few fewer h k. element_steps (sequence_with part) c.args.syntax c.args.form c.elements.low
    c.elements.at.left (header_view c.in-Some.header) bytes c.front.new.self.left c.skip_content.new.at.left mid rest
    (rw c.in-Some.is at h) k few) in
    record {
      same = search rules;
      goes = scans_then _ _ g.met.F.Feed.goes g.met.F.Feed.tells_before _ _ _ _ _ _ c.elements.invariant.goes one
          (λ bytes mid rest few fewer go h.
          let next = elements_go part c.args.syntax c.args.form c.args.at.now.left bytes c.elements.at.left mid
          c.elements.low
          h.entry c.skip_content.new.at.left rest go h.read h.shorter in
          rw c.low_after-low.ensures (rw h.tagged at next));
      fewer = omega arith;
    }
