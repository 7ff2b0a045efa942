-- A header and its value are an element, and the loop reads one after the other, which it keeps or skips.
use Rattle.std.proofs.Common.{rules, ◌≡◌, List, [], ◌∷◌, ◌++◌, ℕ, Ok, Err, None, Some, Result, ap, sym, map, refl}
use Rattle.std.proofs.Common.{arith}
use Rattle.std.proofs.lemmas.List.{map_push}
use Rattle.std.proofs.lemmas.Result.{err_from_is_err_and}
use Rattle.dd_encoding.specs.declared.syntax.Length.TheVariants.{Defined}
use Rattle.dd_grammar.specs.Checks.{header_view}
use Rattle.dd_grammar.specs.AnswersAs.{FailsAs}
use Rattle.dd_grammar.specs.Faults.{is_memory}
use Rattle.dd_grammar.specs.Reading.{◌>>=◌, item_reader, sequence_with, element_at, set_with, read_all}
use Rattle.dd_scan.specs.Scan.{found_hit, found_summary}
use Rattle.dd_scan.specs.declared.found.Found.{Found}
use Rattle.dd_encoding.specs.Elements.{Elements, elements_of}
use Rattle.dd_encoding.specs.Spelling.{max_levels}
use Rattle.dd_grammar.specs.declared.fault.SetFault.{SetFault}
use Rattle.dd_grammar.specs.declared.fault.SetFault.TheVariants.{Memory}
use Rattle.dd_encoding.specs.declared.syntax.Syntax.{Syntax}
use Rattle.dd_stream.proofs.Along.{scans_none, scans_then}
use Rattle.dd_grammar.proofs.ReadingOn.{element_none, front_stops, content_stops}
use Rattle.dd_scan.proofs.Scanned.{ValueStep, value_steps, scan_start, scan_go, scan_past, scan_end, scan_stop}
use Rattle.dd_scan.proofs.Scanned.{ElementThere}
use Rattle.dd_scan.proofs.Scanned.{element_there, scan_wants}
use Rattle.dd_scan.proofs.top_set.take_elements.Goals as goal

-- all of the bytes as one set
abbrev whole : Syntax → List ℕ → Result Elements SetFault
whole syntax all = set_with (item_reader max_levels) syntax Defined (record { left = None; bytes = all })
    >>= λ x. Ok x.0

read_is : (syntax : Syntax) (all : List ℕ) (r : Result Elements SetFault) → whole syntax all ≡ r
    → read_all syntax all ≡ r
unfolding read_all
read_is syntax all r h = h

stop_is : (syntax : Syntax) (all : List ℕ) (e : SetFault) → FailsAs is_memory e (whole syntax all)
    → FailsAs is_memory e (read_all syntax all)
unfolding read_all
stop_is syntax all e h = h

pub elements-init : goal.elements-init
elements-init g c = record {
  same = search rules;
  goes = scans_none _ _ _ _ (g.met.F.Feed.stays _) (λ rest t. rw (c.new.ensures.items, c.requires)
      (scan_start c.args.wanted.now (item_reader max_levels) c.args.syntax rest));
  fewer = omega arith;
}

pub returns-in_default-clause-found : goal.returns-in_default-clause-found
returns-in_default-clause-found g c =
    let part = item_reader max_levels in
    scans_then _ _ g.met.F.Feed.goes g.met.F.Feed.tells_before _ _ _ _ _ _ c.elements.invariant.goes
    c.in_ok-header.ensures.found
    (λ all mid rest few fewer go h.
    let ended = element_none (sequence_with part) c.args.syntax Defined c.elements.low
    (record { left = c.elements.at.left; bytes = mid }) _ (rw c.in_default.is at h) in (
      elements_of go.front,
      read_is c.args.syntax all _ (scan_end c.args.wanted.now part c.args.syntax all c.elements.at.left
          c.elements.scan.first (map found_hit c.elements.scan.found.items) mid c.elements.low _ go ended),
      record { first = go.first_is; found = go.hits_are },
    ))

pub returns-in_err-header-clause-found : goal.returns-in_err-header-clause-found
returns-in_err-header-clause-found g c =
    let p = err_from_is_err_and c.from_residual.result c.from_residual.ensures.1 in
    let part = item_reader max_levels in
    rw (p.1, p.2) (scans_then _ _ g.met.F.Feed.goes g.met.F.Feed.tells_before _ _ _ _ _ _ c.elements.invariant.goes
    c.in_err-header.ensures.found
    (λ all mid rest few fewer go h. (
      stop_is c.args.syntax all c.in_err-header.field-0.0 (scan_stop c.args.wanted.now part c.args.syntax all
          c.elements.at.left c.elements.scan.first (map found_hit c.elements.scan.found.items) mid c.elements.low
          c.in_err-header.field-0.0 go (front_stops (sequence_with part) c.args.syntax Defined c.elements.low
          (record { left = c.elements.at.left; bytes = mid }) c.in_err-header.field-0.0 h)),
      λ is. absurd (c.in_err-header.ensures.memory (ap (λ f. Err f) is)),
    )))

-- ---- an element that is skipped

pub elements-preserved : goal.elements-preserved
elements-preserved g c =
    let part = item_reader max_levels in
    let header = header_view c.in-Some.header in
    let one = scans_then _ _ g.met.F.Feed.goes g.met.F.Feed.tells_before _ _ _ _ _
    (λ all rest. ValueStep (sequence_with part) c.args.syntax c.elements.low c.elements.at.left header None
    c.is_wanted.result all c.skip_content.new.at.left rest)
    c.in_ok-header.ensures.found c.in_ok-skip_content.ensures.found
    (λ all mid rest few fewer h k. value_steps (sequence_with part) c.args.syntax c.elements.low c.elements.at.left
    header
    None c.is_wanted.result all c.front.new.self.left c.skip_content.new.at.left mid rest k.0 (rw c.in-Some.is at h)
    (rw c.if-is_wanted.false refl) k.1 few) in
    record {
      same = search rules;
      goes = scans_then _ _ g.met.F.Feed.goes g.met.F.Feed.tells_before _ _ _ _ _ _ c.elements.invariant.goes one
          (λ all mid rest few fewer go h.
          let step = rw c.is_wanted.ensures at h in
          let next = scan_past c.args.wanted.now part c.args.syntax all c.elements.at.left c.elements.scan.first
          (map found_hit c.elements.scan.found.items) mid c.elements.low header c.skip_content.new.at.left rest go step
          in
          rw (c.low_after-low.ensures, c.unwrap_or.ensures) next);
      fewer = omega arith;
    }

pub returns-in_err-skip_content-clause-found : goal.returns-in_err-skip_content-clause-found
returns-in_err-skip_content-clause-found g c =
    let p = err_from_is_err_and c.from_residual-in_err-skip_content.result c.from_residual-in_err-skip_content.ensures.1
    in
    let part = item_reader max_levels in
    let header = header_view c.in-Some.header in
    let e = c.in_err-skip_content.field-0.0 in
    let one = scans_then _ _ g.met.F.Feed.goes g.met.F.Feed.tells_before _ _ _ _ _
    (λ all rest. FailsAs is_memory e (element_at (sequence_with part) c.args.syntax Defined c.elements.low
    (record { left = c.elements.at.left; bytes = all })))
    c.in_ok-header.ensures.found c.in_err-skip_content.ensures.found
    (λ all mid rest few fewer h k. content_stops (sequence_with part) c.args.syntax Defined c.elements.low
    (record { left = c.elements.at.left; bytes = all }) header _ e (rw c.in-Some.is at h) k) in
    rw (p.1, p.2) (scans_then _ _ g.met.F.Feed.goes g.met.F.Feed.tells_before _ _ _ _ _ _ c.elements.invariant.goes one
    (λ all mid rest few fewer go h. (
      stop_is c.args.syntax all e (scan_stop c.args.wanted.now part c.args.syntax all c.elements.at.left
          c.elements.scan.first (map found_hit c.elements.scan.found.items) mid c.elements.low e go h),
      λ is. absurd (c.in_err-skip_content.ensures.memory (ap (λ f. Err f) is)),
    )))

-- ---- an element that is kept

pub elements-preserved-in-Continue-branch-4 : goal.elements-preserved-in-Continue-branch-4
elements-preserved-in-Continue-branch-4 g c =
    let part = item_reader max_levels in
    let header = header_view c.in-Some.header in
    let kept : Found = record { tag = c.in-Some.header.tag; value = c.in_ok-value.value } in
    let summary = Some (found_summary c.in_ok-value.value) in
    let one = scans_then _ _ g.met.F.Feed.goes g.met.F.Feed.tells_before _ _ _ _ _
    (λ all rest. ValueStep (sequence_with part) c.args.syntax c.elements.low c.elements.at.left header summary
    c.is_wanted.result all c.take_wanted.new.at.left rest)
    c.in_ok-header.ensures.found c.in_ok-value.ensures.found
    (λ all mid rest few fewer h k. value_steps (sequence_with part) c.args.syntax c.elements.low c.elements.at.left
    header
    summary c.is_wanted.result all c.front.new.self.left c.take_wanted.new.at.left mid rest k.0 (rw c.in-Some.is at h)
    (rw (c.if-is_wanted.true, k.1) refl) k.2 few) in
    let pushed : map found_hit c.push.new.self.items ≡ map found_hit c.elements.scan.found.items
    ++ found_hit kept ∷ [] = rw c.in_ok-push.ensures.items (map_push _ c.elements.scan.found.items kept) in
    record {
      same = search rules;
      goes = scans_then _ _ g.met.F.Feed.goes g.met.F.Feed.tells_before _ _ _ _ _ _ c.elements.invariant.goes one
          (λ all mid rest few fewer go h.
          let step = rw c.is_wanted.ensures at h in
          let next = scan_go c.args.wanted.now part c.args.syntax all c.elements.at.left c.elements.scan.first
          (map found_hit c.elements.scan.found.items) mid c.elements.low header summary c.take_wanted.new.at.left rest
          go
          step in
          rw (c.low_after-low.ensures, c.unwrap_or.ensures, pushed) next);
      fewer = omega arith;
    }

pub returns-in_err-value-clause-found : goal.returns-in_err-value-clause-found
returns-in_err-value-clause-found g c =
    let p = err_from_is_err_and c.from_residual-in_err-value.result c.from_residual-in_err-value.ensures.1 in
    let part = item_reader max_levels in
    let header = header_view c.in-Some.header in
    let e = c.in_err-value.field-0.0 in
    let one = scans_then _ _ g.met.F.Feed.goes g.met.F.Feed.tells_before _ _ _ _ _
    (λ all rest. FailsAs is_memory e (element_at (sequence_with part) c.args.syntax Defined c.elements.low
    (record { left = c.elements.at.left; bytes = all })) × (e ≡ Memory → ElementThere (sequence_with part) c.args.syntax
    c.elements.low c.elements.at.left header.tag all rest))
    c.in_ok-header.ensures.found c.in_err-value.ensures.found
    (λ all mid rest few fewer h k. (
      content_stops (sequence_with part) c.args.syntax Defined c.elements.low
          (record { left = c.elements.at.left; bytes = all }) header _ e (rw c.in-Some.is at h) k.0,
      λ is. element_there (sequence_with part) c.args.syntax c.elements.low c.elements.at.left header all _ _ mid rest
          (rw c.in-Some.is at h) (k.1 is),
    )) in
    rw (p.1, p.2) (scans_then _ _ g.met.F.Feed.goes g.met.F.Feed.tells_before _ _ _ _ _ _ c.elements.invariant.goes one
    (λ all mid rest few fewer go h. (
      stop_is c.args.syntax all e (scan_stop c.args.wanted.now part c.args.syntax all c.elements.at.left
          c.elements.scan.first (map found_hit c.elements.scan.found.items) mid c.elements.low e go h.0),
      λ is. scan_wants c.args.wanted.now part c.args.syntax all c.elements.at.left c.elements.scan.first
          (map found_hit c.elements.scan.found.items) mid c.elements.low header.tag rest go (h.1 is)
          (rw (sym c.is_wanted.ensures, c.if-is_wanted.true) refl),
    )))

pub returns-in_err-push-clause-found : goal.returns-in_err-push-clause-found
returns-in_err-push-clause-found g c =
    let p = err_from_is_err_and c.from_residual-in_err-push.result c.from_residual-in_err-push.ensures.1 in
    let part = item_reader max_levels in
    let header = header_view c.in-Some.header in
    let one = scans_then _ _ g.met.F.Feed.goes g.met.F.Feed.tells_before _ _ _ _ _
    (λ all rest. ElementThere (sequence_with part) c.args.syntax c.elements.low c.elements.at.left header.tag all rest)
    c.in_ok-header.ensures.found c.in_ok-value.ensures.found
    (λ all mid rest few fewer h k. element_there (sequence_with part) c.args.syntax c.elements.low c.elements.at.left
    header all _ _ mid rest (rw c.in-Some.is at h) (k.0, k.2)) in
    rw (p.1, p.2) (scans_then _ _ g.met.F.Feed.goes g.met.F.Feed.tells_before _ _ _ _ _ _ c.elements.invariant.goes one
    (λ all mid rest few fewer go h. (
      tt,
      λ is. scan_wants c.args.wanted.now part c.args.syntax all c.elements.at.left c.elements.scan.first
          (map found_hit c.elements.scan.found.items) mid c.elements.low header.tag rest go h
          (rw (sym c.is_wanted.ensures, c.if-is_wanted.true) refl),
    )))
