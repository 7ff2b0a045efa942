use Rattle.std.proofs.Common.{rules, ◌≡◌, sym, ◌∙◌, arith, length, map}
use Rattle.std.proofs.lemmas.Bool.{eqb-true}
use Rattle.std.proofs.lemmas.List.Filters.{FiltersInPlace-all, FiltersInPlace-more_no, FiltersInPlace-more_swap}
use Rattle.dd_elem.specs.Ordered.{bytes_cmp}
use Rattle.dd_catalogue.specs.Free.{is_free}
use Rattle.dd_catalogue.specs.Table.{met_by}
use Rattle.dd_catalogue.proofs.Sifted.{below_passed, counted_all, counted_more, met_at_most, passed_within}
use Rattle.dd_catalogue.proofs.TakenOut.{below_this, free_err, free_of_none}
use Rattle.dd_catalogue.proofs.Woven.{compared_at_end}
use Rattle.dd_catalogue.proofs.sifting.sift.Goals.{then-is_err, else-is_err}
use Rattle.dd_catalogue.proofs.sifting.sift.Goals as goal

pub returns-then-is_empty-clause-items : goal.returns-then-is_empty-clause-items
returns-then-is_empty-clause-items g c =
    sym (free_of_none g.T.Keyed.key_of c.args.keys.now c.args.held.now.items
    (eqb-true (length c.args.keys.now) 0 (sym c.is_empty.ensures ∙ c.if-is_empty.true)))

pub returns-then-is_empty-clause-count : goal.returns-then-is_empty-clause-count
returns-then-is_empty-clause-count g c =
    let none = compared_at_end (λ u. u) bytes_cmp bytes_cmp (map g.T.Keyed.key_of c.args.held.now.items) c.args.keys.now
    (eqb-true (length c.args.keys.now) 0 (sym c.is_empty.ensures ∙ c.if-is_empty.true)) in
    omega (arith, none)

pub seek-found-requires-clause-smaller : goal.seek-found-requires-clause-smaller
seek-found-requires-clause-smaller g c =
    rw c.key.ensures (below_this g.T.Keyed.key_of c.args.keys.now c.loop-index.passed c.args.held.now.items
    c.loop-index.index c.index.result.now (omega arith)
    (c.index.ensures ∙ c.loop-index.invariant.rest c.loop-index.index c.index.result.now (omega arith))
    c.loop-index.invariant.smaller)

pub count_passed-passed-requires : goal.count_passed-passed-requires
count_passed-passed-requires g c =
    let within = passed_within c.key.result.now c.args.keys.now c.seek-found.result c.seek-found.ensures.index in
    omega (arith, within)

pub loop-index-preserved : goal.loop-index-preserved
loop-index-preserved g c =
    let read = c.index.ensures ∙ c.loop-index.invariant.rest c.loop-index.index c.index.result.now (omega arith) in
    let test : c.is_err.result ≡ is_free bytes_cmp c.args.keys.now (g.T.Keyed.key_of c.index.result.now) =
    c.is_err.ensures.value ∙ free_err c.args.keys.now c.key.result.now (g.T.Keyed.key_of c.index.result.now)
    c.seek-found.result c.requires.keys c.seek-found.ensures.index c.key.ensures in
    let found = rw c.key.ensures at c.seek-found.ensures.index in
    let low = rw c.key.ensures at c.seek-found.ensures.smaller in
    let one = met_at_most (length c.args.keys.now) c.seek-found.result in
    let met : c.count_met.result ≡ met_by (length c.args.keys.now) c.seek-found.result = search rules in
    let more = counted_more g.T.Keyed.key_of c.args.held.now.items c.loop-index.index c.index.result.now
    c.args.keys.now c.loop-index.passed c.loop-index.met _ c.seek-found.result c.requires.held c.requires.keys
    (omega arith) read c.loop-index.invariant.passed
    (below_this g.T.Keyed.key_of c.args.keys.now c.loop-index.passed c.args.held.now.items c.loop-index.index
    c.index.result.now (omega arith) read c.loop-index.invariant.smaller)
    found low c.loop-index.invariant.count in
    record {
      filters = elim c.if-is_err.branch [
        | then-is_err w ↦ rw (w.held-is, w.kept-is) (FiltersInPlace-more_swap c.loop-index.invariant.filters
            (omega arith) (sym test ∙ w.if-is_err.true) c.index.ensures w.swap.ensures.by_index)
        | else-is_err w ↦ rw (w.held-is, w.kept-is) (FiltersInPlace-more_no c.loop-index.invariant.filters
            (omega arith) (sym test ∙ w.if-is_err.false) c.index.ensures)
      ];
      behind = elim c.if-is_err.branch [
        | then-is_err w ↦ rw w.kept-is (omega arith)
        | else-is_err w ↦ rw w.kept-is (omega arith)
      ];
      rest = elim c.if-is_err.branch [
        | then-is_err w ↦ rw w.held-is (λ j d le. w.swap.ensures.by_index.2 j d (omega arith) (omega arith)
            ∙ c.loop-index.invariant.rest j d (omega arith))
        | else-is_err w ↦ rw w.held-is (λ j d le. c.loop-index.invariant.rest j d (omega arith))
      ];
      passed = rw c.count_passed-passed.ensures
          (passed_within c.key.result.now c.args.keys.now c.seek-found.result c.seek-found.ensures.index);
      smaller = rw c.count_passed-passed.ensures (below_passed g.T.Keyed.key_of c.args.keys.now c.seek-found.result
          c.args.held.now.items c.loop-index.index c.index.result.now c.requires.held (omega arith) read found low);
      met = omega (arith, c.saturating_add-met.ensures, met, one);
      count = rw c.count_passed-passed.ensures (omega (arith, c.saturating_add-met.ensures, met, one, more));
    }

pub returns-clause-items : goal.returns-clause-items
returns-clause-items g c =
    c.truncate.ensures.items ∙ FiltersInPlace-all c.loop-index.invariant.filters (omega arith)

pub returns-clause-count : goal.returns-clause-count
returns-clause-count g c =
    let none = counted_all g.T.Keyed.key_of c.args.held.now.items c.loop-index.index c.args.keys.now c.loop-index.passed
    c.requires.keys (omega arith) in
    omega (arith, c.saturating_add.ensures, c.loop-index.invariant.count, none)
