use Rattle.std.proofs.Common.{◌≡◌, not, is_some, map, sym, ◌∙◌, ap, arith}
use Rattle.std.proofs.lemmas.List.Filters.{FiltersInPlace-all, FiltersInPlace-more_no, FiltersInPlace-more_swap}
use Rattle.dd_elem.specs.Ordered.{bytes_cmp}
use Rattle.dd_catalogue.specs.Best.{at}
use Rattle.dd_catalogue.specs.Free.{is_free}
use Rattle.dd_catalogue.proofs.References.{map_filter}
use Rattle.dd_catalogue.proofs.TakenOut.{free_there}
use Rattle.dd_catalogue.proofs.sifting.sift_references.Goals.{then-not-has, else-not-has}
use Rattle.dd_catalogue.proofs.sifting.sift_references.Goals as goal

pub loop-index-preserved : goal.loop-index-preserved
loop-index-preserved g c =
    let keys = c.args.keys.now in
    let key = g.T.Keyed.key_of c.index.result.now.now in
    let test : is_free bytes_cmp keys key ≡ not c.has.result = free_there keys key
    ∙ ap not (sym (c.has.ensures ∙ ap (λ k. is_some (at (λ u. u) bytes_cmp keys k)) c.key.ensures)) in
    record {
      filters = elim c.if-not-has.branch [
        | then-not-has w ↦ rw (w.references-is, w.kept-is) (FiltersInPlace-more_swap c.loop-index.invariant.filters
            (omega arith) (test ∙ ap not w.if-not-has.true) c.index.ensures
            w.swap.ensures.by_index)
        | else-not-has w ↦ rw (w.references-is, w.kept-is) (FiltersInPlace-more_no c.loop-index.invariant.filters
            (omega arith) (test ∙ ap not w.if-not-has.false) c.index.ensures)
      ];
      behind = elim c.if-not-has.branch [
        | then-not-has w ↦ rw w.kept-is (omega arith)
        | else-not-has w ↦ rw w.kept-is (omega arith)
      ];
    }

pub returns : goal.returns
returns g c =
    ap (λ m. map (λ value. value.now) m) (c.truncate.ensures.items
    ∙ FiltersInPlace-all c.loop-index.invariant.filters (omega arith))
    ∙ map_filter (λ value. value.now) (λ v. is_free bytes_cmp c.args.keys.now (g.T.Keyed.key_of v))
    c.args.references.now.items
