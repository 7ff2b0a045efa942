use Rattle.std.proofs.Common.{◌≤◌}
use Rattle.std.proofs.lemmas.List.Filters.{FiltersInPlace}
use Rattle.dd_elem.specs.Ordered.{bytes_cmp}
use Rattle.dd_catalogue.specs.Free.{is_free}
use Rattle.dd_catalogue.proofs.sifting.sift_references.Given as goal

abbrev pub invariant-loop-index : goal.invariant-loop-index
invariant-loop-index g l = record {
  filters : FiltersInPlace (λ value. is_free bytes_cmp l.keys (g.T.Keyed.key_of value.now)) l.initial.references.items
      l.references.items l.kept l.index;
  behind : l.kept ≤ l.index;
}
