use Rattle.std.proofs.Common.{◌≡◌, ◌≤◌, ◌+◌, ℕ, length, drop, get_or, map}
use Rattle.std.proofs.lemmas.List.Filters.{FiltersInPlace}
use Rattle.dd_elem.specs.Ordered.{bytes_cmp}
use Rattle.dd_catalogue.specs.Compared.{compared_keys}
use Rattle.dd_catalogue.specs.Free.{is_free}
use Rattle.dd_catalogue.proofs.TakenOut.{AreBelow}
use Rattle.dd_catalogue.proofs.sifting.sift.Given as goal

abbrev pub invariant-loop-index : goal.invariant-loop-index
invariant-loop-index g l = record {
  filters : FiltersInPlace (λ v. is_free bytes_cmp l.keys (g.T.Keyed.key_of v)) l.initial.held.items l.held.items
      l.kept l.index;
  behind : l.kept ≤ l.index;
  rest : (j : ℕ) (d : g.row.T.Denot) → l.index ≤ j → get_or l.held.items j d ≡ get_or l.initial.held.items j d;
  passed : l.passed ≤ length l.keys;
  smaller : AreBelow g.T.Keyed.key_of l.keys l.passed (drop l.index l.initial.held.items);
  met : l.met ≤ l.index;
  count : l.passed + l.met
      + compared_keys bytes_cmp (map g.T.Keyed.key_of (drop l.index l.initial.held.items)) (drop l.passed l.keys)
      ≡ compared_keys bytes_cmp (map g.T.Keyed.key_of l.initial.held.items) l.keys;
}
