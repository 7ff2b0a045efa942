-- Catalogues that compare equal.
use Rattle.std.specs.Prelude.{ℕ, List, Bool, ◌&&◌}
use Rattle.std.specs.Cmp.{IsPartialEquivalence, and_per, on_per, partial_equiv_from_equiv}
use Rattle.std.specs.Cmp.Lexicographic.{pointwise, lists_per}
use Rattle.std.specs.Ordering.{eq_by_cmp}
use Rattle.std.proofs.lemmas.Cmp.{eq_by_cmp_equiv, nat_list_cmp_total}
use Rattle.dd_elem.specs.Ordered.{bytes_cmp}
use Rattle.dd_version.specs.Orders.{parts_cmp, parts_total}
use Rattle.dd_version.specs.declared.parts.Parts.{Parts}
use Rattle.dd_catalogue.specs.Contents.{Contents}

-- as many versions, and each equal to the other one at its place
abbrev pub is_same : List Parts → List Parts → Bool
is_same m n = pointwise (eq_by_cmp parts_cmp) m n

-- the same of the UIDs that are withdrawn
abbrev pub are_same_uids : List (List ℕ) → List (List ℕ) → Bool
are_same_uids w u = pointwise (eq_by_cmp bytes_cmp) w u

-- the same versions and the same withdrawn UIDs
abbrev pub holds_same : Contents → Contents → Bool
holds_same c d = is_same c.versions d.versions && are_same_uids c.withdrawn d.withdrawn

pub holds_same_per : IsPartialEquivalence holds_same
holds_same_per =
    and_per (on_per (λ c. c.versions) (lists_per (partial_equiv_from_equiv (eq_by_cmp_equiv parts_total))))
    (on_per (λ c. c.withdrawn) (lists_per (partial_equiv_from_equiv (eq_by_cmp_equiv nat_list_cmp_total))))
