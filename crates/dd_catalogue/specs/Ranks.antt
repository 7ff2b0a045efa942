-- Values by their keys, and those with one key from the greatest on.
use Rattle.std.specs.Prelude.{ℕ, List}
use Rattle.std.specs.Cmp.{IsTotalOrder}
use Rattle.std.specs.Ordering.{flip_args, on, then_cmp}
use Rattle.std.specs.declared.cmp.Ordering.{Ordering}
use Rattle.std.proofs.lemmas.Cmp.{back_total, nat_list_cmp_total, on_total, then_total}
use Rattle.dd_elem.specs.Ordered.{bytes_cmp}

abbrev pub rank_cmp : {V : Type 0} → (V → List ℕ) → (V → V → Ordering) → V → V → Ordering
rank_cmp key values = then_cmp (on key bytes_cmp) (flip_args values)

pub rank_total : {V : Type 0} (key : V → List ℕ) {values : V → V → Ordering} → IsTotalOrder values
    → IsTotalOrder (rank_cmp key values)
rank_total key total = then_total (on_total key nat_list_cmp_total) (back_total total)
