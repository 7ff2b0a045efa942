-- Versions as carriers of the keys of a patient, a study or a series: by these keys, and then whole.
use Rattle.std.specs.Prelude.{ℕ, List, unwrap_or}
use Rattle.std.specs.Cmp.{IsTotalOrder}
use Rattle.std.specs.Ordering.{on, then_cmp}
use Rattle.std.specs.declared.cmp.Ordering.{Ordering}
use Rattle.std.proofs.lemmas.Cmp.{then_total, on_total}
use Rattle.dd_elem.specs.Ordered.{TellsApart, bytes_cmp}
use Rattle.dd_version.specs.Orders.{both_tie, parts_cmp, parts_total, parts_apart}
use Rattle.dd_version.specs.declared.parts.Parts.{Parts}
use Rattle.dd_catalogue.specs.Best.{at}

abbrev pub carrier_cmp : {T : Type 0} → (Parts → T) → (T → T → Ordering) → Parts → Parts → Ordering
carrier_cmp tuple order = then_cmp (on tuple order) parts_cmp

pub carrier_total : {T : Type 0} (tuple : Parts → T) {order : T → T → Ordering} → IsTotalOrder order
    → IsTotalOrder (carrier_cmp tuple order)
carrier_total tuple total = then_total (on_total tuple total) parts_total

pub carrier_apart : {T : Type 0} (tuple : Parts → T) (order : T → T → Ordering) → TellsApart (carrier_cmp tuple order)
carrier_apart tuple order x y tie = parts_apart x y (both_tie (order (tuple x) (tuple y)) (parts_cmp x y) tie).second

-- the version that a table has with the key of this one, or else this one
abbrev pub version_like : (Parts → List ℕ) → List Parts → Parts → Parts
version_like key table v = unwrap_or (at key bytes_cmp table (key v)) v
