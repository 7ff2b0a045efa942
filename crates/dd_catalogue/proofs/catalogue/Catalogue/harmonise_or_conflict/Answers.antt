use Rattle.std.proofs.Common.{◌≡◌, ap}
use Rattle.dd_catalogue.specs.Contents.{Contents}
use Rattle.dd_catalogue.specs.Harmony.{harmonised}
use Rattle.dd_catalogue.proofs.Held.{harmonised_held}
use Rattle.dd_catalogue.proofs.catalogue.Catalogue.harmonise_or_conflict.Goals as goal

pub invariant_of-result : goal.invariant_of-result
invariant_of-result c =
    let table : c.in-Ok.table ≡ harmonised c.versions.result.now = rw c.in-Ok.is at c.in_ok-table.ensures.table in
    rw (
      table,
      c.versions.ensures.all,
      c.in_ok-copy-in-Ok.ensures.equal,
      ap (λ (x : Contents). x.withdrawn) c.self.view_is,
    )
    (harmonised_held c.args.self.now c.versions.ensures.held)
