use Rattle.std.proofs.Common.{sym, ◌∙◌, ap, subst}
use Rattle.dd_catalogue.specs.Contents.{Contents}
use Rattle.dd_catalogue.proofs.Harmonised.{harmonised_is_harmonised}
use Rattle.dd_catalogue.proofs.Held.{harmonised_held}
use Rattle.dd_catalogue.specs.Harmony.{IsHarmonised, harmonised}
use Rattle.dd_catalogue.proofs.catalogue.Catalogue.harmonise.Goals as goal

pub invariant_of-result : goal.invariant_of-result
invariant_of-result c =
    rw (
      c.in_ok-table.ensures.table,
      c.versions.ensures.all,
      c.in_ok-withdrawn.ensures.equal,
      ap (λ (x : Contents). x.withdrawn) c.self.view_is,
    )
    (harmonised_held c.args.self.now c.versions.ensures.held)

pub returns-clause-agreed : goal.returns-clause-agreed
returns-clause-agreed c =
    let m = c.args.self.now.versions in
    subst (λ n. IsHarmonised m n) (sym (c.in_ok-table.ensures.table ∙ ap harmonised c.versions.ensures.all))
    (harmonised_is_harmonised m c.versions.ensures.rising)
