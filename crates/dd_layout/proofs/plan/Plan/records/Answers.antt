use Rattle.std.specs.Prelude.{All}
use Rattle.std.proofs.Common.{sym, ◌∙◌, subst}
use Rattle.dd_layout.specs.Layouts.{StandsWithin}
use Rattle.dd_layout.specs.Plans.{size}
use Rattle.dd_layout.proofs.OffsetsWithin.{records_within}
use Rattle.dd_layout.proofs.plan.Plan.records.Goals as goal

pub returns-clause-within : goal.returns-clause-within
returns-clause-within c =
    let label = c.self.inside.label in
    let versions = c.self.inside.catalogue.versions in
    let withdrawn = c.self.inside.catalogue.withdrawn in
    rw (← c.self.view_is) (subst (λ rows. All (StandsWithin (size label versions withdrawn)) rows)
    (sym (c.deref.ensures.value ∙ c.self.invariant.records)) (records_within label versions withdrawn))
