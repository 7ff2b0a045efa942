use Rattle.std.proofs.Common.{◌≡◌, ◌∙◌, sym, subst}
use Rattle.std.proofs.lemmas.Bool.{cond-true}
use Rattle.dd_version.specs.declared.parts.Parts.{Parts}
use Rattle.dd_version.specs.Fitting.{Fits}
use Rattle.dd_keys.proofs.Judging.{summary_fits}
use Rattle.dd_keys.proofs.versions.version_from.Goals as goal

pub unwrap-requires : goal.unwrap-requires
unwrap-requires g c =
    c.of-in-Ok.ensures.accepted.1 (subst (λ (parts : Parts). Fits parts)
    (sym (c.in_ok-parts-in-Ok.ensures ∙ c.in-Ok.ensures.parts c.args.digest))
    (summary_fits c.args.digest c.args.meta.now (g.V.Values.tells c.args.values.now) c.requires.known
    (sym c.if-not-is_image_class.ensures.test)))

pub returns-in_ok-parts-in-Ok : goal.returns-in_ok-parts-in-Ok
returns-in_ok-parts-in-Ok g c =
    let same : c.unwrap.result ≡ c.in_ok-parts-in-Ok.parts = rw c.unwrap.ensures at c.of-in-Ok.ensures.value in (
      cond-true _ _ _ (sym c.if-not-is_image_class.ensures.test) ∙ sym c.in-Ok.ensures.fault,
      same ∙ c.in_ok-parts-in-Ok.ensures ∙ c.in-Ok.ensures.parts c.args.digest,
    )
