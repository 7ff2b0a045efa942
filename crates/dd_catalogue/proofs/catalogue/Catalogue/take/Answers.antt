use Rattle.std.proofs.Common.{◌≡◌, false, refl, sym, ◌∙◌, ap, subst}
use Rattle.dd_catalogue.specs.CatalogueJoin.{same_contents}
use Rattle.dd_catalogue.specs.Contents.{Contents, and_version, held_of, is_withdrawn}
use Rattle.dd_catalogue.specs.Versions.{kept}
use Rattle.dd_catalogue.proofs.Held.{held_as, held_with, held_without}
use Rattle.dd_catalogue.proofs.Retold.{retold, took_where_free}
use Rattle.dd_catalogue.proofs.catalogue.Catalogue.take.Goals as goal

pub returns-then-has_withdrawn-clause-ok : goal.returns-then-has_withdrawn-clause-ok
returns-then-has_withdrawn-clause-ok c =
    held_without c.args.self.now c.args.version c.has_withdrawn.ensures.held
    (ap (λ v. is_withdrawn c.args.self.now.withdrawn v.instance) (sym c.parts.ensures.value)
    ∙ sym c.has_withdrawn.ensures.withdrawn ∙ c.if-has_withdrawn.true)

pub invariant_of-self-2 : goal.invariant_of-self-2
invariant_of-self-2 c =
    let there : is_withdrawn c.args.self.now.withdrawn c.args.version.instance ≡ false =
    ap (λ v. is_withdrawn c.args.self.now.withdrawn v.instance) (sym c.parts.ensures.value)
    ∙ sym c.has_withdrawn.ensures.withdrawn ∙ c.if-has_withdrawn.false in
    let old : Contents = record { versions = c.self.inside.table; withdrawn = c.self.inside.withdrawn } in
    rw c.in-Ok.ensures.ok (held_as _ (and_version c.args.version old) (held_with old c.args.version c.self.invariant
    (subst (λ (x : Contents). is_withdrawn x.withdrawn c.args.version.instance ≡ false) (sym c.self.view_is) there)))

pub returns-clause-ok : goal.returns-clause-ok
returns-clause-ok c =
    let old : Contents = record { versions = c.self.inside.table; withdrawn = c.self.inside.withdrawn } in
    let there : is_withdrawn c.args.self.now.withdrawn c.args.version.instance ≡ false =
    ap (λ v. is_withdrawn c.args.self.now.withdrawn v.instance) (sym c.parts.ensures.value)
    ∙ sym c.has_withdrawn.ensures.withdrawn ∙ c.if-has_withdrawn.false in
    let there' : is_withdrawn c.self.inside.withdrawn c.args.version.instance ≡ false =
    subst (λ (x : Contents). is_withdrawn x.withdrawn c.args.version.instance ≡ false) (sym c.self.view_is) there in
    same_contents _ _ c.in-Ok.ensures.ok refl
    ∙ held_with old c.args.version c.self.invariant there'
    ∙ ap (λ x. held_of (and_version c.args.version x)) c.self.view_is

pub returns-clause-took : goal.returns-clause-took
returns-clause-took c =
    let old : Contents = record { versions = c.self.inside.table; withdrawn = c.self.inside.withdrawn } in
    let there : is_withdrawn c.args.self.now.withdrawn c.args.version.instance ≡ false =
    ap (λ v. is_withdrawn c.args.self.now.withdrawn v.instance) (sym c.parts.ensures.value)
    ∙ sym c.has_withdrawn.ensures.withdrawn ∙ c.if-has_withdrawn.false in
    let there' : is_withdrawn c.self.inside.withdrawn c.args.version.instance ≡ false =
    subst (λ (x : Contents). is_withdrawn x.withdrawn c.args.version.instance ≡ false) (sym c.self.view_is) there in
    rw (← c.self.view_is) (took_where_free old c.args.version c.to_took.result there' (c.to_took.ensures
    ∙ retold c.args.version (kept c.self.inside.table c.args.version.instance) c.in-Ok.taken c.in-Ok.ensures.took))
