use Rattle.std.proofs.Common.{◌≡◌, [], ◌∷◌, sym, ◌∙◌, ap}
use Rattle.dd_catalogue.specs.CatalogueJoin.{same_contents}
use Rattle.dd_catalogue.specs.Contents.{Contents, and_withdrawn, left_of}
use Rattle.dd_catalogue.proofs.Held.{held_as, held_already, held_less}
use Rattle.dd_catalogue.proofs.catalogue.Catalogue.withdraw.Goals as goal

pub returns-then-has_withdrawn-clause-ok : goal.returns-then-has_withdrawn-clause-ok
returns-then-has_withdrawn-clause-ok c =
    held_already c.args.self.now c.args.instance c.has_withdrawn.ensures.held
    (sym c.has_withdrawn.ensures.withdrawn ∙ c.if-has_withdrawn.true)

pub invariant_of-self-2 : goal.invariant_of-self-2
invariant_of-self-2 c =
    let old : Contents = record { versions = c.self.inside.table; withdrawn = c.self.inside.withdrawn } in
    let gone : c.remove.new.self ≡ left_of c.self.inside.table (c.args.instance ∷ []) = c.remove.ensures.after
    ∙ ap (λ k. left_of c.self.inside.table (k ∷ [])) c.as_bytes.ensures.value in
    rw (gone, c.in_ok-add.ensures.ok)
    (held_as _ (and_withdrawn c.args.instance old) (held_less old c.args.instance c.self.invariant))

pub returns-clause-ok : goal.returns-clause-ok
returns-clause-ok c =
    let old : Contents = record { versions = c.self.inside.table; withdrawn = c.self.inside.withdrawn } in
    let gone : c.remove.new.self ≡ left_of c.self.inside.table (c.args.instance ∷ []) = c.remove.ensures.after
    ∙ ap (λ k. left_of c.self.inside.table (k ∷ [])) c.as_bytes.ensures.value in
    rw (← c.self.view_is) (same_contents _ _ gone c.in_ok-add.ensures.ok
    ∙ held_less old c.args.instance c.self.invariant)
