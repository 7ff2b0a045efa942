use Rattle.std.proofs.Common.{◌≡◌, ◌∙◌, ap, map}
use Rattle.std.proofs.lemmas.Result.{IfOk-weaker}
use Rattle.dd_catalogue.specs.CatalogueJoin.{same_contents}
use Rattle.dd_catalogue.specs.Contents.{held_of, kept_of}
use Rattle.dd_catalogue.proofs.Held.{kept_by_set}
use Rattle.dd_catalogue.proofs.catalogue.Catalogue.of.Goals as goal

pub returns : goal.returns
returns c =
    let s = map (λ version. version.now) c.args.versions.items in
    let w = map (λ uid. uid.now) c.args.withdrawn.items in
    IfOk-weaker c.without.result _ (λ catalogue. catalogue ≡ held_of (record { versions = s; withdrawn = w }))
    (λ catalogue is. is ∙ same_contents _ _ (ap (λ x. kept_of s x) c.in_ok-of.ensures ∙ kept_by_set s w)
    c.in_ok-of.ensures)
    c.without.ensures
