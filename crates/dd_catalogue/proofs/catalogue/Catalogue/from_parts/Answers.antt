use Rattle.std.proofs.Common.{◌≡◌, ◌∙◌}
use Rattle.std.proofs.lemmas.Result.{IfOk-weaker}
use Rattle.dd_catalogue.specs.CatalogueJoin.{same_contents}
use Rattle.dd_catalogue.specs.Contents.{held_of}
use Rattle.dd_catalogue.proofs.Held.{kept_by_set}
use Rattle.dd_catalogue.proofs.catalogue.Catalogue.from_parts.Goals as goal

pub returns-clause-held : goal.returns-clause-held
returns-clause-held c =
    let s = c.args.versions.now in
    let w = c.args.withdrawn.items in
    IfOk-weaker c.without.result _ (λ catalogue. catalogue ≡ held_of (record { versions = s; withdrawn = w }))
    (λ catalogue is. is
    ∙ same_contents _ _ (rw (c.in_ok-references_to.ensures, c.uid_table.ensures) (kept_by_set s w)) c.uid_table.ensures)
    c.without.ensures
