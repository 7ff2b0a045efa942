use Rattle.std.proofs.Common.{◌∙◌, ap, map}
use Rattle.dd_catalogue.specs.CatalogueJoin.{same_contents}
use Rattle.dd_catalogue.specs.BestLaws.{rising-best}
use Rattle.dd_catalogue.specs.Contents.{left_of}
use Rattle.dd_catalogue.specs.Versions.{best_of, versions_ordered}
use Rattle.dd_catalogue.proofs.Held.{kept_apart}
use Rattle.dd_catalogue.proofs.catalogue.Catalogue.without.Goals as goal

pub invariant_of-result : goal.invariant_of-result
invariant_of-result c =
    let s = map (λ version. version.now) c.args.versions.items in
    rw (c.in_ok-table.ensures, c.sift_references.ensures, c.in_ok-withdrawn.ensures.equal) (record {
      versions = rising-best versions_ordered (left_of s c.args.withdrawn);
      withdrawn = c.in_ok-withdrawn.ensures.rising;
      apart = kept_apart s c.args.withdrawn;
    })

pub returns : goal.returns
returns c =
    same_contents _ _ (c.in_ok-table.ensures ∙ ap best_of c.sift_references.ensures) c.in_ok-withdrawn.ensures.equal
