use Rattle.std.proofs.Common.{◌≡◌, ◌∙◌, ap}
use Rattle.dd_catalogue.specs.BestLaws.{rising-best}
use Rattle.dd_catalogue.specs.Versions.{best_of, versions_ordered}
use Rattle.dd_catalogue.proofs.Held.{left_of_none}
use Rattle.dd_catalogue.proofs.catalogue.Catalogue.from_versions.Goals as goal

pub invariant_of-result : goal.invariant_of-result
invariant_of-result c =
    let s = c.args.versions.now in
    let table : c.in_ok-of.field-0 ≡ best_of s = c.in_ok-of.ensures ∙ ap best_of c.in_ok-references_to.ensures in
    rw (table, c.new-2.ensures) (record {
      versions = rising-best versions_ordered s;
      withdrawn = tt;
      apart = left_of_none (best_of s);
    })
