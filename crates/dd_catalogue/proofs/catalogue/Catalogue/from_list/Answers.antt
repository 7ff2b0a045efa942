use Rattle.std.proofs.Common.{◌≡◌, ◌∙◌, ap, refl}
use Rattle.dd_catalogue.specs.BestLaws.{rising-best}
use Rattle.dd_catalogue.specs.CatalogueJoin.{same_contents}
use Rattle.dd_catalogue.specs.Changes.{with_changes}
use Rattle.dd_catalogue.specs.Contents.{IsHeld, kept_of, left_of}
use Rattle.dd_catalogue.specs.Versions.{versions_ordered}
use Rattle.dd_catalogue.proofs.Changed.{changed_held}
use Rattle.dd_catalogue.proofs.Held.{kept_apart, sifted}
use Rattle.dd_catalogue.proofs.catalogue.Catalogue.from_list.Goals as goal
use Rattle.dd_catalogue.proofs.catalogue.Catalogue.from_list.Goals.{After-write}

-- what is held then
written : (c : After-write)
    → c.write.new.versions.items ≡ with_changes c.args.changes (kept_of c.args.versions.items c.args.withdrawn)
written c =
    c.write.ensures ∙ ap (with_changes c.args.changes) (c.sift.ensures.items
    ∙ (λ i. left_of (c.keep_greatest.ensures i) (c.values.ensures.all i))
    ∙ sifted c.args.versions.items c.args.withdrawn)

is_held : (c : After-write) → IsHeld (record {
  versions = with_changes c.args.changes (kept_of c.args.versions.items c.args.withdrawn);
  withdrawn = c.args.withdrawn;
})
is_held c =
    let s = c.args.versions.items in
    let w = c.args.withdrawn in
    changed_held (kept_of s w) w c.args.changes (record {
      versions = rising-best versions_ordered (left_of s w);
      withdrawn = c.values.ensures.rising;
      apart = kept_apart s w;
    })

pub sift-requires-clause-held : goal.sift-requires-clause-held
sift-requires-clause-held c = rw c.keep_greatest.ensures (rising-best versions_ordered c.args.versions.items)

pub from_rising-requires : goal.from_rising-requires
from_rising-requires c =
    rw (written (goal.at.from_rising-requires c).After-write) (is_held (goal.at.from_rising-requires c).After-write).versions

pub invariant_of-result : goal.invariant_of-result
invariant_of-result c =
    rw (c.from_rising.ensures, written (goal.at.invariant_of-result c).After-write)
    (is_held (goal.at.invariant_of-result c).After-write)

pub returns : goal.returns
returns c =
    same_contents _ _ (c.from_rising.ensures ∙ written (goal.at.returns c).After-write) refl
