use Rattle.std.proofs.Common.{◌≡◌, ◌++◌, ◌∙◌, ap}
use Rattle.dd_catalogue.specs.Contents.{Contents, all_of, left_of}
use Rattle.dd_catalogue.specs.Versions.{best_of}
use Rattle.dd_catalogue.proofs.Held.{held_as, counted_maps, held_of_maps}
use Rattle.dd_catalogue.proofs.catalogue.Catalogue.merge_versions.Goals as goal

pub invariant_of-self-2 : goal.invariant_of-self-2
invariant_of-self-2 c =
    let old : Contents = record { versions = c.self.inside.table; withdrawn = c.self.inside.withdrawn } in
    let other : Contents = record { versions = c.other.inside.table; withdrawn = c.other.inside.withdrawn } in
    rw (c.sift-sifted.ensures.after, c.values.ensures.all, c.in_ok-maps.ensures.ok) (held_as _ (all_of old other)
    (held_of_maps old other c.self.invariant (rw (← c.other.view_is) at c.requires)))

pub returns-clause-ok : goal.returns-clause-ok
returns-clause-ok c =
    let old : Contents = record { versions = c.self.inside.table; withdrawn = c.self.inside.withdrawn } in
    let other : Contents = record { versions = c.other.inside.table; withdrawn = c.other.inside.withdrawn } in
    let table : c.sift-sifted.new.self ≡ left_of (best_of (c.self.inside.table ++ c.other.inside.table))
    c.self.inside.withdrawn = c.sift-sifted.ensures.after ∙ ap (λ w. left_of c.merge.new.self w) c.values.ensures.all
    ∙ ap (λ m. left_of m c.self.inside.withdrawn) c.in_ok-maps.ensures.ok in
    rw (← c.self.view_is, ← c.other.view_is)
    (ap (λ m. record { versions = m; withdrawn = c.self.inside.withdrawn }) table
    ∙ held_of_maps old other c.self.invariant
    (rw (← c.other.view_is) at c.requires))

pub returns-clause-count : goal.returns-clause-count
returns-clause-count c =
    let old : Contents = record { versions = c.self.inside.table; withdrawn = c.self.inside.withdrawn } in
    let other : Contents = record { versions = c.other.inside.table; withdrawn = c.other.inside.withdrawn } in
    rw (← c.self.view_is, ← c.other.view_is) (c.saturating_add.ensures ∙ counted_maps old other c.merge.new.self
    c.values.result.now c.in_ok-maps.maps c.sift-sifted.result c.self.invariant
    (rw (← c.other.view_is) at c.requires) c.in_ok-maps.ensures.count c.in_ok-maps.ensures.ok c.values.ensures.all
    c.sift-sifted.ensures.count)
