use Rattle.std.proofs.Common.{◌≡◌, ◌+◌, ◌++◌, ◌∙◌, ap, arith, min, refl}
use Rattle.std.proofs.lemmas.Result.{IfOk-weaker}
use Rattle.dd_elem.specs.Device.{last_count}
use Rattle.dd_elem.specs.Ordered.{bytes_cmp}
use Rattle.dd_catalogue.specs.CatalogueJoin.{same_contents}
use Rattle.dd_catalogue.specs.Compared.{compared_keys}
use Rattle.dd_catalogue.specs.Contents.{Contents, all_of, left_of, uids_of}
use Rattle.dd_catalogue.specs.Versions.{best_of}
use Rattle.dd_catalogue.proofs.Held.{held_as, counted_both, few_in_merge, held_of_both}
use Rattle.dd_catalogue.proofs.catalogue.Catalogue.merge_counted.Goals as goal

pub invariant_of-self-2 : goal.invariant_of-self-2
invariant_of-self-2 c =
    let old : Contents = record { versions = c.self.inside.table; withdrawn = c.self.inside.withdrawn } in
    let other : Contents = record { versions = c.other.inside.table; withdrawn = c.other.inside.withdrawn } in
    let mine : c.in_ok-withdrawn.withdrawn ≡ c.self.inside.withdrawn =
    c.in_ok-withdrawn.ensures.equal ∙ c.table.ensures in
    let sets : c.merge.new.self ≡ uids_of (c.self.inside.withdrawn ++ c.other.inside.withdrawn) =
    c.in_ok-sets.ensures.ok ∙ rw (mine, c.table-2.ensures) refl in
    rw (c.sift-sifted.ensures.after, c.values-2.ensures.all, c.from_table.ensures, c.in_ok-maps.ensures.ok, sets)
    (held_as _ (all_of old other) (held_of_both old other))

pub returns-clause-ok : goal.returns-clause-ok
returns-clause-ok c =
    let old : Contents = record { versions = c.self.inside.table; withdrawn = c.self.inside.withdrawn } in
    let other : Contents = record { versions = c.other.inside.table; withdrawn = c.other.inside.withdrawn } in
    let mine : c.in_ok-withdrawn.withdrawn ≡ c.self.inside.withdrawn =
    c.in_ok-withdrawn.ensures.equal ∙ c.table.ensures in
    let sets : c.merge.new.self ≡ uids_of (c.self.inside.withdrawn ++ c.other.inside.withdrawn) =
    c.in_ok-sets.ensures.ok ∙ rw (mine, c.table-2.ensures) refl in
    let table : c.sift-sifted.new.self ≡ left_of (best_of (c.self.inside.table ++ c.other.inside.table))
    (uids_of (c.self.inside.withdrawn ++ c.other.inside.withdrawn)) = c.sift-sifted.ensures.after
    ∙ ap (λ w. left_of c.merge-2.new.self w) (c.values-2.ensures.all ∙ sets)
    ∙ ap (λ m. left_of m (uids_of (c.self.inside.withdrawn ++ c.other.inside.withdrawn))) c.in_ok-maps.ensures.ok in
    rw (← c.self.view_is, ← c.other.view_is) (same_contents _ _ table (c.from_table.ensures ∙ sets) ∙ held_of_both old other)

pub returns-clause-count : goal.returns-clause-count
returns-clause-count c =
    let old : Contents = record { versions = c.self.inside.table; withdrawn = c.self.inside.withdrawn } in
    let other : Contents = record { versions = c.other.inside.table; withdrawn = c.other.inside.withdrawn } in
    let mine : c.in_ok-withdrawn.withdrawn ≡ c.self.inside.withdrawn =
    c.in_ok-withdrawn.ensures.equal ∙ c.table.ensures in
    let sets : c.merge.new.self ≡ uids_of (c.self.inside.withdrawn ++ c.other.inside.withdrawn) =
    c.in_ok-sets.ensures.ok ∙ rw (mine, c.table-2.ensures) refl in
    let count : c.in_ok-sets.sets ≡ compared_keys bytes_cmp c.self.inside.withdrawn c.other.inside.withdrawn =
    c.in_ok-sets.ensures.count ∙ rw (mine, c.table-2.ensures) refl in
    let sum : c.saturating_add-2.result
    ≡ min (min (c.in_ok-sets.sets + c.in_ok-maps.maps) last_count + c.sift-sifted.result) last_count =
    omega (arith, c.saturating_add.ensures, c.saturating_add-2.ensures) in
    rw (← c.self.view_is, ← c.other.view_is) (sum ∙ counted_both old other c.merge-2.new.self c.values-2.result.now
    c.in_ok-sets.sets c.in_ok-maps.maps c.sift-sifted.result count c.in_ok-maps.ensures.count c.in_ok-maps.ensures.ok
    (c.values-2.ensures.all ∙ sets) c.sift-sifted.ensures.count)

pub returns-then-is_empty-clause-twice : goal.returns-then-is_empty-clause-twice
returns-then-is_empty-clause-twice c =
    IfOk-weaker c.merge_versions.result _ _ (λ count is. omega (
      arith,
      is,
      few_in_merge c.args.self.now c.args.other.now,
    )) c.merge_versions.ensures.count

pub returns-clause-twice : goal.returns-clause-twice
returns-clause-twice c =
    omega (arith, returns-clause-count c, few_in_merge c.args.self.now c.args.other.now)
