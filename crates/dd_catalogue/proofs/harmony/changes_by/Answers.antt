use Rattle.std.proofs.Common.{◌≡◌, ◌<◌, ap, arith, get_or, length, map, true, ◌∙◌}
use Rattle.std.specs.Ordering.{is_eq}
use Rattle.std.proofs.lemmas.Cmp.{nat_list_cmp_total, tied_itself}
use Rattle.std.proofs.lemmas.List.{length-map}
use Rattle.dd_version.specs.Copies.{with_keys_of}
use Rattle.dd_version.specs.declared.parts.Parts.{Parts}
use Rattle.dd_catalogue.specs.Changes.{with_changes}
use Rattle.dd_catalogue.specs.Conflicts.{same}
use Rattle.dd_catalogue.specs.Harmony.{agreed}
use Rattle.dd_catalogue.proofs.Changed.{change_more, change_none}
use Rattle.dd_catalogue.proofs.Harmonies.{agreed_from, item_member}
use Rattle.dd_catalogue.proofs.References.{read_under}
use Rattle.dd_catalogue.proofs.harmony.changes_by.Goals.{in-Some+in_ok-push, in_default}
use Rattle.dd_catalogue.proofs.harmony.changes_by.Goals as goal

pub loop-index-preserved : goal.loop-index-preserved
loop-index-preserved c =
    let m = map (λ version. version.now) c.args.versions.now in
    let i = c.loop-index.index in
    let v = c.index-versions-index.result.now in
    let below : i < length m = omega (arith, length-map c.args.versions.now (λ version. version.now)) in
    let read : v ≡ get_or m i v =
    read_under (λ version. version.now) c.args.versions.now i c.index-versions-index.result c.index-versions-index.is in
    let own = with_keys_of v c.version_like-patient.result.now c.version_like-study.result.now
    c.version_like-series.result.now in
    let is : own ≡ agreed m v = agreed_from m c.args.patients.now c.args.studies.now c.args.series.now v own
    c.requires.patients c.requires.studies c.requires.series (item_member m i v below read)
    (λ j. with_keys_of v (c.version_like-patient.ensures j) (c.version_like-study.ensures j)
    (c.version_like-series.ensures j)) in
    elim c.match-branch-2.branch [
      | in-Some+in_ok-push w ↦
          let other : w.in-Some.changed ≡ own = rw w.in-Some.is at c.in_ok-changed.ensures.other in
          rw w.list-is (ap (λ x. with_changes x m) w.in_ok-push.ensures.items
          ∙ change_more (agreed m) m c.loop-index.list.items i v w.in-Some.changed below read (other ∙ is)
          (ap (λ (x : Parts). same v.instance x.instance) other
          ∙ ap is_eq (tied_itself nat_list_cmp_total v.instance))
          c.loop-index.invariant)
      | in_default w ↦ rw w.list-is (change_none (agreed m) m c.loop-index.list.items i v below read
          (c.in_ok-changed.ensures.same w.in_default.is ∙ is) c.loop-index.invariant)
    ]
