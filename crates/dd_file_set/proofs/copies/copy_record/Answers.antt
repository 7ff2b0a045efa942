-- The image of the record was made, of the first pick.
use Rattle.std.proofs.Common.{◌≡◌, ◌<◌, ◌-◌, ℕ, List, All, Err, ap, drop, is_some, length, refl, rules, take}
use Rattle.std.proofs.lemmas.List.Elements.{All-drop, All-take}
use Rattle.std.proofs.lemmas.Option.{slice_get_read}
use Rattle.dd_file_set.proofs.ChangedFiles.{changed_by, unfit_first}
use Rattle.dd_file_set.specs.Changed.{HasUnfit}
use Rattle.dd_file_set.proofs.ImagesMade.{copies_one}
use Rattle.dd_file_set.proofs.KnownAhead.{next_known, passed_known}
use Rattle.dd_file_set.proofs.copies.copy_record.Goals as goal

pub returns-in_ok-make_image-in-Some-len1-up-clause-copied : goal.returns-in_ok-make_image-in-Some-len1-up-clause-copied
returns-in_ok-make_image-in-Some-len1-up-clause-copied g c = λ done.
    copies_one (g.O.Origins.stands_at c.args.set.now.origins.now) (g.O.Origins.may_link c.args.set.now.origins.now)
    (g.O.Origins.said c.args.set.now.origins.now)
    c.args.set.now.folder.now c.args.set.now.plan.now.versions c.args.row.now c.args.left.now.picks.now
    c.pick-item.result _ _
    c.in-Some-len1-up.len_at_least (record {
      file = c.in-Some-len1-up.file;
      named = c.in-Some-len1-up.is-0;
      planned = c.index-versions-row.result;
      of = slice_get_read c.args.set.now.plan.now.versions (length c.args.set.now.plan.now.versions) c.args.row.now.of
          c.index-versions-row.result refl c.requires.within
          (rw c.versions-versions.ensures.all at c.index-versions-row.is);
      made = rw (← c.pick-item.is, ← c.read_ahead.ensures.kept)
          (c.in_ok-make_image-in-Some-len1-up.ensures.made cc);
    })

-- the later picks are there, too
later_has : {P : Type 0} (number : P → ℕ) (count : ℕ) (picks : List P) → All (λ pick. number pick < count) picks
    → All (λ pick. number pick < count) (take (length picks - 1) (drop 1 picks))
later_has {P} number count picks has =
    let Has : P → Type 0 = λ pick. number pick < count in
    All-take Has (length picks - 1) (drop 1 picks) (All-drop Has 1 picks has)

pub returns-in_ok-make_image-in-Some-len1-up-clause-has : goal.returns-in_ok-make_image-in-Some-len1-up-clause-has
returns-in_ok-make_image-in-Some-len1-up-clause-has g c = λ done.
    later_has g.O.Origins.number (g.O.Origins.count c.args.set.now.origins.now) c.args.left.now.picks.now c.requires.has

pub make_image-requires-clause-known : goal.make_image-requires-clause-known
make_image-requires-clause-known g c =
    rw c.pick-item.is (next_known (g.O.Origins.stands_at c.args.set.now.origins.now) c.args.left.now.picks.now
    c.pick-item.result _ _ _ c.in-Some-len1-up.len_at_least c.next-ahead.ensures c.read_ahead.ensures.known)

pub returns-in_ok-make_image-in-Some-len1-up-clause-known : goal.returns-in_ok-make_image-in-Some-len1-up-clause-known
returns-in_ok-make_image-in-Some-len1-up-clause-known g c = λ done.
    passed_known (g.O.Origins.stands_at c.args.set.now.origins.now) c.args.left.now.picks.now _ _ _ _ _ _ _ _ _ _
    c.in-Some-len1-up.len_at_least c.pass.ensures (c.in_ok-make_image-in-Some-len1-up.ensures.made cc)
    c.read_ahead.ensures.known

pub returns-in_err-make_image-in-Some-len1-up-clause-changed :
    goal.returns-in_err-make_image-in-Some-len1-up-clause-changed
returns-in_err-make_image-in-Some-len1-up-clause-changed g c =
    let set = c.args.set.now in
    let origins = set.origins.now in
    let pick = c.pick-item.result in
    let planned = c.index-versions-row.result in
    let held = g.F.Files.held c.args.files.now in
    let refusal = c.in_err-make_image-in-Some-len1-up.field-0.0 in
    let is : c.from_residual.result ≡ Err refusal = search rules in
    rw is (changed_by
    (HasUnfit (g.O.Origins.stands_at origins pick) (g.O.Origins.may_link origins pick) (g.O.Origins.said origins pick)
    (g.O.Origins.gives_links origins)
    planned held) _ refusal.fault
    (λ has. unfit_first (g.O.Origins.stands_at origins) (g.O.Origins.may_link origins) (g.O.Origins.said origins)
    (g.O.Origins.gives_links origins) set.plan.now.versions c.args.row.now c.args.left.now.picks.now pick planned held
    c.in-Some-len1-up.len_at_least (ap is_some c.in-Some-len1-up.is-0)
    (slice_get_read set.plan.now.versions (length set.plan.now.versions) c.args.row.now.of planned refl
    c.requires.within (rw c.versions-versions.ensures.all at c.index-versions-row.is))
    (rw (← c.pick-item.is) has))
    (rw c.read_ahead.ensures.kept at c.in_err-make_image-in-Some-len1-up.ensures.changed))
