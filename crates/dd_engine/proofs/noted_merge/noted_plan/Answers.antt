use Rattle.std.proofs.Common.{◌∙◌, Err, Ok, ap, subst, sym}
use Rattle.dd_catalogue.specs.Contents.{uids_of}
use Rattle.dd_engine.specs.MergeNotes.{ConflictsIn, NotesMerge}
use Rattle.dd_engine.specs.MergeSteps.{MergesAs}
use Rattle.dd_engine.specs.declared.basis.Basis.{Basis}
use Rattle.dd_engine.specs.declared.merge.Pick.{Pick}
use Rattle.dd_engine.proofs.MergePlans.{allowed, laid, left, named, picked, refused}
use Rattle.dd_engine.proofs.SetsGathered.{placed_is, uids_withdrawn}
use Rattle.dd_engine.proofs.noted_merge.noted_plan.Goals as goal

pub returns-in-Ok : goal.returns-in-Ok
returns-in-Ok c = λ listings all.
    let given = c.args.given.now in
    let basis = c.into_basis.result in
    let is = c.into_basis.ensures in
    let placed = placed_is given listings c.args.gathered basis.versions.items basis.origins.items
    (ap (λ (b : Basis Pick). b.versions.items) is) (ap (λ (b : Basis Pick). b.origins.items) is) all in
    let w = ap (λ (b : Basis Pick). b.withdrawn) is ∙ ap uids_of (all.withdrawn ∙ uids_withdrawn given listings) in
    let choice = c.args.choice.now in
    let planned = c.in-Ok.planned in
    let by = c.in-Ok.ensures.planned in
    subst (λ n. NotesMerge choice c.args.limits given listings (Ok n)) (sym c.noted_merge.ensures) (
      record {
        plan = laid given listings basis placed w choice c.args.limits planned by;
        allowed = allowed given listings basis placed w choice c.args.limits planned by;
        picks = picked given listings basis placed w choice c.args.limits planned by;
      },
      left given listings basis placed w choice c.args.limits planned by,
      named given listings basis placed w choice c.args.limits planned by,
      c.in_ok-sets.ensures.all listings all,
    )

pub returns : goal.returns
returns c = λ listings all.
    let given = c.args.given.now in
    let basis = c.into_basis.result in
    let is = c.into_basis.ensures in
    let placed = placed_is given listings c.args.gathered basis.versions.items basis.origins.items
    (ap (λ (b : Basis Pick). b.versions.items) is) (ap (λ (b : Basis Pick). b.origins.items) is) all in
    let w = ap (λ (b : Basis Pick). b.withdrawn) is ∙ ap uids_of (all.withdrawn ∙ uids_withdrawn given listings) in
    subst (λ f. MergesAs c.args.choice.now c.args.limits given listings (Err f)
    × ConflictsIn given listings f c.in-Err.noted.conflict) (sym c.from.ensures)
    (refused given listings basis placed w c.args.choice.now c.args.limits c.in-Err.noted.fault c.in-Err.noted.conflict
    c.in-Err.ensures.refused)
