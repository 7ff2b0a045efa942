use Rattle.std.proofs.Common.{◌∙◌, ℕ, Err, Ok, ap, subst, sym}
use Rattle.dd_engine.specs.IndexNotes.{ConflictsIn, NotesIndex}
use Rattle.dd_engine.specs.Indexed.{Indexes}
use Rattle.dd_engine.specs.declared.basis.Basis.{Basis}
use Rattle.dd_engine.proofs.NotedPlans.{allowed, laid, left, named, picked, refused}
use Rattle.dd_engine.proofs.noted_index.noted_plan.Goals as goal

pub returns-in-Ok : goal.returns-in-Ok
returns-in-Ok c = λ answers held.
    let parts = c.into_parts-versions.result in
    let is = c.into_parts-versions.ensures in
    let basis : Basis ℕ = record { versions = parts.0; origins = parts.1; withdrawn = c.new.result } in
    let v = ap (λ p. p.0.items) is ∙ held.versions in
    let o = ap (λ p. p.1.items) is ∙ held.origins in
    let w = c.new.ensures in
    let choice = c.args.choice.now in
    let planned = c.in-Ok.planned in
    let by = c.in-Ok.ensures.planned in
    subst (λ n. NotesIndex choice c.args.limits answers (Ok n)) (sym c.noted_index.ensures) (
      record {
        plan = laid answers basis v o w choice c.args.limits planned by;
        allowed = allowed answers basis v o w choice c.args.limits planned by;
        skipped = ap (λ p. p.2.items) is ∙ held.skips;
        picks = picked answers basis v o w choice c.args.limits planned by;
      },
      left answers basis v o w choice c.args.limits planned by,
      named answers basis v o w choice c.args.limits planned by,
    )

pub returns-in-Err : goal.returns-in-Err
returns-in-Err c = λ answers held.
    let parts = c.into_parts-versions.result in
    let is = c.into_parts-versions.ensures in
    let basis : Basis ℕ = record { versions = parts.0; origins = parts.1; withdrawn = c.new.result } in
    subst (λ f. Indexes c.args.choice.now c.args.limits answers (Err f) × ConflictsIn answers f c.in-Err.noted.conflict)
    (sym c.from.ensures)
    (refused answers basis (ap (λ p. p.0.items) is ∙ held.versions) (ap (λ p. p.1.items) is ∙ held.origins)
    c.new.ensures c.args.choice.now c.args.limits c.in-Err.noted.fault c.in-Err.noted.conflict c.in-Err.ensures.refused)
