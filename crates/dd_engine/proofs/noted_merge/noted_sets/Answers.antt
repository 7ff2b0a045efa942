use Rattle.std.proofs.Common.{◌<◌, All, IfErr, IfOk, map, rules, subst, ℕ}
use Rattle.std.proofs.lemmas.List.{length-map}
use Rattle.dd_engine.specs.Noting.{AreBelow, IsBelow}
use Rattle.dd_engine.specs.SetNotes.{NameSetsBelow}
use Rattle.dd_engine.proofs.RecordsNoted.{conflict_below, files_found, merged_within, notes_below}
use Rattle.dd_engine.proofs.SetsNamed.{sets_below}
use Rattle.dd_engine.proofs.noted_merge.noted_sets.Goals as goal

pub returns-clause-within : goal.returns-clause-within
returns-clause-within c =
    let sets = map (λ set. set.now) c.args.sets.now in
    subst (λ (n : ℕ). IfOk c.noted_plan.result (λ noted. All (λ pick. pick.set < n) noted.merged.picks.items))
    (length-map c.args.sets.now (λ set. set.now))
    (merged_within c.args.choice.now c.args.limits c.args.given.now sets c.noted_plan.result (search rules))

pub returns-clause-below : goal.returns-clause-below
returns-clause-below c =
    let sets = map (λ set. set.now) c.args.sets.now in
    subst (λ (n : ℕ). IfOk c.noted_plan.result (λ noted. AreBelow (λ pick. pick.set) n noted.notes.left_out.items))
    (length-map c.args.sets.now (λ set. set.now))
    (notes_below c.args.choice.now c.args.limits c.args.given.now sets c.noted_plan.result (search rules))

pub returns-clause-sets : goal.returns-clause-sets
returns-clause-sets c =
    let sets = map (λ set. set.now) c.args.sets.now in
    subst (λ (n : ℕ). IfOk c.noted_plan.result (λ noted. NameSetsBelow n noted.sets))
    (length-map c.args.sets.now (λ set. set.now))
    (sets_below c.args.choice.now c.args.limits c.args.given.now sets c.noted_plan.result (search rules))

pub returns-clause-conflict : goal.returns-clause-conflict
returns-clause-conflict c =
    let sets = map (λ set. set.now) c.args.sets.now in
    subst (λ (n : ℕ). IfErr c.noted_plan.result (λ noted. IsBelow (λ pick. pick.set) n noted.conflict))
    (length-map c.args.sets.now (λ set. set.now))
    (conflict_below c.args.choice.now c.args.limits c.args.given.now sets c.noted_plan.result (search rules))

pub returns-clause-found : goal.returns-clause-found
returns-clause-found c =
    let sets = map (λ set. set.now) c.args.sets.now in
    files_found c.args.choice.now c.args.limits c.args.given.now sets c.noted_plan.result (search rules)
