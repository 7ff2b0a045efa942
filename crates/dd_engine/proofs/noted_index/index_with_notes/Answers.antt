use Rattle.std.proofs.Common.{IfErr, IfOk, subst, ℕ}
use Rattle.dd_engine.specs.Indexed.{IsWithin}
use Rattle.dd_engine.specs.Noting.{AreBelow, IsBelow}
use Rattle.dd_engine.proofs.SourcesNoted.{conflict_below, indexed_within, notes_below, sources_found}
use Rattle.dd_engine.proofs.noted_index.index_with_notes.Goals as goal

pub returns-clause-within : goal.returns-clause-within
returns-clause-within g c =
    let read = c.in_ok-sources.ensures.read in
    subst (λ (n : ℕ). IfOk c.noted_plan.result (λ noted. IsWithin n noted.indexed)) read.1
    (indexed_within c.args.choice.now c.args.limits read.0 c.noted_plan.result (c.noted_plan.ensures read.0 read.3))

pub returns-clause-below : goal.returns-clause-below
returns-clause-below g c =
    let read = c.in_ok-sources.ensures.read in
    subst (λ (n : ℕ). IfOk c.noted_plan.result (λ noted. AreBelow (λ at. at) n noted.notes.left_out.items)) read.1
    (notes_below c.args.choice.now c.args.limits read.0 c.noted_plan.result (c.noted_plan.ensures read.0 read.3))

pub returns-clause-conflict : goal.returns-clause-conflict
returns-clause-conflict g c =
    let read = c.in_ok-sources.ensures.read in
    subst (λ (n : ℕ). IfErr c.noted_plan.result (λ noted. IsBelow (λ at. at) n noted.conflict)) read.1
    (conflict_below c.args.choice.now c.args.limits read.0 c.noted_plan.result (c.noted_plan.ensures read.0 read.3))

pub returns-clause-found : goal.returns-clause-found
returns-clause-found g c =
    let read = c.in_ok-sources.ensures.read in
    sources_found c.args.choice.now c.args.limits read.0 c.noted_plan.result (c.noted_plan.ensures read.0 read.3)
