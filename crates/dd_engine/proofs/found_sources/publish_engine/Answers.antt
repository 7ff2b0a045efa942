use Rattle.std.proofs.Common.{subst, sym}
use Rattle.dd_engine.specs.Found.{HasFound}
use Rattle.dd_engine.proofs.Found.{holds_found}
use Rattle.dd_engine.proofs.SourcesNoted.{conflict_below, indexed_within, notes_below, sources_found}
use Rattle.dd_engine.proofs.found_sources.publish_engine.Goals as goal

pub returns-clause-answers : goal.returns-clause-answers
returns-clause-answers c = λ answers found. c.noted_plan.ensures answers (holds_found answers c.found.inside.sources (subst (HasFound answers) (sym c.found.view_is) found))

pub returns-clause-within : goal.returns-clause-within
returns-clause-within c = λ answers found.
    indexed_within c.args.choice.now c.args.limits answers c.noted_plan.result
    (c.noted_plan.ensures answers (holds_found answers c.found.inside.sources (subst (HasFound answers) (sym c.found.view_is) found)))

pub returns-clause-below : goal.returns-clause-below
returns-clause-below c = λ answers found.
    notes_below c.args.choice.now c.args.limits answers c.noted_plan.result
    (c.noted_plan.ensures answers (holds_found answers c.found.inside.sources (subst (HasFound answers) (sym c.found.view_is) found)))

pub returns-clause-conflict : goal.returns-clause-conflict
returns-clause-conflict c = λ answers found.
    conflict_below c.args.choice.now c.args.limits answers c.noted_plan.result
    (c.noted_plan.ensures answers (holds_found answers c.found.inside.sources (subst (HasFound answers) (sym c.found.view_is) found)))

pub returns-clause-found : goal.returns-clause-found
returns-clause-found c = λ answers found.
    sources_found c.args.choice.now c.args.limits answers c.noted_plan.result
    (c.noted_plan.ensures answers (holds_found answers c.found.inside.sources (subst (HasFound answers) (sym c.found.view_is) found)))
