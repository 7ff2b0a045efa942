use Rattle.std.proofs.Common.{Err, Ok, map, rules}
use Rattle.dd_engine.proofs.MergedMaps.{merges_maps, plans_images}
use Rattle.dd_engine.proofs.merge.merge_sets.Goals as goal

pub returns-in-Ok-clause-published : goal.returns-in-Ok-clause-published
returns-in-Ok-clause-published c = λ maps published agree none.
    merges_maps c.args.choice.now c.args.limits c.args.given.now (map (λ set. set.now) c.args.sets.now) maps
    (Ok c.into_merged.result) (search rules) published agree none

pub returns-in-Ok-clause-withdrawn : goal.returns-in-Ok-clause-withdrawn
returns-in-Ok-clause-withdrawn c = λ maps published agree.
    plans_images c.args.choice.now c.args.limits c.args.given.now (map (λ set. set.now) c.args.sets.now) maps
    (Ok c.into_merged.result) (search rules) published agree

pub returns-in-Err-clause-published : goal.returns-in-Err-clause-published
returns-in-Err-clause-published c = λ maps published agree none.
    merges_maps c.args.choice.now c.args.limits c.args.given.now (map (λ set. set.now) c.args.sets.now) maps
    (Err c.in-Err.noted.fault) (search rules) published agree none
