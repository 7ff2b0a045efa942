-- It is noted of what the engine merged.
use Rattle.std.proofs.Common.{List, ℕ, map}
use Rattle.std.specs.Borrow.{Bor}
use Rattle.dd_making.proofs.NotedMerges.{are_noted, not_noted, refused}
use Rattle.dd_making.proofs.noting.note_sets.Goals as goal

abbrev texts : List (Bor (List ℕ)) → List (List ℕ)
texts sets = map (λ (set : Bor (List ℕ)). set.now) sets

pub returns-in-Ok-clause-noted : goal.returns-in-Ok-clause-noted
returns-in-Ok-clause-noted c =
    are_noted c.args.choice.now (texts c.args.sets.now) c.of_bytes.result c.in-Ok.noted c.of_bytes.ensures
    c.in-Ok.ensures.merges _ _ c.of.result c.of.ensures.table c.of.ensures.sum

pub returns-in-Ok-clause-refused : goal.returns-in-Ok-clause-refused
returns-in-Ok-clause-refused c =
    not_noted c.args.choice.now (texts c.args.sets.now) c.of_bytes.result c.in-Ok.noted c.of_bytes.ensures
    c.in-Ok.ensures.merges c.of.result c.of.ensures.memory

pub returns-in-Err-clause-refused : goal.returns-in-Err-clause-refused
returns-in-Err-clause-refused c =
    refused c.args.choice.now (texts c.args.sets.now) c.of_bytes.result c.in-Err.noted c.merge_refusal.result
    c.of_bytes.ensures c.in-Err.ensures.merges c.merge_refusal.ensures.refusal
