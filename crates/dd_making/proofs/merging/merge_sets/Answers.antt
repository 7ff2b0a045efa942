-- It is made of what the engine merged.
use Rattle.std.proofs.Common.{List, ℕ, [], map}
use Rattle.std.specs.Borrow.{Bor}
use Rattle.dd_making.proofs.Making.{made, not_made}
use Rattle.dd_making.proofs.merging.merge_sets.Goals as goal

abbrev texts : List (Bor (List ℕ)) → List (List ℕ)
texts sets = map (λ (set : Bor (List ℕ)). set.now) sets

pub returns-in-Ok-clause-made : goal.returns-in-Ok-clause-made
returns-in-Ok-clause-made c =
    made c.args.choice.now [] (texts c.args.sets.now) c.of_bytes.result c.in-Ok.merged c.of_bytes.ensures
    c.in-Ok.ensures.merges c.of.result c.of.ensures.made

pub returns-in-Ok-clause-refused : goal.returns-in-Ok-clause-refused
returns-in-Ok-clause-refused c =
    not_made c.args.choice.now [] (texts c.args.sets.now) c.of_bytes.result c.in-Ok.merged c.of_bytes.ensures
    c.in-Ok.ensures.merges c.of.result c.of.ensures.memory
