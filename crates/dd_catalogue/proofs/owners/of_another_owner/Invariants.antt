use Rattle.std.proofs.Common.{◌≡◌, take, map, filter}
use Rattle.dd_catalogue.specs.Owners.{is_of_another_owner}
use Rattle.dd_catalogue.proofs.owners.of_another_owner.Given as goal

abbrev pub invariant-loop-one : goal.invariant-loop-one
invariant-loop-one g l = map (λ one. one.now) l.others.items
    ≡ filter (is_of_another_owner (λ v. g.T.Keyed.key_of (g.T.Tuple.tuple_of v))
    (λ v. g.O.Keyed.key_of (g.O.Tuple.tuple_of v)) l.table) (take l.one-index l.carriers)
