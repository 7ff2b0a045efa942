-- The pick is the file of the first image whose version is filed as the planned one.
use Rattle.std.proofs.Common.{◌<◌, ℕ, Ok, Some, map, refl, subst}
use Rattle.std.proofs.lemmas.List.{length-map}
use Rattle.dd_engine.proofs.FirstSaying.{answer_within, first_place, no_place}
use Rattle.dd_engine.proofs.saying.first_saying.Goals as goal

pub returns-in-Some-clause-within : goal.returns-in-Some-clause-within
returns-in-Some-clause-within c =
    subst (λ (n : ℕ). c.index.result.now.set < n) (length-map c.args.sets.now (λ set. set.now))
    (answer_within (map (λ set. set.now) c.args.sets.now) c.args.planned.now (Ok (Some c.index.result.now)) (
      c.in_ok-gathered.ensures.0,
      c.in_ok-gathered.ensures.1,
      first_place c.args.planned.now c.in_ok-gathered.ensures.0 c.in_ok-gathered.gathered c.in-Some.at
          c.index.result.now c.in_ok-gathered.ensures.2
          (rw (c.parts.ensures.value, c.deref.ensures.value) at c.in-Some.ensures.first)
          c.index.ensures,
    ))

pub returns-clause-answer : goal.returns-clause-answer
returns-clause-answer c =
    let gathers = c.in_ok-gathered.ensures in (
      gathers.0,
      gathers.1,
      no_place c.args.planned.now gathers.0 c.in_ok-gathered.gathered gathers.2
          (rw (c.parts.ensures.value, c.deref.ensures.value) at c.in-None.ensures.none refl),
    )
