use Rattle.std.proofs.Common.{◌≡◌, ◌-◌, ◌<◌, length, [], ◌∷◌, ◌++◌, arith, length-append, Some, None, Ok}
use Rattle.std.proofs.lemmas.Result.{err_from_is_err_and}
use Rattle.dd_set.specs.Places.{at_view}
use Rattle.dd_grammar.specs.Reading.{fragment_at, fragments_here}
use Rattle.dd_grammar.proofs.Failing.{fails_is}
use Rattle.dd_grammar.proofs.FragmentLaws.{fragments_more, fragments_done, fragments_fail}
use Rattle.dd_set.proofs.fragments.count_fragments.Goals as goal

pub returns-in_err-found-clause-exact : goal.returns-in_err-found-clause-exact
returns-in_err-found-clause-exact c =
    let p = err_from_is_err_and c.from_residual.result c.from_residual.ensures.1 in
    let at = c.fragments.invariant in
    rw (p.1, p.2) (fragments_fail (length c.fragments.place.rest.now) at.0 at.1 (at_view c.fragments.place)
    (fragments_here (at_view c.args.at)) c.in_err-found.field-0.0 at.2
    (fails_is c.in_err-found.field-0.0 _ c.in_err-found.ensures.exact) at.5)

pub returns-in-None-clause-exact : goal.returns-in-None-clause-exact
returns-in-None-clause-exact c =
    let at = c.fragments.invariant in
    let ended : fragment_at (at_view c.fragments.place) ≡ Ok (None, at_view c.in_ok-found.after) =
    rw c.in-None.is at c.in_ok-found.ensures.exact in (
      at.1,
      at_view c.in_ok-found.after,
      fragments_done (length c.fragments.place.rest.now) at.0 at.1 (at_view c.fragments.place)
          (at_view c.in_ok-found.after) (fragments_here (at_view c.args.at)) at.2 ended at.5,
      at.3,
    )

pub fragments-preserved : goal.fragments-preserved
fragments-preserved c =
    let at = c.fragments.invariant in
    let next = c.in-Some._next in
    let found : fragment_at (at_view c.fragments.place) ≡ Ok (Some next.now, at_view c.in_ok-found.after) =
    rw c.in-Some.is at c.in_ok-found.ensures.exact in
    let shorter : length c.in_ok-found.after.rest.now < length c.fragments.place.rest.now =
    rw c.in-Some.is at c.in_ok-found.ensures.shorter in (
      at.0 - 1,
      at.1 ++ next.now ∷ [],
      omega arith,
      omega (arith, length-append at.1 (next.now ∷ [])),
      omega arith,
      fragments_more (length c.fragments.place.rest.now) at.0 at.1 (at_view c.fragments.place)
          (at_view c.in_ok-found.after) next.now (fragments_here (at_view c.args.at)) at.2 found at.5,
    )
