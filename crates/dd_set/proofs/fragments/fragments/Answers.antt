use Rattle.std.proofs.Common.{◌≡◌, ◌-◌, ◌<◌, length, [], ◌∷◌, ◌++◌, arith, Some, None, Ok}
use Rattle.std.proofs.lemmas.Result.{err_from_is_err_and}
use Rattle.std.proofs.lemmas.List.{map_push}
use Rattle.dd_set.specs.Places.{at_view}
use Rattle.dd_grammar.specs.Reading.{fragment_at, fragments_here}
use Rattle.dd_set.specs.Views.{pieces}
use Rattle.dd_grammar.proofs.Failing.{fails_is}
use Rattle.dd_grammar.proofs.FragmentLaws.{fragments_more, fragments_done, fragments_fail}
use Rattle.dd_set.proofs.fragments.fragments.Goals as goal

pub returns-in_err-found-clause-exact : goal.returns-in_err-found-clause-exact
returns-in_err-found-clause-exact c =
    let p = err_from_is_err_and c.from_residual-in_err-found.result c.from_residual-in_err-found.ensures.1 in
    let at = c.fragments.invariant in
    rw (p.1, p.2) (fragments_fail (length c.fragments.place.rest.now) at.0 (pieces c.fragments.fragments.items)
    (at_view c.fragments.place)
    (fragments_here (at_view c.args.at)) c.in_err-found.field-0.0 at.1
    (fails_is c.in_err-found.field-0.0 _ c.in_err-found.ensures.exact) at.3)

pub returns-in-None-clause-exact : goal.returns-in-None-clause-exact
returns-in-None-clause-exact c =
    let at = c.fragments.invariant in
    let ended : fragment_at (at_view c.fragments.place) ≡ Ok (None, at_view c.in_ok-found.after) =
    rw c.in-None.is at c.in_ok-found.ensures.exact in
    fragments_done (length c.fragments.place.rest.now) at.0 (pieces c.fragments.fragments.items)
    (at_view c.fragments.place) (at_view c.in_ok-found.after) (fragments_here (at_view c.args.at)) at.1 ended at.3

pub fragments-preserved : goal.fragments-preserved
fragments-preserved c =
    let at = c.fragments.invariant in
    let next = c.in-Some.next in
    let found : fragment_at (at_view c.fragments.place) ≡ Ok (Some next.now, at_view c.in_ok-found.after) =
    rw c.in-Some.is at c.in_ok-found.ensures.exact in
    let shorter : length c.in_ok-found.after.rest.now < length c.fragments.place.rest.now =
    rw c.in-Some.is at c.in_ok-found.ensures.shorter in
    let pushed : pieces c.push.new.self.items ≡ pieces c.fragments.fragments.items ++ next.now ∷ [] =
    rw c.in_ok-push-in-Some.ensures.items (map_push _ c.fragments.fragments.items next) in (
      at.0 - 1,
      omega arith,
      omega arith,
      rw pushed (fragments_more (length c.fragments.place.rest.now) at.0 (pieces c.fragments.fragments.items)
          (at_view c.fragments.place)
          (at_view c.in_ok-found.after) next.now (fragments_here (at_view c.args.at)) at.1 found at.3),
    )
