use Rattle.std.proofs.Common.{◌∷◌, ◌++◌, List, [], ◌+◌, ◌∙◌, ap, refl, sym, subst, arith, map}
use Rattle.std.specs.Prelude.{None}
use Rattle.std.proofs.lemmas.List.{append-nil, get_or-map, length_push, length-map}
use Rattle.std.proofs.lemmas.Result.{err_from_is_err_and}
use Rattle.dd_engine.specs.Merging.{IsOwn, numbered}
use Rattle.dd_engine.specs.MergeSteps.{Gathers, Withdrawal, withdrawals_in}
use Rattle.dd_engine.proofs.SetsGathered.{first_fails, gathers_more, own_more}
use Rattle.dd_engine.proofs.gathering.gather_sets.Goals as goal

pub loop-at-init : goal.loop-at-init
loop-at-init c = record {
  listings = [];
  many = refl;
  own = tt;
  held = subst (λ (uids : List Withdrawal). Gathers [] uids [] c.in_ok-gathered.gathered)
      (sym (append-nil (map (λ uid. (None, uid)) c.args.given.now))) c.in_ok-gathered.ensures.all;
}

pub loop-at-preserved : goal.loop-at-preserved
loop-at-preserved c =
    let before = c.loop-at.invariant in
    let given = c.args.given.now in
    let told = c.in_ok-add_set.ensures (numbered 0 before.listings) (withdrawals_in given before.listings)
    (map (λ listing. listing.unreached) before.listings) before.held in
    let sets = map (λ set. set.now) c.args.sets.now in
    let i = c.loop-at.at in
    record {
      listings = before.listings ++ told.0 ∷ [];
      many = length_push before.listings told.0 ∙ ap (λ n. n + 1) before.many;
      own = own_more sets i before.listings told.0
          (omega (arith, c.loop-at-test.true, length-map c.args.sets.now (λ set. set.now))) before.own
          (subst (λ s. IsOwn s told.0)
          (sym (get_or-map (λ set. set.now) c.args.sets.now i _ [] (omega (arith, c.loop-at-test.true)))) told.1);
      held = gathers_more given i before.listings told.0 _ (omega (arith, before.many)) told.2;
    }

pub returns-in_err-add_set : goal.returns-in_err-add_set
returns-in_err-add_set c =
    let p = err_from_is_err_and c.from_residual-in_err-add_set.result c.from_residual-in_err-add_set.ensures.1 in
    let before = c.loop-at.invariant in
    let given = c.args.given.now in
    let sets = map (λ set. set.now) c.args.sets.now in
    let i = c.loop-at.at in
    rw (p.1, p.2) (first_fails given sets i _ c.in_err-add_set.field-0.0 before.listings
    (omega (arith, c.loop-at-test.true, length-map c.args.sets.now (λ set. set.now)))
    (sym (get_or-map (λ set. set.now) c.args.sets.now i _ [] (omega (arith, c.loop-at-test.true))))
    before.own (c.in_err-add_set.ensures (numbered 0 before.listings) (withdrawals_in given before.listings)
    (map (λ listing. listing.unreached) before.listings) before.held))
