use Rattle.std.proofs.Common.{[], ◌∷◌, ◌∙◌, ap, rules, subst, map}
use Rattle.std.specs.List.Sorted.{IsPermutation}
use Rattle.std.specs.Ordering.{is_lt}
use Rattle.std.proofs.lemmas.List.{map-append, take_all}
use Rattle.std.proofs.lemmas.List.Sorted.{IsPermutation-map, answers_always, ranks_by}
use Rattle.dd_layout.specs.Paths.{path_cmp}
use Rattle.dd_layout.specs.WalkedRecords.{standing, standings}
use Rattle.dd_layout.proofs.InOrder.{path_at, place_more, sorted_in_order}
use Rattle.dd_layout.proofs.RowsByWalk.{path_total}
use Rattle.dd_layout.proofs.order.in_path_order.Goals as goal

pub loop-of-preserved : goal.loop-of-preserved
loop-of-preserved c =
    place_more c.args.versions.now c.loop-of.of c.index-versions-of.result (map standing c.loop-of.placed.items)
    (map standing c.push.new.self.items) c.loop-of-test.true c.index-versions-of.is c.loop-of.invariant
    (ap (λ l. map standing l) c.in_ok-push.ensures.items ∙ map-append standing c.loop-of.placed.items (_ ∷ []))

pub returns-clause-all : goal.returns-clause-all
returns-clause-all c =
    subst (λ l. IsPermutation l (map standing c.sort_by.new.self.items))
    (c.loop-of.invariant ∙ ap (λ l. standings 0 l) (take_all c.loop-of.of c.args.versions.now c.loop-of-test.false))
    (IsPermutation-map standing c.loop-of.placed.items c.sort_by.new.self.items c.sort_by.ensures.permutation)

pub returns-clause-order : goal.returns-clause-order
returns-clause-order c =
    sorted_in_order c.sort_by.new.self.items
    (c.in_ok-sort_by.ensures.sorted (λ a b. is_lt (path_cmp (path_at a) (path_at b))) (ranks_by path_total path_at)
    (answers_always _ _ _ (λ f a r g called. ap is_lt (search rules))))
