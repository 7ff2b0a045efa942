use Rattle.std.proofs.Common.{rules}
use Rattle.std.specs.Ordering.{is_eq, is_lt}
use Rattle.std.proofs.lemmas.Fn.{dedup_same}
use Rattle.std.proofs.lemmas.List.Sorted.{answers_always, ranks_by}
use Rattle.dd_elem.specs.Ordered.{bytes_cmp}
use Rattle.dd_catalogue.specs.Ranks.{rank_cmp, rank_total}
use Rattle.dd_catalogue.proofs.Places.{by_key}
use Rattle.dd_catalogue.proofs.Ranked.{firsts_are_best}
use Rattle.dd_catalogue.proofs.thinning.keep_greatest.Goals as goal

pub returns : goal.returns
returns g c =
    let up = c.sort_unstable_by.ensures.sorted (λ v w. is_lt (rank_cmp g.T.Keyed.key_of g.T.Ordered.order v w))
    (ranks_by (rank_total g.T.Keyed.key_of g.met.T.Ordered.total) (λ v. v))
    (answers_always _ _ _ (λ f a r f' k. search rules)) in
    let left = dedup_same _ (λ v w. is_eq (bytes_cmp (g.T.Keyed.key_of v) (g.T.Keyed.key_of w))) _
    (λ x y b f' x' y' k. search rules) _ _ c.dedup_by.ensures.filtered in
    firsts_are_best (by_key g.T.Keyed.key_of g.met.T.Ordered.total g.met.T.Ordered.apart) _ _ _
    c.sort_unstable_by.ensures.permutation up left
