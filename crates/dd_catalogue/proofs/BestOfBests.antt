-- The best of bests, and of one value more.
use Rattle.std.specs.Prelude.{◌≡◌, List, [], ◌∷◌, ◌++◌}
use Rattle.std.specs.declared.cmp.Ordering.{Ordering}
use Rattle.std.proofs.Common.{sym, ◌∙◌, ap}
use Rattle.dd_catalogue.specs.Best.{put, best}
use Rattle.dd_catalogue.specs.Rising.{Orders, either}
use Rattle.dd_catalogue.specs.BestLaws.{best_at, rising-best, best_at-append, same_best_at, best_of_rising}
use Rattle.dd_catalogue.specs.BestLaws.{best_at-best, best_comm}

-- the best of the bests is the best of all
pub best_of_bests : {V K : Type 0} {key : V → K} {keys : K → K → Ordering} {values : V → V → Ordering}
    (o : Orders key keys values) (s t : List V)
    → best key keys values (best key keys values s ++ best key keys values t) ≡ best key keys values (s ++ t)
best_of_bests {key = key} {keys = keys} {values = values} o s t =
    same_best_at o (best key keys values s ++ best key keys values t) (s ++ t) (λ k.
    best_at-append o (best key keys values s) (best key keys values t) k
    ∙ ap (λ x. either values x (best_at key keys values (best key keys values t) k)) (best_at-best o s k)
    ∙ ap (λ x. either values (best_at key keys values s k) x) (best_at-best o t k)
    ∙ sym (best_at-append o s t k))

pub best_again : {V K : Type 0} {key : V → K} {keys : K → K → Ordering} {values : V → V → Ordering}
    (o : Orders key keys values) (v : V) (s : List V)
    → best key keys values (v ∷ best key keys values s) ≡ best key keys values (v ∷ s)
best_again {key = key} {keys = keys} {values = values} o v s =
    ap (λ m. put key keys values v m) (best_of_rising o (best key keys values s) (rising-best o s))

pub best_push : {V K : Type 0} {key : V → K} {keys : K → K → Ordering} {values : V → V → Ordering}
    (o : Orders key keys values) (v : V) (s : List V)
    → best key keys values (v ∷ best key keys values s) ≡ best key keys values (s ++ v ∷ [])
best_push o v s = best_again o v s ∙ best_comm o (v ∷ []) s
