-- How many pairs are compared at most.
use Rattle.std.specs.Prelude.{◌≤◌, ◌+◌, List, [], ◌∷◌, ◌++◌, length}
use Rattle.std.specs.declared.cmp.Ordering.{Ordering}
use Rattle.std.proofs.Common.{arith, length-append}
use Rattle.std.proofs.lemmas.List.Sums.{count_by-le-length}
use Rattle.dd_catalogue.specs.Best.{best, put}
use Rattle.dd_catalogue.specs.Compared.{compared, is_compared}
use Rattle.dd_catalogue.specs.Rising.{by_order}

length-put : {V K : Type 0} (key : V → K) (keys : K → K → Ordering) (values : V → V → Ordering) (v : V) (m : List V)
    → length (put key keys values v m) ≤ 1 + length m
length-put key keys values v [] = omega arith
length-put key keys values v (w ∷ m) =
    let rest = length-put key keys values v m in
    by_order (keys (key v) (key w))
    (λ e. rw e (omega arith))
    (λ e. rw e (omega arith))
    (λ e. rw e (omega (arith, rest)))

pub length-best : {V K : Type 0} (key : V → K) (keys : K → K → Ordering) (values : V → V → Ordering) (s : List V)
    → length (best key keys values s) ≤ length s
length-best key keys values [] = omega arith
length-best key keys values (v ∷ s) =
    let one = length-put key keys values v (best key keys values s) in
    let rest = length-best key keys values s in
    omega (arith, one, rest)

-- one for each value of either list
pub compared_at_most : {V K : Type 0} (key : V → K) (keys : K → K → Ordering) (values : V → V → Ordering)
    (m n : List V) → compared key keys values m n ≤ length m + length n
compared_at_most key keys values m n =
    let count = count_by-le-length (is_compared key keys m n) (best key keys values (m ++ n)) in
    let held = length-best key keys values (m ++ n) in
    let both = length-append m n in
    omega (arith, count, held, both)
