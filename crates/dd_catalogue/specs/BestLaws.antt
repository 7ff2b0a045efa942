-- The laws of the best of a set. They stand among the definitions because `catalogue_laws`, which the code cites, is
-- made of them.
use Rattle.std.specs.Prelude.{◌≡◌, List, [], ◌∷◌, ◌++◌, Option, None}
use Rattle.std.specs.declared.cmp.Ordering.{Ordering}
use Rattle.std.proofs.Common.{refl, sym, ◌∙◌, ap, append_assoc}
use Rattle.dd_catalogue.specs.Best.{IsRising, at, best}
use Rattle.dd_catalogue.specs.Rising.{Orders, either, either_self, either_comm, either_assoc, one, at-cons, rising-put}
use Rattle.dd_catalogue.specs.Rising.{at-put, same_rising}

-- ---- the greatest at a key, of any list

abbrev pub best_at : {V K : Type 0} → (V → K) → (K → K → Ordering) → (V → V → Ordering) → List V → K → Option V
best_at key keys values [] k = None
best_at key keys values (v ∷ s) k = either values (one key keys k v) (best_at key keys values s k)

pub rising-best : {V K : Type 0} {key : V → K} {keys : K → K → Ordering} {values : V → V → Ordering}
    (o : Orders key keys values) (s : List V)
    → IsRising key keys (best key keys values s)
rising-best o [] = tt
rising-best {key = key} {keys = keys} {values = values} o (v ∷ s) =
    rising-put o v (best key keys values s) (rising-best o s)

pub at-best : {V K : Type 0} {key : V → K} {keys : K → K → Ordering} {values : V → V → Ordering}
    (o : Orders key keys values) (s : List V) (k : K)
    → at key keys (best key keys values s) k ≡ best_at key keys values s k
at-best o [] k = refl
at-best {key = key} {keys = keys} {values = values} o (v ∷ s) k =
    at-put o k v (best key keys values s) (rising-best o s)
    ∙ ap (λ x. either values (one key keys k v) x) (at-best o s k)

pub best_at-append : {V K : Type 0} {key : V → K} {keys : K → K → Ordering} {values : V → V → Ordering}
    (o : Orders key keys values) (s t : List V) (k : K)
    → best_at key keys values (s ++ t) k ≡ either values (best_at key keys values s k) (best_at key keys values t k)
best_at-append o [] t k = refl
best_at-append {key = key} {keys = keys} {values = values} o (v ∷ s) t k =
    ap (λ x. either values (one key keys k v) x) (best_at-append o s t k)
    ∙ sym (either_assoc o.values_total o.values_apart (one key keys k v) (best_at key keys values s k)
    (best_at key keys values t k))

pub best_at-rising : {V K : Type 0} {key : V → K} {keys : K → K → Ordering} {values : V → V → Ordering}
    (o : Orders key keys values) (m : List V) (k : K)
    → IsRising key keys m → best_at key keys values m k ≡ at key keys m k
best_at-rising o [] k up = refl
best_at-rising {key = key} {keys = keys} {values = values} o (v ∷ m) k up =
    ap (λ x. either values (one key keys k v) x) (best_at-rising o m k up.1) ∙ sym (at-cons o k v m up.0)

-- two sets with the same greatest at each key have one best
pub same_best_at : {V K : Type 0} {key : V → K} {keys : K → K → Ordering} {values : V → V → Ordering}
    (o : Orders key keys values) (s t : List V)
    → ((k : K) → best_at key keys values s k ≡ best_at key keys values t k)
    → best key keys values s ≡ best key keys values t
same_best_at {key = key} {keys = keys} {values = values} o s t h =
    same_rising o (best key keys values s) (best key keys values t) (rising-best o s) (rising-best o t)
    (λ k. at-best o s k ∙ h k ∙ sym (at-best o t k))

-- a list that rises is its own best
pub best_of_rising : {V K : Type 0} {key : V → K} {keys : K → K → Ordering} {values : V → V → Ordering}
    (o : Orders key keys values) (m : List V)
    → IsRising key keys m → best key keys values m ≡ m
best_of_rising {key = key} {keys = keys} {values = values} o m up =
    same_rising o (best key keys values m) m (rising-best o m) up (λ k. at-best o m k ∙ best_at-rising o m k up)

pub best_at-best : {V K : Type 0} {key : V → K} {keys : K → K → Ordering} {values : V → V → Ordering}
    (o : Orders key keys values) (s : List V) (k : K)
    → best_at key keys values (best key keys values s) k ≡ best_at key keys values s k
best_at-best {key = key} {keys = keys} {values = values} o s k =
    best_at-rising o (best key keys values s) k (rising-best o s) ∙ at-best o s k

pub best_left : {V K : Type 0} {key : V → K} {keys : K → K → Ordering} {values : V → V → Ordering}
    (o : Orders key keys values) (s t : List V)
    → best key keys values (best key keys values s ++ t) ≡ best key keys values (s ++ t)
best_left {key = key} {keys = keys} {values = values} o s t =
    same_best_at o (best key keys values s ++ t) (s ++ t) (λ k.
    best_at-append o (best key keys values s) t k
    ∙ ap (λ x. either values x (best_at key keys values t k)) (best_at-best o s k) ∙ sym (best_at-append o s t k))

pub best_right : {V K : Type 0} {key : V → K} {keys : K → K → Ordering} {values : V → V → Ordering}
    (o : Orders key keys values) (s t : List V)
    → best key keys values (s ++ best key keys values t) ≡ best key keys values (s ++ t)
best_right {key = key} {keys = keys} {values = values} o s t =
    same_best_at o (s ++ best key keys values t) (s ++ t) (λ k.
    best_at-append o s (best key keys values t) k
    ∙ ap (λ x. either values (best_at key keys values s k) x) (best_at-best o t k) ∙ sym (best_at-append o s t k))

-- ---- the join of two lists that rise

pub best_comm : {V K : Type 0} {key : V → K} {keys : K → K → Ordering} {values : V → V → Ordering}
    (o : Orders key keys values) (m n : List V)
    → best key keys values (m ++ n) ≡ best key keys values (n ++ m)
best_comm {key = key} {keys = keys} {values = values} o m n = same_best_at o (m ++ n) (n ++ m) (λ k.
    best_at-append o m n k ∙ either_comm o.values_total o.values_apart (best_at key keys values m k)
    (best_at key keys values n k) ∙ sym (best_at-append o n m k))

pub best_assoc : {V K : Type 0} {key : V → K} {keys : K → K → Ordering} {values : V → V → Ordering}
    (o : Orders key keys values) (l m n : List V)
    → best key keys values (best key keys values (l ++ m) ++ n)
    ≡ best key keys values (l ++ best key keys values (m ++ n))
best_assoc {key = key} {keys = keys} {values = values} o l m n =
    best_left o (l ++ m) n ∙ ap (λ x. best key keys values x) (append_assoc l m n) ∙ sym (best_right o l (m ++ n))

pub best_self : {V K : Type 0} {key : V → K} {keys : K → K → Ordering} {values : V → V → Ordering}
    (o : Orders key keys values) (m : List V)
    → IsRising key keys m → best key keys values (m ++ m) ≡ m
best_self {key = key} {keys = keys} {values = values} o m up = same_best_at o (m ++ m) m (λ k.
    best_at-append o m m k ∙ either_self o.values_total (best_at key keys values m k)) ∙ best_of_rising o m up
