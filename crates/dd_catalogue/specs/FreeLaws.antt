-- The best of what is left where keys are withdrawn. These lemmas stand among the definitions because
-- `catalogue_laws`, which the code cites, is made of them.
use Rattle.std.specs.Prelude.{◌≡◌, Bool, true, false, not, cond, ◌&&◌, ◌||◌, List, [], ◌∷◌, ◌++◌, Option, Some, None}
use Rattle.std.specs.Prelude.{filter, is_some}
use Rattle.std.specs.List.{list_any}
use Rattle.std.specs.Ordering.{is_eq}
use Rattle.std.specs.declared.cmp.Ordering.{Ordering}
use Rattle.std.proofs.Common.{refl, sym, ◌∙◌, ap}
use Rattle.std.proofs.lemmas.List.Elements.{filter_agree}
use Rattle.dd_catalogue.specs.Best.{IsAbove, IsRising, best}
use Rattle.dd_catalogue.specs.BestLaws.{best_at, best_at-append, best_at-best, best_comm, best_of_rising, best_self}
use Rattle.dd_catalogue.specs.BestLaws.{rising-best, same_best_at}
use Rattle.dd_catalogue.specs.Free.{is_free, free, set_of, best_free}
use Rattle.dd_catalogue.specs.Rising.{Orders, by_test, either, is_eq_Equal, one}

-- ---- withdrawn keys

not_or : (a b : Bool) → not (a || b) ≡ (not a && not b)
not_or true b = refl
not_or false b = refl

and_assoc : (a b c : Bool) → ((a && b) && c) ≡ (a && (b && c))
and_assoc true b c = refl
and_assoc false b c = refl

-- withdrawn in neither
pub free-append : {K : Type 0} (keys : K → K → Ordering) (w u : List K) (k : K)
    → is_free keys (w ++ u) k ≡ (is_free keys w k && is_free keys u k)
free-append keys [] u k = refl
free-append keys (x ∷ w) u k =
    not_or (is_eq (keys x k)) (list_any (λ y. is_eq (keys y k)) (w ++ u))
    ∙ ap (λ b. not (is_eq (keys x k)) && b) (free-append keys w u k)
    ∙ sym (and_assoc (not (is_eq (keys x k))) (is_free keys w k) (is_free keys u k))
    ∙ ap (λ b. b && is_free keys u k) (sym (not_or (is_eq (keys x k)) (list_any (λ y. is_eq (keys y k)) w)))

-- ---- the greatest at a key that is not withdrawn

-- a value whose key passes where k does not, or the other way round, has another key
other_key : {V K : Type 0} {key : V → K} {keys : K → K → Ordering} {values : V → V → Ordering}
    (o : Orders key keys values) (test : K → Bool) (k : K) (v : V) (a b : Bool)
    → test (key v) ≡ a → test k ≡ b → (a ≡ b → ⊥) → one key keys k v ≡ None
other_key {key = key} {keys = keys} o test k v a b e f apart = by_test (is_eq (keys (key v) k))
    (λ g. absurd (apart (sym e ∙ ap test (o.keys_apart (key v) k (is_eq_Equal (keys (key v) k) g)) ∙ f)))
    (λ g. rw g refl)

-- a filter by the key passes the greatest at a key, or all values there
pub best_at-filter : {V K : Type 0} {key : V → K} {keys : K → K → Ordering} {values : V → V → Ordering}
    (o : Orders key keys values) (test : K → Bool) (s : List V) (k : K)
    → best_at key keys values (filter (λ v. test (key v)) s) k ≡ cond (test k) (best_at key keys values s k) None
best_at-filter o test [] k = by_test (test k) (λ e. rw e refl) (λ e. rw e refl)
best_at-filter {key = key} {keys = keys} {values = values} o test (v ∷ s) k = by_test (test (key v))
    (λ e. by_test (test k)
    (λ f. rw (e, f) (ap (λ x. either values (one key keys k v) x) (best_at-filter o test s k ∙ rw f refl)))
    (λ f. rw (e, f) (ap (λ x. either values x (best_at key keys values (filter (λ w. test (key w)) s) k))
    (other_key o test k v true false e f (λ h. cc)) ∙ best_at-filter o test s k ∙ rw f refl)))
    (λ e. by_test (test k)
    (λ f. rw (e, f) (best_at-filter o test s k ∙ rw f refl
    ∙ ap (λ x. either values x (best_at key keys values s k)) (sym (other_key o test k v false true e f (λ h. cc)))))
    (λ f. rw (e, f) (best_at-filter o test s k ∙ rw f refl)))

-- what is kept of what two sets keep is what is kept of both
pub kept_of_kept : {V K : Type 0} {key : V → K} {keys : K → K → Ordering} {values : V → V → Ordering}
    (o : Orders key keys values) (s t : List V) (w u : List K)
    → best_free key keys values (best_free key keys values s w ++ best_free key keys values t u) (w ++ u)
    ≡ best_free key keys values (s ++ t) (w ++ u)
kept_of_kept {key = key} {keys = keys} {values = values} o s t w u =
    let m = best key keys values (free key keys w s) in
    let n = best key keys values (free key keys u t) in
    same_best_at o (free key keys (w ++ u) (m ++ n)) (free key keys (w ++ u) (s ++ t)) (λ k.
    best_at-filter o (is_free keys (w ++ u)) (m ++ n) k
    ∙ ap (λ x. cond (is_free keys (w ++ u) k) x None) (best_at-append o m n k)
    ∙ ap (λ x. cond (is_free keys (w ++ u) k) (either values x (best_at key keys values n k)) None)
    (best_at-best o (free key keys w s) k ∙ best_at-filter o (is_free keys w) s k)
    ∙ ap (λ x. cond (is_free keys (w ++ u) k)
    (either values (cond (is_free keys w k) (best_at key keys values s k) None) x) None)
    (best_at-best o (free key keys u t) k ∙ best_at-filter o (is_free keys u) t k)
    ∙ once values (best_at key keys values s k) (best_at key keys values t k) (is_free keys (w ++ u) k)
    (is_free keys w k) (is_free keys u k) (free-append keys w u k)
    ∙ ap (λ x. cond (is_free keys (w ++ u) k) x None) (sym (best_at-append o s t k))
    ∙ sym (best_at-filter o (is_free keys (w ++ u)) (s ++ t) k))
  where
    once : {V : Type 0} (values : V → V → Ordering) (b c : Option V) (all one other : Bool)
        → all ≡ (one && other) → cond all (either values (cond one b None) (cond other c None)) None
        ≡ cond all (either values b c) None
    once values b c all true true e = refl
    once values b c all true false e = rw e refl
    once values b c all false other e = rw e refl

-- ---- the withdrawn keys as a set

keys_ordered : {V K : Type 0} {key : V → K} {keys : K → K → Ordering} {values : V → V → Ordering}
    → Orders key keys values → Orders (λ u. u) keys keys
keys_ordered o = record {
  keys_total = o.keys_total;
  keys_apart = o.keys_apart;
  values_total = o.keys_total;
  values_apart = o.keys_apart;
}

some_either : {V : Type 0} (values : V → V → Ordering) (b c : Option V)
    → is_some (either values b c) ≡ (is_some b || is_some c)
some_either values None c = refl
some_either values (Some v) None = refl
some_either values (Some v) (Some w) = refl

some_cond : {V : Type 0} (b : Bool) (v : V) → b ≡ is_some (cond b (Some v) None)
some_cond true v = refl
some_cond false v = refl

there : {K : Type 0} (keys : K → K → Ordering) (w : List K) (k : K)
    → list_any (λ u. is_eq (keys u k)) w ≡ is_some (best_at (λ u. u) keys keys w k)
there keys [] k = refl
there keys (x ∷ w) k =
    ap (λ b. is_eq (keys x k) || b) (there keys w k)
    ∙ ap (λ b. b || is_some (best_at (λ u. u) keys keys w k)) (some_cond (is_eq (keys x k)) x)
    ∙ sym (some_either keys (one (λ u. u) keys k x) (best_at (λ u. u) keys keys w k))

-- what is free of a set is free of the list that it was made of
pub free_of_set : {K : Type 0} {keys : K → K → Ordering} (o : Orders (λ u. u) keys keys) (w : List K) (k : K)
    → is_free keys (set_of keys w) k ≡ is_free keys w k
free_of_set {keys = keys} o w k =
    ap not (there keys (set_of keys w) k ∙ ap (λ b. is_some b) (best_at-best o w k) ∙ sym (there keys w k))

-- ---- what is left rises

above-free : {V K : Type 0} (key : V → K) (keys : K → K → Ordering) (test : V → Bool) (k : K) (m : List V)
    → IsAbove key keys k m → IsAbove key keys k (filter test m)
above-free key keys test k [] h = tt
above-free key keys test k (v ∷ m) h = by_test (test v)
    (λ e. rw e (h.0, above-free key keys test k m h.1))
    (λ e. rw e (above-free key keys test k m h.1))

pub rising-filter : {V K : Type 0} (key : V → K) (keys : K → K → Ordering) (test : V → Bool) (m : List V)
    → IsRising key keys m → IsRising key keys (filter test m)
rising-filter key keys test [] h = tt
rising-filter key keys test (v ∷ m) h = by_test (test v)
    (λ e. rw e (above-free key keys test (key v) m h.0, rising-filter key keys test m h.1))
    (λ e. rw e (rising-filter key keys test m h.1))

-- the best of what is left is what is left of the best
pub free_of_best : {V K : Type 0} {key : V → K} {keys : K → K → Ordering} {values : V → V → Ordering}
    (o : Orders key keys values) (s : List V) (w : List K)
    → best_free key keys values s w ≡ free key keys w (best key keys values s)
free_of_best {key = key} {keys = keys} {values = values} o s w =
    same_best_at o (free key keys w s) (free key keys w (best key keys values s)) (λ k.
    best_at-filter o (is_free keys w) s k
    ∙ ap (λ x. cond (is_free keys w k) x None) (sym (best_at-best o s k))
    ∙ sym (best_at-filter o (is_free keys w) (best key keys values s) k))
    ∙ best_of_rising o (free key keys w (best key keys values s))
    (rising-filter key keys (λ v. is_free keys w (key v)) (best key keys values s) (rising-best o s))

-- ---- what is kept depends on what is free alone

pub same_free : {V K : Type 0} (key : V → K) (keys : K → K → Ordering) (values : V → V → Ordering) (s : List V)
    (w u : List K)
    → ((k : K) → is_free keys w k ≡ is_free keys u k)
    → best_free key keys values s w ≡ best_free key keys values s u
same_free key keys values s w u same =
    ap (λ x. best key keys values x)
    (filter_agree (λ v. is_free keys w (key v)) (λ v. is_free keys u (key v)) (λ v. same (key v)) s)

-- the same where the withdrawn keys stand as sets
pub kept_of_kept_sets : {V K : Type 0} {key : V → K} {keys : K → K → Ordering} {values : V → V → Ordering}
    (o : Orders key keys values) (s t : List V) (w u : List K)
    → best_free key keys values (best_free key keys values s w ++ best_free key keys values t u)
    (set_of keys w ++ set_of keys u)
    ≡ best_free key keys values (s ++ t) (w ++ u)
kept_of_kept_sets {key = key} {keys = keys} {values = values} o s t w u =
    same_free key keys values (best_free key keys values s w ++ best_free key keys values t u)
    (set_of keys w ++ set_of keys u) (w ++ u) (λ k.
    free-append keys (set_of keys w) (set_of keys u) k
    ∙ ap (λ b. b && is_free keys (set_of keys u) k) (free_of_set (keys_ordered o) w k)
    ∙ ap (λ b. is_free keys w k && b) (free_of_set (keys_ordered o) u k)
    ∙ sym (free-append keys w u k))
    ∙ kept_of_kept o s t w u

and_comm : (a b : Bool) → (a && b) ≡ (b && a)
and_comm true true = refl
and_comm true false = refl
and_comm false true = refl
and_comm false false = refl

pub kept_comm : {V K : Type 0} {key : V → K} {keys : K → K → Ordering} {values : V → V → Ordering}
    (o : Orders key keys values) (s t : List V) (w u : List K)
    → best_free key keys values (s ++ t) (w ++ u) ≡ best_free key keys values (t ++ s) (u ++ w)
kept_comm {key = key} {keys = keys} {values = values} o s t w u =
    free_of_best o (s ++ t) (w ++ u)
    ∙ ap (λ m. free key keys (w ++ u) m) (best_comm o s t)
    ∙ sym (free_of_best o (t ++ s) (w ++ u))
    ∙ same_free key keys values (t ++ s) (w ++ u) (u ++ w) (λ k.
    free-append keys w u k ∙ and_comm (is_free keys w k) (is_free keys u k) ∙ sym (free-append keys u w k))

and_self : (b : Bool) → (b && b) ≡ b
and_self true = refl
and_self false = refl

-- a list that rises and has no withdrawn key is what it keeps
pub kept_itself : {V K : Type 0} {key : V → K} {keys : K → K → Ordering} {values : V → V → Ordering}
    (o : Orders key keys values) (m : List V) (w : List K)
    → IsRising key keys m → free key keys w m ≡ m → best_free key keys values m w ≡ m
kept_itself {key = key} {keys = keys} {values = values} o m w up all =
    ap (λ x. best key keys values x) all ∙ best_of_rising o m up

pub kept_twice : {V K : Type 0} {key : V → K} {keys : K → K → Ordering} {values : V → V → Ordering}
    (o : Orders key keys values) (m : List V) (w : List K)
    → IsRising key keys m → free key keys w m ≡ m → best_free key keys values (m ++ m) (w ++ w) ≡ m
kept_twice {key = key} {keys = keys} {values = values} o m w up all =
    free_of_best o (m ++ m) (w ++ w)
    ∙ ap (λ x. free key keys (w ++ w) x) (best_self o m up)
    ∙ filter_agree (λ v. is_free keys (w ++ w) (key v)) (λ v. is_free keys w (key v))
    (λ v. free-append keys w w (key v) ∙ and_self (is_free keys w (key v))) m
    ∙ all

-- what is kept has no withdrawn key
pub kept_is_free : {V K : Type 0} {key : V → K} {keys : K → K → Ordering} {values : V → V → Ordering}
    (o : Orders key keys values) (s : List V) (w : List K)
    → free key keys (set_of keys w) (best_free key keys values s w) ≡ best_free key keys values s w
kept_is_free {key = key} {keys = keys} {values = values} o s w =
    filter_agree (λ v. is_free keys (set_of keys w) (key v)) (λ v. is_free keys w (key v))
    (λ v. free_of_set (keys_ordered o) w (key v)) (best_free key keys values s w)
    ∙ ap (λ m. free key keys w m) (free_of_best o s w)
    ∙ filter_twice (λ v. is_free keys w (key v)) (best key keys values s)
    ∙ sym (free_of_best o s w)
  where
    filter_twice : {V : Type 0} (test : V → Bool) (m : List V) → filter test (filter test m) ≡ filter test m
    filter_twice test [] = refl
    filter_twice test (v ∷ m) = by_test (test v)
        (λ e. rw (e, e) (ap (λ x. v ∷ x) (filter_twice test m)))
        (λ e. rw e (filter_twice test m))
