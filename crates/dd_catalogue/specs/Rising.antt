-- Lists that rise by key: what is at a key, what `put` leaves, and that the values at the keys determine the list.
-- These lemmas stand among the definitions because the laws of joins, which the code cites, are made of them.
use Rattle.std.specs.Prelude.{◌≡◌, Bool, true, false, List, [], ◌∷◌, Option, Some, None, cond}
use Rattle.std.specs.Ordering.{is_lt, is_eq, ordering_reverse}
use Rattle.std.specs.Cmp.{IsTotalOrder}
use Rattle.std.specs.declared.cmp.Ordering.{Ordering}
use Rattle.std.specs.declared.cmp.Ordering.TheVariants.{Less, Equal, Greater}
use Rattle.std.proofs.Common.{refl, sym, ◌∙◌, ap, subst}
use Rattle.std.proofs.lemmas.Cmp.{tied_itself}
use Rattle.std.proofs.lemmas.Option.{none-some, same_Some}
use Rattle.dd_elem.specs.Ordered.{TellsApart}
use Rattle.dd_catalogue.specs.Best.{IsAbove, IsRising, at, greater, put}

-- ---- cases that keep their equation

pub by_order : {G : Type 0} (r : Ordering) → (r ≡ Less → G) → (r ≡ Equal → G) → (r ≡ Greater → G) → G
by_order Less below same above = below refl
by_order Equal below same above = same refl
by_order Greater below same above = above refl

pub by_test : {G : Type 0} (b : Bool) → (b ≡ true → G) → (b ≡ false → G) → G
by_test true holds fails = holds refl
by_test false holds fails = fails refl

-- ---- orders

-- an order of keys and one of values, total both, in which only equal ones tie
pub record Orders {V K : Type 0} (key : V → K) (keys : K → K → Ordering) (values : V → V → Ordering) : Type 0 where
  pub keys_total : IsTotalOrder keys
  pub keys_apart : TellsApart keys
  pub values_total : IsTotalOrder values
  pub values_apart : TellsApart values

pub less_turned : {K : Type 0} {R : K → K → Ordering} (t : IsTotalOrder R) (j k : K) → R j k ≡ Less → R k j ≡ Greater
less_turned t j k e = t.antisymm k j ∙ ap ordering_reverse e

pub greater_turned : {K : Type 0} {R : K → K → Ordering} (t : IsTotalOrder R) (j k : K) → R j k ≡ Greater → R k j ≡ Less
greater_turned t j k e = t.antisymm k j ∙ ap ordering_reverse e

pub is_eq_Equal : (r : Ordering) → is_eq r ≡ true → r ≡ Equal
is_eq_Equal Less e = cc
is_eq_Equal Equal e = refl
is_eq_Equal Greater e = cc

-- ---- the greater of two

pub greater_self : {V : Type 0} {R : V → V → Ordering} (t : IsTotalOrder R) (v : V) → greater R v v ≡ v
greater_self t v = rw (tied_itself t v) refl

pub greater_less : {V : Type 0} (R : V → V → Ordering) (v w : V) → R v w ≡ Less → greater R v w ≡ w
greater_less R v w e = rw e refl

pub greater_equal : {V : Type 0} (R : V → V → Ordering) (v w : V) → R v w ≡ Equal → greater R v w ≡ v
greater_equal R v w e = rw e refl

pub greater_greater : {V : Type 0} (R : V → V → Ordering) (v w : V) → R v w ≡ Greater → greater R v w ≡ v
greater_greater R v w e = rw e refl

pub greater_comm : {V : Type 0} {R : V → V → Ordering} (t : IsTotalOrder R) (a : TellsApart R) (v w : V)
    → greater R v w ≡ greater R w v
greater_comm {R = R} t a v w = by_order (R v w)
    (λ e. greater_less R v w e ∙ sym (greater_greater R w v (less_turned t v w e)))
    (λ e. ap (λ x. greater R v x) (sym (a v w e)) ∙ ap (λ x. greater R x v) (a v w e))
    (λ e. greater_greater R v w e ∙ sym (greater_less R w v (greater_turned t v w e)))

pub greater_assoc : {V : Type 0} {R : V → V → Ordering} (t : IsTotalOrder R) (a : TellsApart R) (u v w : V)
    → greater R (greater R u v) w ≡ greater R u (greater R v w)
greater_assoc {R = R} t a u v w = by_order (R u v)
    (λ e. by_order (R v w)
    (λ f. rw (greater_less R u v e, greater_less R v w f) (sym (greater_less R u w (t.trans u v w e f))))
    (λ f. rw (greater_less R u v e, greater_equal R v w f) (sym (greater_less R u v e)))
    (λ f. rw (greater_less R u v e, greater_greater R v w f) (sym (greater_less R u v e))))
    (λ e. ap (λ x. greater R x w) (greater_equal R u v e) ∙ absorbed R t u w
    ∙ ap (λ x. greater R u (greater R x w)) (a u v e))
    (λ e. by_order (R v w)
    (λ f. rw (greater_greater R u v e, greater_less R v w f) refl)
    (λ f. rw (greater_greater R u v e, greater_equal R v w f) (ap (λ x. greater R u x) (sym (a v w f))))
    (λ f. rw (greater_greater R u v e, greater_greater R v w f)
    (greater_greater R u w (less_turned t w u (t.trans w v u (greater_turned t v w f) (greater_turned t u v e)))
    ∙ sym (greater_greater R u v e))))
  where
    absorbed : {V : Type 0} (R : V → V → Ordering) (t : IsTotalOrder R) (u w : V)
        → greater R u w ≡ greater R u (greater R u w)
    absorbed R t u w = by_order (R u w)
        (λ f. rw (greater_less R u w f) (sym (greater_less R u w f)))
        (λ f. rw (greater_equal R u w f) (sym (greater_self t u)))
        (λ f. rw (greater_greater R u w f) (sym (greater_self t u)))

-- ---- the same of values that may be there

abbrev pub either : {V : Type 0} → (V → V → Ordering) → Option V → Option V → Option V
either R None b = b
either R (Some v) None = Some v
either R (Some v) (Some w) = Some (greater R v w)

pub either_none : {V : Type 0} (R : V → V → Ordering) (b : Option V) → either R b None ≡ b
either_none R None = refl
either_none R (Some v) = refl

pub either_self : {V : Type 0} {R : V → V → Ordering} (t : IsTotalOrder R) (b : Option V) → either R b b ≡ b
either_self t None = refl
either_self t (Some v) = ap Some (greater_self t v)

pub either_comm : {V : Type 0} {R : V → V → Ordering} (t : IsTotalOrder R) (a : TellsApart R) (b c : Option V)
    → either R b c ≡ either R c b
either_comm {R = R} t a None c = sym (either_none R c)
either_comm t a (Some v) None = refl
either_comm t a (Some v) (Some w) = ap Some (greater_comm t a v w)

pub either_assoc : {V : Type 0} {R : V → V → Ordering} (t : IsTotalOrder R) (a : TellsApart R) (b c d : Option V)
    → either R (either R b c) d ≡ either R b (either R c d)
either_assoc t a None c d = refl
either_assoc t a (Some u) None d = refl
either_assoc t a (Some u) (Some v) None = refl
either_assoc t a (Some u) (Some v) (Some w) = ap Some (greater_assoc t a u v w)

pub either_swap : {V : Type 0} {R : V → V → Ordering} (t : IsTotalOrder R) (a : TellsApart R) (b c d : Option V)
    → either R b (either R c d) ≡ either R c (either R b d)
either_swap {R = R} t a b c d =
    sym (either_assoc t a b c d) ∙ ap (λ x. either R x d) (either_comm t a b c) ∙ either_assoc t a c b d

-- ---- what is at a key

-- the value, where it has the key
abbrev pub one : {V K : Type 0} → (V → K) → (K → K → Ordering) → K → V → Option V
one key keys k v = cond (is_eq (keys (key v) k)) (Some v) None

pub above_none : {V K : Type 0} (key : V → K) {keys : K → K → Ordering} (t : IsTotalOrder keys) (k : K) (m : List V)
    → IsAbove key keys k m → at key keys m k ≡ None
above_none key t k [] h = refl
above_none key t k (w ∷ m) h = rw (less_turned t k (key w) h.0) (above_none key t k m h.1)

pub above_trans : {V K : Type 0} (key : V → K) {keys : K → K → Ordering} (t : IsTotalOrder keys) (j k : K) (m : List V)
    → keys j k ≡ Less → IsAbove key keys k m → IsAbove key keys j m
above_trans key t j k [] e h = tt
above_trans key t j k (w ∷ m) e h = (t.trans j k (key w) e h.0, above_trans key t j k m e h.1)

pub at-cons : {V K : Type 0} {key : V → K} {keys : K → K → Ordering} {values : V → V → Ordering}
    (o : Orders key keys values) (k : K) (v : V) (m : List V)
    → IsAbove key keys (key v) m → at key keys (v ∷ m) k ≡ either values (one key keys k v) (at key keys m k)
at-cons {key = key} {keys = keys} {values = values} o k v m h = by_test (is_eq (keys (key v) k))
    (λ e. let same : key v ≡ k = o.keys_apart (key v) k (is_eq_Equal (keys (key v) k) e) in
    rw e (ap (λ x. either values (Some v) x)
    (sym (above_none key o.keys_total k m (subst (λ x. IsAbove key keys x m) same h)))))
    (λ e. rw e refl)

-- values with one key: the greater one stands for both
pub one-greater : {V K : Type 0} (key : V → K) (keys : K → K → Ordering) (values : V → V → Ordering) (k : K) (v w : V)
    → key v ≡ key w
    → one key keys k (greater values v w) ≡ either values (one key keys k v) (one key keys k w)
one-greater key keys values k v w same = by_test (is_eq (keys (key w) k))
    (λ e. let f : is_eq (keys (key v) k) ≡ true = ap (λ x. is_eq (keys x k)) same ∙ e in
    by_test (is_lt (values v w)) (λ g. rw (g, e, f) (rw g refl)) (λ g. rw (g, e, f) (rw g refl)))
    (λ e. let f : is_eq (keys (key v) k) ≡ false = ap (λ x. is_eq (keys x k)) same ∙ e in
    by_test (is_lt (values v w)) (λ g. rw (g, e, f) refl) (λ g. rw (g, e, f) refl))

pub greater-key : {V K : Type 0} (key : V → K) (values : V → V → Ordering) (v w : V) → key v ≡ key w
    → key (greater values v w) ≡ key w
greater-key key values v w same = by_test (is_lt (values v w)) (λ g. rw g refl) (λ g. rw g same)

-- ---- put

pub above-put : {V K : Type 0} {key : V → K} {keys : K → K → Ordering} {values : V → V → Ordering}
    (o : Orders key keys values) (k : K) (v : V) (m : List V)
    → keys k (key v) ≡ Less → IsAbove key keys k m → IsAbove key keys k (put key keys values v m)
above-put o k v [] e h = (e, tt)
above-put {key = key} {keys = keys} {values = values} o k v (w ∷ m) e h = by_order (keys (key v) (key w))
    (λ f. rw f (e, h))
    (λ f. rw f (
      subst (λ x. keys k x ≡ Less)
          (sym (greater-key key values w v (sym (o.keys_apart (key v) (key w) f)))) e,
      h.1,
    ))
    (λ f. rw f (h.0, above-put o k v m e h.1))

pub rising-put : {V K : Type 0} {key : V → K} {keys : K → K → Ordering} {values : V → V → Ordering}
    (o : Orders key keys values) (v : V) (m : List V)
    → IsRising key keys m → IsRising key keys (put key keys values v m)
rising-put o v [] h = (tt, tt)
rising-put {key = key} {keys = keys} {values = values} o v (w ∷ m) h = by_order (keys (key v) (key w))
    (λ f. rw f ((f, above_trans key o.keys_total (key v) (key w) m f h.0), h))
    (λ f. let back : key w ≡ key v = sym (o.keys_apart (key v) (key w) f) in
    let same : key w ≡ key (greater values w v) = back ∙ sym (greater-key key values w v back) in
    rw f (subst (λ x. IsAbove key keys x m) same h.0, h.1))
    (λ f. rw f (above-put o (key w) v m (greater_turned o.keys_total (key v) (key w) f) h.0, rising-put o v m h.1))

pub at-put : {V K : Type 0} {key : V → K} {keys : K → K → Ordering} {values : V → V → Ordering}
    (o : Orders key keys values) (k : K) (v : V) (m : List V)
    → IsRising key keys m → at key keys (put key keys values v m) k ≡ either values (one key keys k v) (at key keys m k)
at-put o k v [] h = at-cons o k v [] tt
at-put {key = key} {keys = keys} {values = values} o k v (w ∷ m) h = by_order (keys (key v) (key w))
    (λ f. rw f (at-cons o k v (w ∷ m) (f, above_trans key o.keys_total (key v) (key w) m f h.0)))
    (λ f. let back : key w ≡ key v = sym (o.keys_apart (key v) (key w) f) in
    let same : key w ≡ key (greater values w v) = back ∙ sym (greater-key key values w v back) in
    rw f (at-cons o k (greater values w v) m (subst (λ x. IsAbove key keys x m) same h.0)
    ∙ ap (λ x. either values x (at key keys m k)) (one-greater key keys values k w v back)
    ∙ either_assoc o.values_total o.values_apart (one key keys k w) (one key keys k v) (at key keys m k)
    ∙ either_swap o.values_total o.values_apart (one key keys k w) (one key keys k v) (at key keys m k)
    ∙ ap (λ x. either values (one key keys k v) x) (sym (at-cons o k w m h.0))))
    (λ f. rw f (at-cons o k w (put key keys values v m)
    (above-put o (key w) v m (greater_turned o.keys_total (key v) (key w) f) h.0)
    ∙ ap (λ x. either values (one key keys k w) x) (at-put o k v m h.1)
    ∙ either_swap o.values_total o.values_apart (one key keys k w) (one key keys k v) (at key keys m k)
    ∙ ap (λ x. either values (one key keys k v) x) (sym (at-cons o k w m h.0))))

-- ---- the values at the keys determine a list that rises

some_not_none : {A G : Type 0} (a : A) → ◌≡◌ {A = Option A} (Some a) None → G
some_not_none a e = absurd (none-some a (sym e))

-- what is at a key above the first one is in the rest
at-rest : {V K : Type 0} (key : V → K) (keys : K → K → Ordering) (v : V) (m : List V) (k : K)
    → is_eq (keys (key v) k) ≡ false
    → at key keys (v ∷ m) k ≡ at key keys m k
at-rest key keys v m k e = rw e refl

pub at-first : {V K : Type 0} (key : V → K) {keys : K → K → Ordering} (t : IsTotalOrder keys) (v : V) (m : List V)
    → at key keys (v ∷ m) (key v) ≡ Some v
at-first key t v m = rw (tied_itself t (key v)) refl

-- the rests of two lists with one first value agree where the lists do
same_rests : {V K : Type 0} {key : V → K} {keys : K → K → Ordering} {values : V → V → Ordering}
    (o : Orders key keys values) (v : V) (m n : List V)
    → IsAbove key keys (key v) m → IsAbove key keys (key v) n
    → ((k : K) → at key keys (v ∷ m) k ≡ at key keys (v ∷ n) k) → (k : K) → at key keys m k ≡ at key keys n k
same_rests {key = key} {keys = keys} o v m n above above' h k = by_test (is_eq (keys (key v) k))
    (λ e. let same : key v ≡ k = o.keys_apart (key v) k (is_eq_Equal (keys (key v) k) e) in
    above_none key o.keys_total k m (subst (λ x. IsAbove key keys x m) same above)
    ∙ sym (above_none key o.keys_total k n (subst (λ x. IsAbove key keys x n) same above')))
    (λ e. sym (at-rest key keys v m k e) ∙ h k ∙ at-rest key keys v n k e)

pub same_rising : {V K : Type 0} {key : V → K} {keys : K → K → Ordering} {values : V → V → Ordering}
    (o : Orders key keys values) (m n : List V)
    → IsRising key keys m → IsRising key keys n → ((k : K) → at key keys m k ≡ at key keys n k) → m ≡ n
same_rising o [] [] up up' h = refl
same_rising {key = key} o [] (w ∷ n) up up' h = some_not_none w (sym (at-first key o.keys_total w n) ∙ sym (h (key w)))
same_rising {key = key} o (v ∷ m) [] up up' h = some_not_none v (sym (at-first key o.keys_total v m) ∙ h (key v))
same_rising {key = key} {keys = keys} o (v ∷ m) (w ∷ n) up up' h = by_order (keys (key v) (key w))
    (λ e. some_not_none v (sym (at-first key o.keys_total v m) ∙ h (key v)
    ∙ above_none key o.keys_total (key v) (w ∷ n) (e, above_trans key o.keys_total (key v) (key w) n e up'.0)))
    (λ e. let same : key v ≡ key w = o.keys_apart (key v) (key w) e in
    let first : Some v ≡ Some w = sym (at-first key o.keys_total v m) ∙ ap (λ x. at key keys (v ∷ m) x) same ∙ h (key w)
    ∙ at-first key o.keys_total w n in
    let is : w ≡ v = same_Some w v (sym first) in
    let above' : IsAbove key keys (key v) n = subst (λ x. IsAbove key keys (key x) n) is up'.0 in
    let h' : (k : _) → at key keys (v ∷ m) k ≡ at key keys (v ∷ n) k = λ k. h k ∙ ap (λ x. at key keys (x ∷ n) k) is in
    ap (λ x. v ∷ x) (same_rising o m n up.1 up'.1 (same_rests o v m n up.0 above' h')) ∙ ap (λ x. x ∷ n) (sym is))
    (λ e. let f = greater_turned o.keys_total (key v) (key w) e in
    some_not_none w (sym (at-first key o.keys_total w n) ∙ sym (h (key w))
    ∙ above_none key o.keys_total (key w) (v ∷ m) (f, above_trans key o.keys_total (key w) (key v) m f up.0)))
