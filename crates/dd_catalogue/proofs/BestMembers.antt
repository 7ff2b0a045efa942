-- The best of a set depends on its members alone: the function meets the relation, and the relation has one answer.
use Rattle.std.specs.Prelude.{◌≡◌, true, false, List, [], ◌∷◌, Some}
use Rattle.std.specs.Ordering.{is_lt, is_eq}
use Rattle.std.specs.Cmp.{IsTotalOrder}
use Rattle.std.specs.declared.cmp.Ordering.{Ordering}
use Rattle.std.specs.declared.cmp.Ordering.TheVariants.{Less, Equal}
use Rattle.std.proofs.Common.{refl, sym, ◌∙◌, ap, subst, inl, inr}
use Rattle.std.proofs.lemmas.Cmp.{tied_itself}
use Rattle.std.proofs.lemmas.Option.{none-some, same_Some}
use Rattle.dd_catalogue.specs.Best.{IsAbove, IsRising, at, greater, best, SameMembers, IsGreatest, IsBest}
use Rattle.dd_catalogue.specs.Rising.{Orders, by_order, by_test, is_eq_Equal, either, either_self}
use Rattle.dd_catalogue.proofs.Cases.{by_option}
use Rattle.dd_catalogue.specs.Rising.{either_comm, either_assoc, either_swap, one, same_rising, less_turned}
use Rattle.dd_catalogue.specs.Rising.{greater_greater, at-first}
use Rattle.dd_catalogue.specs.BestLaws.{best_at, rising-best, at-best, best_at-rising, best_at-best, same_best_at}
use Rattle.dd_catalogue.proofs.Members.{Member, member_of, contained}

-- ---- each member is absorbed

pub absorbed : {V K : Type 0} {key : V → K} {keys : K → K → Ordering} {values : V → V → Ordering}
    (o : Orders key keys values) (k : K) (v : V) (s : List V)
    → Member v s → either values (one key keys k v) (best_at key keys values s k) ≡ best_at key keys values s k
absorbed o k v [] h = absurd h
absorbed {key = key} {keys = keys} {values = values} o k v (w ∷ s) (inl e) =
    ap (λ x. either values (one key keys k x) (best_at key keys values (w ∷ s) k)) (sym e)
    ∙ sym (either_assoc o.values_total o.values_apart (one key keys k w) (one key keys k w)
    (best_at key keys values s k))
    ∙ ap (λ x. either values x (best_at key keys values s k)) (either_self o.values_total (one key keys k w))
absorbed {key = key} {keys = keys} {values = values} o k v (w ∷ s) (inr h) =
    either_swap o.values_total o.values_apart (one key keys k v) (one key keys k w) (best_at key keys values s k)
    ∙ ap (λ x. either values (one key keys k w) x) (absorbed o k v s h)

covered : {V K : Type 0} {key : V → K} {keys : K → K → Ordering} {values : V → V → Ordering}
    (o : Orders key keys values) (k : K) (s t : List V)
    → ((v : V) → Member v t → Member v s) → either values (best_at key keys values t k) (best_at key keys values s k)
    ≡ best_at key keys values s k
covered o k s [] h = refl
covered {key = key} {keys = keys} {values = values} o k s (v ∷ t) h =
    either_assoc o.values_total o.values_apart (one key keys k v) (best_at key keys values t k)
    (best_at key keys values s k)
    ∙ ap (λ x. either values (one key keys k v) x) (covered o k s t (λ w i. h w (inr i)))
    ∙ absorbed o k v s (h v (inl refl))

pub best_of_same : {V K : Type 0} {key : V → K} {keys : K → K → Ordering} {values : V → V → Ordering}
    (o : Orders key keys values) (s t : List V)
    → SameMembers s t → best key keys values s ≡ best key keys values t
best_of_same {key = key} {keys = keys} {values = values} o s t same = same_best_at o s t (λ k.
    sym (covered o k s t (λ v i. member_of v s ((same v).1 (contained v t i))))
    ∙ either_comm o.values_total o.values_apart (best_at key keys values t k) (best_at key keys values s k)
    ∙ covered o k t s (λ v i. member_of v t ((same v).0 (contained v s i))))

-- ---- what the greatest at a key is

best_at_holds : {V K : Type 0} (key : V → K) (keys : K → K → Ordering) (values : V → V → Ordering) (P : V → Type 0)
    (k : K) (s : List V) (v : V)
    → ((w : V) → Member w s → is_eq (keys (key w) k) ≡ true → P w) → best_at key keys values s k ≡ Some v → P v
best_at_holds key keys values P k [] v h e = absurd (none-some v e)
best_at_holds key keys values P k (w ∷ s) v h e =
    let first : is_eq (keys (key w) k) ≡ true → Some w ≡ Some v
    → P v = λ f is. subst P (same_Some w v is) (h w (inl refl) f) in
    let rest : best_at key keys values s k ≡ Some v
    → P v = λ is. best_at_holds key keys values P k s v (λ u i. h u (inr i)) is in
    by_test (is_eq (keys (key w) k))
    (λ f. let is = rw f at e in by_option (best_at key keys values s k)
    (λ g. first f (rw g at is))
    (λ u g. let both = rw g at is in by_test (is_lt (values w u)) (λ l. rest (g ∙ rw l at both))
    (λ l. first f (rw l at both))))
    (λ f. rest (rw f at e))

pub best_at_member : {V K : Type 0} (key : V → K) (keys : K → K → Ordering) (values : V → V → Ordering) (k : K)
    (s : List V) (v : V)
    → best_at key keys values s k ≡ Some v → Member v s
best_at_member key keys values k s v e = best_at_holds key keys values (λ w. Member w s) k s v (λ w i f. i) e

pub best_at_key : {V K : Type 0} {key : V → K} {keys : K → K → Ordering} {values : V → V → Ordering}
    (o : Orders key keys values) (k : K) (s : List V) (v : V)
    → best_at key keys values s k ≡ Some v → key v ≡ k
best_at_key {key = key} {keys = keys} {values = values} o k s v e =
    best_at_holds key keys values (λ w. key w ≡ k) k s v
    (λ w i f. o.keys_apart (key w) k (is_eq_Equal (keys (key w) k) f)) e

not_below : {V : Type 0} {R : V → V → Ordering} (t : IsTotalOrder R) (v w : V) → greater R w v ≡ v
    → is_lt (R v w) ≡ false
not_below {R = R} t v w e = by_order (R v w)
    (λ f. let same : w ≡ v = sym (greater_greater R w v (less_turned t v w f)) ∙ e in
    let itself : R v w ≡ Equal = ap (λ x. R v x) same ∙ tied_itself t v in cc (f, itself))
    (λ f. rw f refl)
    (λ f. rw f refl)

pub one_itself : {V K : Type 0} (key : V → K) {keys : K → K → Ordering} (t : IsTotalOrder keys) (k : K) (v : V)
    → key v ≡ k → one key keys k v ≡ Some v
one_itself key {keys = keys} t k v same =
    let tie : keys (key v) k ≡ Equal = ap (λ x. keys x k) same ∙ tied_itself t k in rw tie refl

pub best_at_greatest : {V K : Type 0} {key : V → K} {keys : K → K → Ordering} {values : V → V → Ordering}
    (o : Orders key keys values) (k : K) (s : List V) (v w : V)
    → best_at key keys values s k ≡ Some v → Member w s → key w ≡ k → is_lt (values v w) ≡ false
best_at_greatest {key = key} {keys = keys} {values = values} o k s v w e i same =
    let all : either values (Some w) (Some v) ≡ Some v =
    ap (λ x. either values x (Some v)) (sym (one_itself key o.keys_total k w same))
    ∙ ap (λ x. either values (one key keys k w) x) (sym e) ∙ absorbed o k w s i ∙ e in
    not_below o.values_total v w (same_Some (greater values w v) v all)

pub is_greatest : {V K : Type 0} {key : V → K} {keys : K → K → Ordering} {values : V → V → Ordering}
    (o : Orders key keys values) (k : K) (s : List V) (v : V)
    → best_at key keys values s k ≡ Some v → IsGreatest key values s v
is_greatest {key = key} {keys = keys} {values = values} o k s v e = record {
  member = contained v s (best_at_member key keys values k s v e);
  greatest = λ w i same. best_at_greatest o k s v w e (member_of w s i) (same ∙ best_at_key o k s v e);
}

pub best_at-greatest : {V K : Type 0} {key : V → K} {keys : K → K → Ordering} {values : V → V → Ordering}
    (o : Orders key keys values) (s : List V) (v : V)
    → IsGreatest key values s v → best_at key keys values s (key v) ≡ Some v
best_at-greatest {key = key} {keys = keys} {values = values} o s v g =
    let all : either values (Some v) (best_at key keys values s (key v)) ≡ best_at key keys values s (key v) =
    ap (λ x. either values x (best_at key keys values s (key v))) (sym (one_itself key o.keys_total (key v) v refl))
    ∙ absorbed o (key v) v s (member_of v s g.member) in
    by_option (best_at key keys values s (key v))
    (λ e. let is = rw e at all in absurd (none-some v (sym is)))
    (λ u e. let is = rw e at all in
    let not = g.greatest u (contained u s (best_at_member key keys values (key v) s u e))
    (best_at_key o (key v) s u e) in
    e ∙ sym (rw not at is))

-- ---- the function meets the relation

pub above_member : {V K : Type 0} (key : V → K) (keys : K → K → Ordering) (k : K) (v : V) (m : List V)
    → IsAbove key keys k m → Member v m → keys k (key v) ≡ Less
above_member key keys k v [] h i = absurd i
above_member key keys k v (w ∷ m) h (inl e) = subst (λ x. keys k (key x) ≡ Less) e h.0
above_member key keys k v (w ∷ m) h (inr i) = above_member key keys k v m h.1 i

pub at-member : {V K : Type 0} (key : V → K) {keys : K → K → Ordering} (t : IsTotalOrder keys) (v : V) (m : List V)
    → IsRising key keys m → Member v m → at key keys m (key v) ≡ Some v
at-member key t v [] up i = absurd i
at-member key {keys = keys} t v (w ∷ m) up (inl e) =
    subst (λ x. at key keys (w ∷ m) (key x) ≡ Some x) e (at-first key t w m)
at-member key {keys = keys} t v (w ∷ m) up (inr i) =
    rw (above_member key keys (key w) v m up.0 i) (at-member key t v m up.1 i)

pub best_is_best : {V K : Type 0} {key : V → K} {keys : K → K → Ordering} {values : V → V → Ordering}
    (o : Orders key keys values) (s : List V)
    → IsBest key keys values s (best key keys values s)
best_is_best {key = key} {keys = keys} {values = values} o s = record {
  rising = rising-best o s;
  each = λ v. (
    (λ c. is_greatest o (key v) s v (sym (at-best o s (key v))
        ∙ at-member key o.keys_total v (best key keys values s) (rising-best o s)
        (member_of v (best key keys values s) c))),
    (λ g. contained v (best key keys values s)
        (best_at_member key keys values (key v) (best key keys values s) v
        (best_at-best o s (key v) ∙ best_at-greatest o s v g))),
  );
}

-- the relation has one answer
pub only_best : {V K : Type 0} {key : V → K} {keys : K → K → Ordering} {values : V → V → Ordering}
    (o : Orders key keys values) (s m : List V)
    → IsBest key keys values s m → m ≡ best key keys values s
only_best {key = key} {keys = keys} {values = values} o s m is =
    same_rising o m (best key keys values s) is.rising (rising-best o s) (λ k.
    by_option (at key keys m k)
    (λ e. by_option (at key keys (best key keys values s) k)
    (λ f. e ∙ sym f)
    (λ u f. let there = sym (at-best o s k) ∙ f in
    let held = member_of u m ((is.each u).1 (is_greatest o k s u there)) in
    absurd (none-some u (sym e ∙ ap (λ x. at key keys m x) (sym (best_at_key o k s u there))
    ∙ at-member key o.keys_total u m is.rising held))))
    (λ v e. let there = best_at-rising o m k is.rising ∙ e in
    let great = (is.each v).0 (contained v m (best_at_member key keys values k m v there)) in
    e ∙ sym (ap (λ x. best_at key keys values s x) (sym (best_at_key o k m v there)) ∙ best_at-greatest o s v great)
    ∙ sym (at-best o s k)))

-- sets with the same members have one best
pub same_best : {V K : Type 0} {key : V → K} {keys : K → K → Ordering} {values : V → V → Ordering}
    (o : Orders key keys values) (s t m n : List V)
    → SameMembers s t → IsBest key keys values s m → IsBest key keys values t n → m ≡ n
same_best o s t m n same left right = only_best o s m left ∙ best_of_same o s t same ∙ sym (only_best o t n right)
