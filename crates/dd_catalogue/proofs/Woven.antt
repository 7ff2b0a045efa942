-- Two lists that rise by key, woven into one: the first value of their best, and how many keys are compared.
use Rattle.std.specs.Prelude.{◌≡◌, ◌<◌, ◌+◌, ◌↔◌, ℕ, List, [], ◌∷◌, ◌++◌, Option, Some, None, Bool, true, false, cond}
use Rattle.std.specs.Prelude.{◌&&◌, length, get_or, IsSome}
use Rattle.std.specs.List.{AllByRecursion, count_by}
use Rattle.std.specs.Option.{option_to_list}
use Rattle.std.specs.Ordering.{is_lt}
use Rattle.std.specs.declared.cmp.Ordering.{Ordering}
use Rattle.std.specs.declared.cmp.Ordering.TheVariants.{Less, Equal, Greater}
use Rattle.std.proofs.Common.{refl, sym, ◌∙◌, ap, subst, arith, append-nil}
use Rattle.std.proofs.lemmas.List.Sums.{sum_by-cons}
use Rattle.std.proofs.lemmas.Cmp.{tied_itself, tied_back}
use Rattle.dd_catalogue.specs.Best.{IsAbove, IsRising, best, put, greater}
use Rattle.dd_catalogue.specs.BestLaws.{best_comm, best_of_rising}
use Rattle.dd_catalogue.specs.Compared.{is_reached, is_compared, compared}
use Rattle.dd_catalogue.specs.Rising.{Orders, by_test, above-put, above_trans, less_turned, greater_turned}
use Rattle.dd_catalogue.specs.Rising.{greater_comm, greater-key}
use Rattle.dd_catalogue.specs.Weaving.{IsStep}

-- ---- the least key

above-best : {V K : Type 0} {key : V → K} {keys : K → K → Ordering} {values : V → V → Ordering}
    (o : Orders key keys values) (k : K) (s : List V)
    → IsAbove key keys k s → IsAbove key keys k (best key keys values s)
above-best o k [] h = tt
above-best {key = key} {keys = keys} {values = values} o k (v ∷ s) h = above-put o k v (best key keys values s) h.0
    (above-best o k s h.1)

above-append : {V K : Type 0} (key : V → K) (keys : K → K → Ordering) (k : K) (m n : List V) → IsAbove key keys k m
    → IsAbove key keys k n → IsAbove key keys k (m ++ n)
above-append key keys k [] n h i = i
above-append key keys k (v ∷ m) n h i = (h.0, above-append key keys k m n h.1 i)

put-first : {V K : Type 0} (key : V → K) (keys : K → K → Ordering) (values : V → V → Ordering) (v : V) (m : List V)
    → IsAbove key keys (key v) m → put key keys values v m ≡ v ∷ m
put-first key keys values v [] h = refl
put-first key keys values v (w ∷ m) h = rw h.0 refl

best-first : {V K : Type 0} {key : V → K} {keys : K → K → Ordering} {values : V → V → Ordering}
    (o : Orders key keys values) (v : V) (s : List V)
    → IsAbove key keys (key v) s → best key keys values (v ∷ s) ≡ v ∷ best key keys values s
best-first {key = key} {keys = keys} {values = values} o v s h = put-first key keys values v (best key keys values s)
    (above-best o (key v) s h)

-- ---- what is compared

count_same : {V : Type 0} (p q : V → Bool) (s : List V) → AllByRecursion (λ v. p v ≡ q v) s
    → count_by p s ≡ count_by q s
count_same p q [] h = refl
count_same p q (v ∷ s) h =
    sum_by-cons (λ x. cond (p x) 1 0) v s ∙ ap (λ b. cond b 1 0 + count_by p s) h.0
    ∙ ap (λ n. cond (q v) 1 0 + n) (count_same p q s h.1) ∙ sym (sum_by-cons (λ x. cond (q x) 1 0) v s)

count_none : {V : Type 0} (p : V → Bool) (s : List V) → ((v : V) → p v ≡ false) → count_by p s ≡ 0
count_none p [] h = refl
count_none p (v ∷ s) h = sum_by-cons (λ x. cond (p x) 1 0) v s ∙ ap (λ b. cond b 1 0 + count_by p s) (h v)
    ∙ ap (λ n. 0 + n) (count_none p s h)

all_so : {V : Type 0} (P Q : V → Type 0) (s : List V) → ((v : V) → P v → Q v) → AllByRecursion P s → AllByRecursion Q s
all_so P Q [] h all = tt
all_so P Q (v ∷ s) h all = (h v all.0, all_so P Q s h all.1)

-- a key above the first one is reached by the rest
beyond : {V K : Type 0} {key : V → K} {keys : K → K → Ordering} {values : V → V → Ordering}
    (o : Orders key keys values) (x : V) (k : K) (m : List V)
    → keys (key x) k ≡ Less → is_reached key keys k (x ∷ m) ≡ is_reached key keys k m
beyond {key = key} o x k m e = rw (less_turned o.keys_total (key x) k e) refl

count_step : {V K : Type 0} (key : V → K) (keys : K → K → Ordering) (values : V → V → Ordering) (m n m' n' : List V)
    (v : V)
    → best key keys values (m ++ n) ≡ v ∷ best key keys values (m' ++ n') → is_compared key keys m n v ≡ true
    → AllByRecursion (λ w. is_compared key keys m n w ≡ is_compared key keys m' n' w) (best key keys values (m' ++ n'))
    → compared key keys values m n ≡ 1 + compared key keys values m' n'
count_step key keys values m n m' n' v is here rest =
    let t = best key keys values (m' ++ n') in
    ap (λ s. count_by (is_compared key keys m n) s) is ∙ sum_by-cons (λ w. cond (is_compared key keys m n w) 1 0) v t
    ∙ ap (λ b. cond b 1 0 + count_by (is_compared key keys m n) t) here
    ∙ ap (λ c. 1 + c) (count_same (is_compared key keys m n) (is_compared key keys m' n') t rest)

-- ---- the steps

pub step_less : {V K : Type 0} {key : V → K} {keys : K → K → Ordering} {values : V → V → Ordering}
    (o : Orders key keys values) (x y : V) (m n : List V)
    → IsRising key keys (x ∷ m) → IsRising key keys (y ∷ n) → keys (key x) (key y) ≡ Less
    → IsStep key keys values (x ∷ m) (y ∷ n) (Some x) m (y ∷ n)
step_less {key = key} {keys = keys} {values = values} o x y m n up up' e =
    let later = above-append key keys (key x) m (y ∷ n) up.0 (
      e,
      above_trans key o.keys_total (key x)
          (key y) n e up'.0,
    ) in
    let is = best-first o x (m ++ y ∷ n) later in
    let tie : keys (key x) (key x) ≡ Equal = tied_itself o.keys_total (key x) in
    let here : is_compared key keys (x ∷ m) (y ∷ n) x ≡ true = rw (tie, e) refl in
    let rest = all_so (λ w. keys (key x) (key w) ≡ Less) (λ w. is_compared key keys (x ∷ m)
    (y ∷ n) w ≡ is_compared key keys m (y ∷ n) w)
    (best key keys values (m ++ y ∷ n)) (λ w h. ap (λ b. b && is_reached key keys (key w) (y ∷ n)) (beyond o x
    (key w) m h)) (above-best o (key x) (m ++ y ∷ n) later) in
    (up.1, up', omega arith, is, count_step key keys values (x ∷ m) (y ∷ n) m (y ∷ n) x is here rest)

pub step_greater : {V K : Type 0} {key : V → K} {keys : K → K → Ordering} {values : V → V → Ordering}
    (o : Orders key keys values) (x y : V) (m n : List V)
    → IsRising key keys (x ∷ m) → IsRising key keys (y ∷ n) → keys (key x) (key y) ≡ Greater
    → IsStep key keys values (x ∷ m) (y ∷ n) (Some y) (x ∷ m) n
step_greater {key = key} {keys = keys} {values = values} o x y m n up up' f =
    let e : keys (key y) (key x) ≡ Less = greater_turned o.keys_total (key x) (key y) f in
    let later = above-append key keys (key y) n (x ∷ m) up'.0 (
      e,
      above_trans key o.keys_total (key y)
          (key x) m e up.0,
    ) in
    let turned = best_comm o n (x ∷ m) in
    let is = best_comm o (x ∷ m) (y ∷ n) ∙ best-first o y (n ++ x ∷ m) later ∙ ap (λ s. y ∷ s) turned in
    let tie : keys (key y) (key y) ≡ Equal = tied_itself o.keys_total (key y) in
    let here : is_compared key keys (x ∷ m) (y ∷ n) y ≡ true = rw (tie, e) refl in
    let rest = all_so (λ w. keys (key y) (key w) ≡ Less) (λ w. is_compared key keys (x ∷ m)
    (y ∷ n) w ≡ is_compared key keys (x ∷ m) n w)
    (best key keys values ((x ∷ m) ++ n)) (λ w h. ap (λ b. is_reached key keys (key w) (x ∷ m) && b) (beyond o y
    (key w) n h))
    (subst (λ s. IsAbove key keys (key y) s) turned (above-best o (key y) (n ++ x ∷ m) later)) in
    (up, up'.1, omega arith, is, count_step key keys values (x ∷ m) (y ∷ n) (x ∷ m) n y is here rest)

pub step_equal : {V K : Type 0} {key : V → K} {keys : K → K → Ordering} {values : V → V → Ordering}
    (o : Orders key keys values) (x y : V) (m n : List V)
    → IsRising key keys (x ∷ m) → IsRising key keys (y ∷ n) → keys (key x) (key y) ≡ Equal
    → IsStep key keys values (x ∷ m) (y ∷ n) (Some (greater values x y)) m n
step_equal {key = key} {keys = keys} {values = values} o x y m n up up' f =
    let same : key x ≡ key y = o.keys_apart (key x) (key y) f in
    let above : IsAbove key keys (key y) m = subst (λ k. IsAbove key keys k m) same up.0 in
    let later = above-append key keys (key y) n m up'.0 above in
    let turned = best_comm o n m in
    let inner = best_comm o m (y ∷ n) ∙ best-first o y (n ++ m) later ∙ ap (λ s. y ∷ s) turned in
    let outer : put key keys values x (y ∷ best key keys values (m ++ n)) ≡ greater values y x ∷ best key keys values
    (m ++ n) = rw f refl in
    let is = ap (λ s. put key keys values x s) inner ∙ outer ∙ ap (λ v. v ∷ best key keys values (m ++ n))
    (greater_comm o.values_total o.values_apart y x) in
    let tie : keys (key y) (key y) ≡ Equal = tied_itself o.keys_total (key y) in
    let back : keys (key y) (key x) ≡ Equal = tied_back o.keys_total (key x) (key y) f in
    let at_y : is_compared key keys (x ∷ m) (y ∷ n) y ≡ true = rw (tie, back) refl in
    let named : key (greater values x y) ≡ key y = greater-key key values x y same in
    let here : is_compared key keys (x ∷ m) (y ∷ n) (greater values x y) ≡ true =
    ap (λ k. is_reached key keys k (x ∷ m) && is_reached key keys k (y ∷ n)) named ∙ at_y in
    let rest = all_so (λ w. keys (key y) (key w) ≡ Less) (λ w. is_compared key keys (x ∷ m)
    (y ∷ n) w ≡ is_compared key keys m n w)
    (best key keys values (m ++ n))
    (λ w h. ap (λ b. b && is_reached key keys (key w) (y ∷ n)) (beyond o x (key w) m (subst (λ k. keys k
    (key w) ≡ Less) (sym same) h))
    ∙ ap (λ b. is_reached key keys (key w) m && b) (beyond o y (key w) n h))
    (subst (λ s. IsAbove key keys (key y) s) turned (above-best o (key y) (n ++ m) later)) in
    (up.1, up'.1, omega arith, is, count_step key keys values (x ∷ m) (y ∷ n) m n (greater values x y) is here rest)

and_false : (b : Bool) → (b && false) ≡ false
and_false true = refl
and_false false = refl

compared_none : {V K : Type 0} (key : V → K) (keys : K → K → Ordering) (values : V → V → Ordering) (m : List V)
    → compared key keys values m [] ≡ 0
compared_none key keys values m = count_none (is_compared key keys m []) (best key keys values (m ++ []))
    (λ v. and_false (is_reached key keys (key v) m))

pub compared_at_end : {V K : Type 0} (key : V → K) (keys : K → K → Ordering) (values : V → V → Ordering)
    (m n : List V) → length n ≡ 0 → compared key keys values m n ≡ 0
compared_at_end key keys values m [] e = compared_none key keys values m
compared_at_end key keys values m (v ∷ n) e = absurd (omega arith)

pub step_end_mine : {V K : Type 0} {key : V → K} {keys : K → K → Ordering} {values : V → V → Ordering}
    (o : Orders key keys values) (m n : List V)
    → length m ≡ 0 → IsRising key keys n → IsStep key keys values m n None m n
step_end_mine {key = key} {keys = keys} {values = values} o [] n e up =
    (refl, refl, best_of_rising o n up, count_none (is_compared key keys [] n) (best key keys values n) (λ v. refl))
step_end_mine o (v ∷ m) n e up = absurd (omega arith)

pub step_end_theirs : {V K : Type 0} {key : V → K} {keys : K → K → Ordering} {values : V → V → Ordering}
    (o : Orders key keys values) (m n : List V)
    → length n ≡ 0 → IsRising key keys m → IsStep key keys values m n None m n
step_end_theirs {key = key} {keys = keys} {values = values} o m [] e up =
    let none = append-nil m in (
      refl,
      refl,
      ap (λ s. best key keys values s) none ∙ best_of_rising o m up
          ∙ sym none,
      compared_none key keys values m,
    )
step_end_theirs o m (v ∷ n) e up = absurd (omega arith)

pub end_theirs : {V K : Type 0} {key : V → K} {keys : K → K → Ordering} {values : V → V → Ordering}
    (o : Orders key keys values) (m n : List V)
    → length n ≡ 0 → IsRising key keys m → m ≡ best key keys values (m ++ n)
end_theirs {key = key} {keys = keys} {values = values} o m [] e up = sym (ap (λ s. best key keys values s)
    (append-nil m) ∙ best_of_rising o m up)
end_theirs o m (v ∷ n) e up = absurd (omega arith)

-- ---- the fronts of two queues, whose lengths are k and l

pub none_left : {V : Type 0} (m : List V) (k : ℕ) → k ≡ length m → (0 < k → false ≡ true) → length m ≡ 0
none_left [] k e h = refl
none_left (v ∷ m) k e h = let no : false ≡ true = h (omega arith) in cc

front : {V : Type 0} (m : List V) (x : V) (k : ℕ) → k ≡ length m → 0 < k → x ≡ get_or m 0 x
    → (rest : List V) × (m ≡ x ∷ rest)
front [] x k e below is = absurd (omega arith)
front (v ∷ m) x k e below is = (m, ap (λ w. w ∷ m) (sym is))

popped : {V : Type 0} (m m' : List V) (r : Option V) (x : V) (k : ℕ) → 0 < k → (IsSome r ↔ (0 < k))
    → m ≡ option_to_list r ++ m' → x ≡ get_or m 0 x
    → (m ≡ x ∷ m') × (r ≡ Some x)
popped m m' None x k below some is read = let no = some.1 below in cc
popped m m' (Some v) x k below some is read =
    let same : x ≡ v = read ∙ ap (λ s. get_or s 0 x) is in (is ∙ ap (λ w. w ∷ m') (sym same), ap Some (sym same))

pub less_at : {V K : Type 0} {key : V → K} {keys : K → K → Ordering} {values : V → V → Ordering}
    (o : Orders key keys values) (m m' n : List V) (r : Option V) (x y : V) (k l : ℕ)
    → IsRising key keys m → IsRising key keys n → l ≡ length n → 0 < k → 0 < l → (IsSome r ↔ (0 < k))
    → m ≡ option_to_list r ++ m' → x ≡ get_or m 0 x → y ≡ get_or n 0 y
    → keys (key x) (key y) ≡ Less → IsStep key keys values m n r m' n
less_at {key = key} {keys = keys} {values = values} o m m' n r x y k l up up' long below below' some is read read' e =
    let mine = popped m m' r x k below some is read in
    let theirs = front n y l long below' read' in
    rw (mine.0, mine.1, theirs.1) (step_less o x y m' theirs.0 (subst (λ s. IsRising key keys s) mine.0 up) (subst
    (λ s. IsRising key keys s) theirs.1 up') e)

pub greater_at : {V K : Type 0} {key : V → K} {keys : K → K → Ordering} {values : V → V → Ordering}
    (o : Orders key keys values) (m n n' : List V) (r : Option V) (x y : V) (k l : ℕ)
    → IsRising key keys m → IsRising key keys n → k ≡ length m → 0 < k → 0 < l → (IsSome r ↔ (0 < l))
    → n ≡ option_to_list r ++ n' → x ≡ get_or m 0 x → y ≡ get_or n 0 y
    → keys (key x) (key y) ≡ Greater → IsStep key keys values m n r m n'
greater_at {key = key} {keys = keys} {values = values} o m n n' r x y k l up up' long below below' some is read read'
    e =
    let mine = front m x k long below read in
    let theirs = popped n n' r y l below' some is read' in
    rw (theirs.0, theirs.1, mine.1) (step_greater o x y mine.0 n' (subst (λ s. IsRising key keys s) mine.1 up) (subst
    (λ s. IsRising key keys s) theirs.0 up') e)

-- r and s come off: t is the greater of them
pub equal_at : {V K : Type 0} {key : V → K} {keys : K → K → Ordering} {values : V → V → Ordering}
    (o : Orders key keys values) (m m' n n' : List V) (r s t : Option V) (x y : V) (k l : ℕ)
    → IsRising key keys m → IsRising key keys n → 0 < k → 0 < l → (IsSome r ↔ (0 < k)) → m ≡ option_to_list r ++ m'
    → x ≡ get_or m 0 x
    → (IsSome s ↔ (0 < l)) → n ≡ option_to_list s ++ n' → y ≡ get_or n 0 y
    → keys (key x) (key y) ≡ Equal → (is_lt (values x y) ≡ true → t ≡ s) → (is_lt (values x y) ≡ false → t ≡ r)
    → IsStep key keys values m n t m' n'
equal_at {key = key} {keys = keys} {values = values} o m m' n n' r s t x y k l up up' below below' some is read some'
    is' read' e taken kept =
    let mine = popped m m' r x k below some is read in
    let theirs = popped n n' s y l below' some' is' read' in
    let given : t ≡ Some (greater values x y) = by_test (is_lt (values x y)) (λ h. taken h ∙ theirs.1
    ∙ rw h refl) (λ h. kept h ∙ mine.1 ∙ rw h refl) in
    rw (mine.0, theirs.0, given) (step_equal o x y m' n' (subst (λ s. IsRising key keys s) mine.0 up) (subst
    (λ s. IsRising key keys s) theirs.0 up') e)
