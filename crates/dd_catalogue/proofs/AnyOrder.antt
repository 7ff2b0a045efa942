-- What is joined gives the same in whatever order and however often. This is by the laws of a join alone, which make
-- the join of a list absorb each of its members.
use Rattle.std.specs.Prelude.{◌≡◌, List, [], ◌∷◌}
use Rattle.std.specs.List.{AllByRecursion, fold}
use Rattle.std.proofs.Common.{refl, sym, ◌∙◌, ap, subst, inl, inr}
use Rattle.std.proofs.lemmas.List.Elements.{recursion_from_All, All-contains}
use Rattle.dd_catalogue.specs.Best.{SameMembers}
use Rattle.dd_catalogue.proofs.Members.{Member, member_of, contained}
use Rattle.dd_catalogue.specs.Joins.{JoinLaws, OrderIsFree, GatherIsFree}

fold_value : {V : Type 0} {IsValue : V → Type 0} {join : V → V → V} (l : JoinLaws IsValue join) (x : V) (xs : List V)
    → IsValue x → AllByRecursion IsValue xs → IsValue (fold join x xs)
fold_value l x [] v vs = v
fold_value {join = join} l x (y ∷ xs) v vs = fold_value l (join x y) xs (l.kept x y v vs.0) vs.1

still_absorbs : {V : Type 0} {IsValue : V → Type 0} {join : V → V → V} (l : JoinLaws IsValue join) (x z : V)
    (xs : List V)
    → IsValue x → IsValue z → AllByRecursion IsValue xs → join x z ≡ x → join (fold join x xs) z ≡ fold join x xs
still_absorbs l x z [] v w vs e = e
still_absorbs {join = join} l x z (y ∷ xs) v w vs e =
    still_absorbs l (join x y) z xs (l.kept x y v vs.0) w vs.1
    (l.associative x y z v vs.0 w ∙ ap (λ u. join x u) (l.commutative y z vs.0 w) ∙ sym (l.associative x z y v w vs.0)
    ∙ ap (λ u. join u y) e)

absorbs : {V : Type 0} {IsValue : V → Type 0} {join : V → V → V} (l : JoinLaws IsValue join) (x z : V) (xs : List V)
    → IsValue x → AllByRecursion IsValue xs → Member z xs → join (fold join x xs) z ≡ fold join x xs
absorbs l x z [] v vs i = absurd i
absorbs {join = join} l x z (y ∷ xs) v vs (inl e) =
    subst (λ u. join (fold join (join x y) xs) u ≡ fold join (join x y) xs) e
    (still_absorbs l (join x y) y xs (l.kept x y v vs.0) vs.0 vs.1
    (l.associative x y y v vs.0 vs.0 ∙ ap (λ u. join x u) (l.idempotent y vs.0)))
absorbs {join = join} l x z (y ∷ xs) v vs (inr i) = absorbs l (join x y) z xs (l.kept x y v vs.0) vs.1 i

absorbs_member : {V : Type 0} {IsValue : V → Type 0} {join : V → V → V} (l : JoinLaws IsValue join) (x z : V)
    (xs : List V)
    → AllByRecursion IsValue (x ∷ xs) → Member z (x ∷ xs) → join (fold join x xs) z ≡ fold join x xs
absorbs_member {join = join} l x z xs vs (inl e) =
    subst (λ u. join (fold join x xs) u ≡ fold join x xs) e
    (still_absorbs l x x xs vs.0 vs.0 vs.1 (l.idempotent x vs.0))
absorbs_member l x z xs vs (inr i) = absorbs l x z xs vs.0 vs.1 i

absorbs_all : {V : Type 0} {IsValue : V → Type 0} {join : V → V → V} (l : JoinLaws IsValue join) (a y : V) (ys : List V)
    → IsValue a → AllByRecursion IsValue (y ∷ ys) → ((z : V) → Member z (y ∷ ys) → join a z ≡ a)
    → join a (fold join y ys) ≡ a
absorbs_all l a y [] v vs each = each y (inl refl)
absorbs_all {join = join} l a y (w ∷ ys) v vs each =
    absorbs_all l a (join y w) ys v (l.kept y w vs.0 vs.1.0, vs.1.1) (λ z i. absorbs_joined l a y w ys v vs each z i)
  where
    absorbs_joined : {V : Type 0} {IsValue : V → Type 0} {join : V → V → V} (l : JoinLaws IsValue join) (a y w : V)
        (ys : List V)
        → IsValue a → AllByRecursion IsValue (y ∷ w ∷ ys) → ((z : V) → Member z (y ∷ w ∷ ys) → join a z ≡ a) → (z : V)
        → Member z (join y w ∷ ys) → join a z ≡ a
    absorbs_joined {join = join} l a y w ys v vs each z (inl e) =
        subst (λ u. join a u ≡ a) e (sym (l.associative a y w v vs.0 vs.1.0) ∙ ap (λ u. join u w) (each y (inl refl))
        ∙ each w (inr (inl refl)))
    absorbs_joined l a y w ys v vs each z (inr i) = each z (inr (inr i))

pub order_is_free : {V : Type 0} {IsValue : V → Type 0} {join : V → V → V} → JoinLaws IsValue join
    → OrderIsFree IsValue join
order_is_free {V = V} {IsValue = IsValue} {join = join} l x y xs ys all same =
    let vs = recursion_from_All IsValue (x ∷ xs) all in
    let back : (z : V) → Member z (y ∷ ys) → Member z (x ∷ xs) = λ z i. member_of z (x ∷ xs)
    ((same z).1 (contained z (y ∷ ys) i)) in
    let on : (z : V) → Member z (x ∷ xs) → Member z (y ∷ ys) = λ z i. member_of z (y ∷ ys)
    ((same z).0 (contained z (x ∷ xs) i)) in
    let ws : AllByRecursion IsValue (y ∷ ys) = all_members IsValue (y ∷ ys)
    (λ z i. All-contains IsValue (x ∷ xs) z all (contained z (x ∷ xs) (back z i))) in
    let one = fold_value l x xs vs.0 vs.1 in
    let other = fold_value l y ys ws.0 ws.1 in
    sym (absorbs_all l (fold join x xs) y ys one ws (λ z i. absorbs_member l x z xs vs (back z i)))
    ∙ l.commutative (fold join x xs) (fold join y ys) one other
    ∙ absorbs_all l (fold join y ys) x xs other vs (λ z i. absorbs_member l y z ys ws (on z i))
  where
    all_members : {V : Type 0} (P : V → Type 0) (s : List V) → ((z : V) → Member z s → P z) → AllByRecursion P s
    all_members P [] h = tt
    all_members P (z ∷ s) h = (h z (inl refl), all_members P s (λ w i. h w (inr i)))

alone : {V : Type 0} (x y : V) → SameMembers (x ∷ []) (y ∷ []) → x ≡ y
alone x y same = only x y (member_of x (y ∷ []) ((same x).0 (contained x (x ∷ []) (inl refl))))
  where
    only : {V : Type 0} (x y : V) → Member x (y ∷ []) → x ≡ y
    only x y (inl e) = sym e
    only x y (inr i) = absurd i

pub gather_is_free : {V : Type 0} {IsValue : V → Type 0} {join : V → V → V} → JoinLaws IsValue join
    → GatherIsFree IsValue join
gather_is_free l x y [] [] values values' same = alone x y same
gather_is_free l x y [] (w ∷ ys) values values' same =
    sym (order_is_free l y x (w ∷ ys) [] (values' (λ e. cc)) (λ z. ((same z).1, (same z).0)))
gather_is_free l x y (w ∷ xs) ys values values' same = order_is_free l x y (w ∷ xs) ys (values (λ e. cc)) same
