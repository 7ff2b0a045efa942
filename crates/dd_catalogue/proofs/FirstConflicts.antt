-- The conflict of a catalogue is its first conflict, and no other pair is.
use Rattle.std.specs.Prelude.{◌≡◌, ◌≢◌, ◌⊎◌, ℕ, Bool, true, false, ◌&&◌, ◌||◌, not, List, [], ◌∷◌, Option, Some, None}
use Rattle.std.specs.Prelude.{find, Contains, Decides}
use Rattle.std.specs.Ordering.{is_eq}
use Rattle.std.proofs.Common.{refl, sym, ◌∙◌, ap, subst, inl, inr}
use Rattle.std.proofs.lemmas.Cmp.{nat_list_cmp_total, tied_itself}
use Rattle.std.proofs.lemmas.Option.{none-some, same_Some}
use Rattle.std.proofs.lemmas.Map.Lookups.{exact_bytes}
use Rattle.dd_elem.specs.Ordered.{bytes_cmp}
use Rattle.dd_version.specs.declared.parts.Parts.{Parts}
use Rattle.dd_catalogue.proofs.Members.{Member, member_of, contained}
use Rattle.dd_catalogue.proofs.BestMembers.{above_member, at-member}
use Rattle.dd_catalogue.specs.Conflicts.{same, splits, conflicts, first_conflict, Conflict, IsBelow, IsFirstConflict}
use Rattle.dd_catalogue.specs.Conflicts.{IsConflict}
use Rattle.dd_catalogue.specs.Rising.{by_order, by_test, is_eq_Equal, less_turned, greater_turned}
use Rattle.dd_catalogue.proofs.Cases.{by_option}
use Rattle.dd_catalogue.specs.Versions.{instance_of, IsCatalogue, kept}

-- ---- the test of a conflict decides it

same_decides : (x y : List ℕ) → Decides (same x y) (x ≡ y)
same_decides x y = (
  (λ e. exact_bytes x y (is_eq_Equal (bytes_cmp x y) e)),
  (λ e. ap is_eq (ap (λ z. bytes_cmp x z) (sym e) ∙ tied_itself nat_list_cmp_total x)),
)

splits_decides : (uid uid' owner owner' : List ℕ)
    → Decides (same uid uid' && not (same owner owner')) ((uid ≡ uid') × (owner ≢ owner'))
splits_decides uid uid' owner owner' = by_test (same uid uid')
    (λ e. by_test (same owner owner')
    (λ f. ((λ g. cc (e, f, g)), (λ h. absurd (h.1 ((same_decides owner owner').0 f)))))
    (λ f. (
      (λ g. ((same_decides uid uid').0 e, (λ s. let is = (same_decides owner owner').1 s in cc (f, is)))),
      (λ h. rw (e, f) refl),
    )))
    (λ e. ((λ g. cc (e, g)), (λ h. let is = (same_decides uid uid').1 h.0 in cc (e, is))))

pub conflicts_decides : (v w : Parts) → Decides (conflicts v w) (Conflict v w)
conflicts_decides v w =
    either_decides (splits (λ p. p.study.uid) (λ p. p.patient.id) v w)
    (splits (λ p. p.series.uid) (λ p. p.study.uid) v w)
    (splits_decides v.study.uid w.study.uid v.patient.id w.patient.id)
    (splits_decides v.series.uid w.series.uid v.study.uid w.study.uid)
  where
    either_decides : {P Q : Type 0} (a b : Bool) → Decides a P → Decides b Q → Decides (a || b) (P ⊎ Q)
    either_decides true b p q = ((λ e. inl (p.0 refl)), (λ h. refl))
    either_decides false true p q = ((λ e. inr (q.0 refl)), (λ h. refl))
    either_decides false false p q = ((λ e. cc), (λ h. elim h [ inl x ↦ p.1 x | inr y ↦ q.1 y ]))

no_conflict : (v w : Parts) → conflicts v w ≡ false → ¬ Conflict v w
no_conflict v w e c = let f = (conflicts_decides v w).1 c in cc (e, f)

not_itself : (v : Parts) → ¬ Conflict v v
not_itself v (inl c) = c.1 refl
not_itself v (inr c) = c.1 refl

pub turned : (v w : Parts) → Conflict v w → Conflict w v
turned v w (inl c) = inl (sym c.0, (λ e. c.1 (sym e)))
turned v w (inr c) = inr (sym c.0, (λ e. c.1 (sym e)))

-- ---- what is found first

found_holds : {V : Type 0} (q : V → Bool) (m : List V) (w : V) → find q m ≡ Some w → Member w m × (q w ≡ true)
found_holds q [] w e = absurd (none-some w e)
found_holds q (u ∷ m) w e = by_test (q u)
    (λ f. let is : u ≡ w = same_Some u w (rw f at e) in (inl is, subst (λ x. q x ≡ true) is f))
    (λ f. let rest = found_holds q m w (rw f at e) in (inr rest.0, rest.1))

none_holds : {V : Type 0} (q : V → Bool) (m : List V) (w : V) → find q m ≡ None → Member w m → q w ≡ false
none_holds q [] w e i = absurd i
none_holds q (u ∷ m) w e i = by_test (q u)
    (λ f. let is = rw f at e in absurd (none-some u (sym is)))
    (λ f. let rest = rw f at e in elim i [
      | inl same ↦ subst (λ x. q x ≡ false) same f
      | inr j ↦ none_holds q m w rest j
    ])

-- ---- below

never_both : (v w : Parts) → IsBelow v w → ¬ IsBelow w v
never_both v w e f = let turned = less_turned nat_list_cmp_total v.instance w.instance e in cc (f, turned)

never_itself : (v : Parts) → ¬ IsBelow v v
never_itself v e = never_both v v e e

never_first : (v x : Parts) (m : List Parts) → IsCatalogue (v ∷ m) → Member x (v ∷ m) → ¬ IsBelow x v
never_first v x m up (inl same) e = never_itself v (subst (λ y. IsBelow y v) (sym same) e)
never_first v x m up (inr i) e = never_both x v e (above_member instance_of bytes_cmp v.instance x m up.0 i)

-- before the first one that is found none would be
nearest_found : (q : Parts → Bool) (m : List Parts) (w y : Parts) → IsCatalogue m → find q m ≡ Some w → Member y m
    → IsBelow y w → q y ≡ false
nearest_found q [] w y up e i below = absurd i
nearest_found q (u ∷ m) w y up e i below = by_test (q u)
    (λ f. let is : u ≡ w = same_Some u w (rw f at e) in
    absurd (never_first u y m up i (subst (λ x. IsBelow y x) (sym is) below)))
    (λ f. let rest = rw f at e in elim i [
      | inl same ↦ subst (λ x. q x ≡ false) same f
      | inr j ↦ nearest_found q m w y up.1 rest j below
    ])

-- ---- the function meets the relation

with_first : (v : Parts) (m : List Parts) (w : Parts) → IsCatalogue (v ∷ m) → find (conflicts v) m ≡ Some w
    → IsFirstConflict (v ∷ m) v w
with_first v m w up e =
    let found = found_holds (conflicts v) m w e in
    record {
      one = contained v (v ∷ m) (inl refl);
      other = contained w (v ∷ m) (inr found.0);
      below = above_member instance_of bytes_cmp v.instance w m up.0 found.0;
      conflict = (conflicts_decides v w).0 found.1;
      least = λ x y i j below _. absurd (never_first v x m up (member_of x (v ∷ m) i) below);
      nearest = λ y i above below. elim (member_of y (v ∷ m) i) [
        | inl same ↦ absurd (never_itself v (subst (λ x. IsBelow v x) (sym same) above))
        | inr j ↦ no_conflict v y (nearest_found (conflicts v) m w y up.1 e j below)
      ];
    }

least_later : (v : Parts) (m : List Parts) (x y : Parts) → IsCatalogue (v ∷ m) → find (conflicts v) m ≡ None
    → IsFirstConflict m x y
    → (s t : Parts) → Member s (v ∷ m) → Member t (v ∷ m) → IsBelow s x → IsBelow s t → ¬ Conflict s t
least_later v m x y up e first s t (inl same) (inl same') below rises =
    absurd (never_itself v (subst (λ u. IsBelow v u) (sym same') (subst (λ u. IsBelow u t) (sym same) rises)))
least_later v m x y up e first s t (inl same) (inr l) below rises =
    subst (λ u. ¬ Conflict u t) same (no_conflict v t (none_holds (conflicts v) m t e l))
least_later v m x y up e first s t (inr k) (inl same) below rises =
    absurd (never_first v s m up (inr k) (subst (λ u. IsBelow s u) (sym same) rises))
least_later v m x y up e first s t (inr k) (inr l) below rises =
    first.least s t (contained s m k) (contained t m l) below rises

with_later : (v : Parts) (m : List Parts) (x y : Parts) → IsCatalogue (v ∷ m) → find (conflicts v) m ≡ None
    → IsFirstConflict m x y → IsFirstConflict (v ∷ m) x y
with_later v m x y up e first =
    let more : (u : Parts) → Contains m u → Contains (v ∷ m) u = λ u i. contained u (v ∷ m) (inr (member_of u m i)) in
    record {
      one = more x first.one;
      other = more y first.other;
      below = first.below;
      conflict = first.conflict;
      least = λ s t i j below rises. least_later v m x y up e first s t (member_of s (v ∷ m) i)
          (member_of t (v ∷ m) j) below rises;
      nearest = λ t j above below. elim (member_of t (v ∷ m) j) [
        | inl same ↦ absurd (never_first v x m up (inr (member_of x m first.one))
            (subst (λ u. IsBelow x u) (sym same) above))
        | inr l ↦ first.nearest t (contained t m l) above below
      ];
    }

none_later : (v : Parts) (m : List Parts) → find (conflicts v) m ≡ None → IsConflict m None → (s t : Parts)
    → Member s (v ∷ m) → Member t (v ∷ m) → ¬ Conflict s t
none_later v m e none s t (inl same) (inl same') =
    λ c. not_itself v (subst (λ u. Conflict v u) (sym same') (subst (λ u. Conflict u t) (sym same) c))
none_later v m e none s t (inl same) (inr l) = subst (λ u. ¬ Conflict u t) same
    (no_conflict v t (none_holds (conflicts v) m t e l))
none_later v m e none s t (inr k) (inl same) = λ c. no_conflict v s (none_holds (conflicts v) m s e k)
    (turned s v (subst (λ u. Conflict s u) (sym same) c))
none_later v m e none s t (inr k) (inr l) = none s t (contained s m k) (contained t m l)

pub first_conflict_is_first : (m : List Parts) → IsCatalogue m → IsConflict m (first_conflict m)
first_conflict_is_first [] up = λ v w i j. absurd (member_of v [] i)
first_conflict_is_first (v ∷ m) up = by_option (find (conflicts v) m)
    (λ e. by_option (first_conflict m)
    (λ f. let rest : IsConflict m None = subst (λ r. IsConflict m r) f (first_conflict_is_first m up.1) in
    rw (e, f) (λ s t i j. none_later v m e rest s t (member_of s (v ∷ m) i) (member_of t (v ∷ m) j)))
    (λ pair f. let rest : IsConflict m (Some pair) = subst (λ r. IsConflict m r) f (first_conflict_is_first m up.1) in
    rw (e, f) (rest.0, rest.1, with_later v m rest.0 rest.1 up e rest.2, rest.3)))
    (λ w e. rw e (v, w, with_first v m w up e, refl))

-- ---- the relation has one answer

pub one_version : (m : List Parts) (v w : Parts) → IsCatalogue m → Contains m v → Contains m w → v.instance ≡ w.instance
    → v ≡ w
one_version m v w up i j same = same_Some v w
    (sym (at-member instance_of nat_list_cmp_total v m up (member_of v m i)) ∙ ap (λ k. kept m k) same
    ∙ at-member instance_of nat_list_cmp_total w m up (member_of w m j))

same_one : (m : List Parts) (v w v' w' : Parts) → IsCatalogue m → IsFirstConflict m v w → IsFirstConflict m v' w'
    → v ≡ v'
same_one m v w v' w' up f g = by_order (bytes_cmp v.instance v'.instance)
    (λ e. absurd (g.least v w f.one f.other e f.below f.conflict))
    (λ e. one_version m v v' up f.one g.one (exact_bytes v.instance v'.instance e))
    (λ e. absurd
    (f.least v' w' g.one g.other (greater_turned nat_list_cmp_total v.instance v'.instance e) g.below g.conflict))

same_other : (m : List Parts) (v w w' : Parts) → IsFirstConflict m v w → IsFirstConflict m v w'
    → w.instance ≡ w'.instance
same_other m v w w' f g = by_order (bytes_cmp w.instance w'.instance)
    (λ e. absurd (g.nearest w f.other f.below e f.conflict))
    (λ e. exact_bytes w.instance w'.instance e)
    (λ e. absurd (f.nearest w' g.other g.below (greater_turned nat_list_cmp_total w.instance w'.instance e) g.conflict))

pub first_conflict_is_one : (m : List Parts) (r s : Option (List ℕ × List ℕ)) → IsCatalogue m → IsConflict m r → IsConflict m s → r ≡ s
first_conflict_is_one m None None up h k = refl
first_conflict_is_one m None (Some b) up h k = absurd (h k.0 k.1 k.2.one k.2.other k.2.conflict)
first_conflict_is_one m (Some a) None up h k = absurd (k h.0 h.1 h.2.one h.2.other h.2.conflict)
first_conflict_is_one m (Some a) (Some b) up h k =
    let one = same_one m h.0 h.1 k.0 k.1 up h.2 k.2 in
    let other = same_other m h.0 h.1 k.1 h.2 (subst (λ v. IsFirstConflict m v k.1) (sym one) k.2) in
    ap Some (h.3 ∙ ap (λ (v : Parts). (v.instance, h.1.instance)) one ∙ ap (λ (x : List ℕ). (k.0.instance, x)) other
    ∙ sym k.3)
