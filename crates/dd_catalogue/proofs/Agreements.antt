-- Sets that agree: the best of their harmonies is in harmony what the best of the sets is.
use Rattle.std.specs.Prelude.{◌≡◌, ◌++◌, ℕ, false, List, [], ◌∷◌, Contains, map}
use Rattle.std.specs.Ordering.{is_lt}
use Rattle.std.specs.declared.cmp.Ordering.{Ordering}
use Rattle.std.proofs.Common.{refl, sym, ◌∙◌, ap, subst, inl, inr}
use Rattle.std.proofs.lemmas.Cmp.{tied_itself}
use Rattle.std.proofs.lemmas.Option.{none-some}
use Rattle.dd_elem.specs.Ordered.{bytes_cmp}
use Rattle.dd_version.specs.Orders.{parts_cmp, parts_total}
use Rattle.dd_version.specs.declared.parts.Parts.{Parts}
use Rattle.dd_catalogue.specs.Agreement.{Agree, AllAgree}
use Rattle.dd_catalogue.specs.Best.{IsGreatest, SameMembers}
use Rattle.dd_catalogue.specs.BestLaws.{best_at, rising-best}
use Rattle.dd_catalogue.proofs.Members.{Member, member_of, contained}
use Rattle.dd_catalogue.proofs.BestMembers.{best_is_best, best_at_key, is_greatest, absorbed, one_itself}
use Rattle.dd_catalogue.specs.Harmony.{greatest_like, patient_of, study_of, series_of, agreed, harmonised}
use Rattle.dd_catalogue.specs.Histories.{together}
use Rattle.dd_catalogue.specs.Rising.{Orders, either}
use Rattle.dd_catalogue.proofs.Cases.{by_option}
use Rattle.dd_catalogue.specs.Versions.{instance_of, IsCatalogue, best_of, versions_ordered}
use Rattle.dd_catalogue.proofs.Again.{StandsFor, AllStandFor, agreed_again}
use Rattle.dd_catalogue.proofs.FirstConflicts.{one_version}
use Rattle.dd_catalogue.proofs.Harmonies.{member-map, harmonised_rises}
use Rattle.dd_catalogue.proofs.Harmonised.{is_like, only_like, patients_ordered, studies_ordered, series_ordered}
use Rattle.dd_catalogue.proofs.Harmonised.{member-unmap, same_catalogue}

-- ---- members of sets together

member-left : {V : Type 0} (v : V) (s t : List V) → Member v s → Member v (s ++ t)
member-left v [] t i = absurd i
member-left v (w ∷ s) t (inl e) = inl e
member-left v (w ∷ s) t (inr i) = inr (member-left v s t i)

member-right : {V : Type 0} (v : V) (s t : List V) → Member v t → Member v (s ++ t)
member-right v [] t i = i
member-right v (w ∷ s) t i = inr (member-right v s t i)

member-split : {V G : Type 0} (v : V) (s t : List V) → (Member v s → G) → (Member v t → G) → Member v (s ++ t) → G
member-split v [] t left right i = right i
member-split v (w ∷ s) t left right (inl e) = left (inl e)
member-split v (w ∷ s) t left right (inr i) = member-split v s t (λ j. left (inr j)) right i

pub in_together : (v : Parts) (m : List Parts) (sets : List (List Parts)) → Member m sets → Member v m
    → Member v (together sets)
in_together v m [] i j = absurd i
in_together v m (n ∷ sets) (inl e) j = member-left v n (together sets) (subst (λ s. Member v s) (sym e) j)
in_together v m (n ∷ sets) (inr i) j = member-right v n (together sets) (in_together v m sets i j)

-- a version of one of the sets
pub record IsIn (sets : List (List Parts)) (v : Parts) : Type 0 where
  pub set : List Parts
  pub among : Member set sets
  pub member : Member v set

pub from_together : (v : Parts) (sets : List (List Parts)) → Member v (together sets) → IsIn sets v
from_together v [] i = absurd i
from_together v (n ∷ sets) i = member-split v n (together sets)
    (λ j. record { set = n; among = inl refl; member = j })
    (λ j. let rest = from_together v sets j in
    record { set = rest.set; among = inr rest.among; member = rest.member })
    i

-- a version as it is in the harmony of one of the sets
pub record IsFrom (sets : List (List Parts)) (w : Parts) : Type 0 where
  pub source : Parts
  pub where_it_is : IsIn sets source
  pub agrees : agreed where_it_is.set source ≡ w

pub from_harmonies : (w : Parts) (sets : List (List Parts)) → Member w (together (map harmonised sets)) → IsFrom sets w
from_harmonies w sets i =
    let place = from_together w (map harmonised sets) i in
    let m = member-unmap harmonised place.set sets place.among in
    let v = member-unmap (agreed m.0) w m.0 (subst (λ s. Member w s) (sym m.2) place.member) in
    record { source = v.0; where_it_is = record { set = m.0; among = m.1; member = v.1 }; agrees = v.2 }

to_harmonies : (v : Parts) (m : List Parts) (sets : List (List Parts)) → Member m sets → Member v m
    → Member (agreed m v) (together (map harmonised sets))
to_harmonies v m sets i j = in_together (agreed m v) (harmonised m) (map harmonised sets)
    (member-map harmonised m sets i) (member-map (agreed m) v m j)

-- ---- the best of a set

best_member : (s : List Parts) (v : Parts) → Member v (best_of s) → Member v s
best_member s v i = member_of v s (((best_is_best versions_ordered s).each v).0 (contained v (best_of s) i)).member

-- where no other version of its instance is in the set
best_alone : (s : List Parts) (v : Parts) → ((w : Parts) → Member w s → w.instance ≡ v.instance → w ≡ v)
    → Member v s → Member v (best_of s)
best_alone s v alone i = member_of v (best_of s) (((best_is_best versions_ordered s).each v).1 (record {
  member = contained v s i;
  greatest = λ w c e. subst (λ u. is_lt (parts_cmp v u) ≡ false) (sym (alone w (member_of w s c) e))
      (ap is_lt (tied_itself parts_total v));
}))

-- the best of a set has a version of each instance
best_has : (s : List Parts) (v : Parts) → Member v s → (w : Parts) × Member w (best_of s) × (w.instance ≡ v.instance)
best_has s v i = by_option (best_at instance_of bytes_cmp parts_cmp s v.instance)
    (λ e. let all = ap (λ x. either parts_cmp x (best_at instance_of bytes_cmp parts_cmp s v.instance))
    (sym (one_itself instance_of versions_ordered.keys_total v.instance v refl))
    ∙ absorbed versions_ordered v.instance v s i in
    let is = rw e at all in absurd (none-some v (sym is)))
    (λ w e. (
      w,
      member_of w (best_of s) (((best_is_best versions_ordered s).each w).1
          (is_greatest versions_ordered v.instance s w e)),
      best_at_key versions_ordered v.instance s w e,
    ))

-- ---- sets that agree

pub catalogue_agrees_with_itself : (m : List Parts) → IsCatalogue m → Agree m m
catalogue_agrees_with_itself m up v w i j same = one_version m v w up i j same

one_of : (sets : List (List Parts)) (v w : Parts) → AllAgree sets → IsIn sets v → IsIn sets w
    → v.instance ≡ w.instance → v ≡ w
one_of sets v w agree i j same = agree i.set j.set (contained i.set sets i.among) (contained j.set sets j.among)
    v w (contained v i.set i.member) (contained w j.set j.member) same

in_best : (sets : List (List Parts)) (v : Parts) → AllAgree sets → IsIn sets v → Member v (best_of (together sets))
in_best sets v agree i = best_alone (together sets) v
    (λ w j same. one_of sets w v agree (from_together w sets j) i same)
    (in_together v i.set sets i.among i.member)

-- each version of the sets is, in the harmony of one of them, in the best of the harmonies
pub record IsKept (sets : List (List Parts)) (v : Parts) : Type 0 where
  pub place : IsIn sets v
  pub member : Member (agreed place.set v) (best_of (together (map harmonised sets)))

kept_in_harmony : (sets : List (List Parts)) (v : Parts) → AllAgree sets → IsIn sets v → IsKept sets v
kept_in_harmony sets v agree i =
    let all = together (map harmonised sets) in
    let w = best_has all (agreed i.set v) (to_harmonies v i.set sets i.among i.member) in
    let from = from_harmonies w.0 sets (best_member all w.0 w.1) in
    let one = one_of sets from.source v agree from.where_it_is i
    (ap (λ (u : Parts). u.instance) from.agrees ∙ w.2) in
    let place = from.where_it_is in
    record {
      place = record {
        set = place.set;
        among = place.among;
        member = subst (λ u. Member u place.set) one place.member;
      };
      member = subst (λ u. Member u (best_of all)) (sym from.agrees ∙ ap (agreed place.set) one) w.1;
    }

stands : {T : Type 0} (tuple : Parts → T) {key : T → List ℕ} {order : T → T → Ordering}
    (o : Orders key bytes_cmp order) (sets : List (List Parts)) → AllAgree sets
    → ((m : List Parts) (v : Parts) → tuple (agreed m v) ≡ greatest_like tuple key order m v)
    → StandsFor key order (map tuple (best_of (together sets))) (map tuple (best_of (together (map harmonised sets))))
stands tuple {key = key} {order = order} o sets agree is =
    let s = best_of (together sets) in
    let r = best_of (together (map harmonised sets)) in
    let within : (m : List Parts) → Member m sets → (t : _) → Contains (map tuple m) t → Contains (map tuple s) t =
    λ m i t c. let v = member-unmap tuple t m (member_of t (map tuple m) c) in
    contained t (map tuple s) (subst (λ u. Member u (map tuple s)) v.2 (member-map tuple v.0 s
    (in_best sets v.0 agree (record { set = m; among = i; member = v.1 })))) in
    record {
      inside = λ t c.
          let w = member-unmap tuple t r (member_of t (map tuple r) c) in
          let from = from_harmonies w.0 sets (best_member (together (map harmonised sets)) w.0 w.1) in
          let m = from.where_it_is.set in
          let like = is_like tuple o m from.source from.where_it_is.member in
          let to : greatest_like tuple key order m from.source ≡ t =
          sym (is m from.source) ∙ ap tuple from.agrees ∙ w.2 in
          within m from.where_it_is.among t (subst (λ u. Contains (map tuple m) u) to like.greatest.member);
      greatest = λ t g.
          let v = member-unmap tuple t s (member_of t (map tuple s) g.member) in
          let k = kept_in_harmony sets v.0 agree (from_together v.0 sets (best_member (together sets) v.0 v.1)) in
          let m = k.place.set in
          let own : Contains (map tuple m) t = subst (λ u. Contains (map tuple m) u) v.2
          (contained (tuple v.0) (map tuple m) (member-map tuple v.0 m k.place.member)) in
          let most : IsGreatest key order (map tuple m) t = record {
            member = own;
            greatest = λ u c e. g.greatest u (within m k.place.among u c) e;
          } in
          let to : tuple (agreed m v.0) ≡ t = is m v.0
          ∙ sym (only_like tuple o m v.0 t k.place.member (record { like = ap key (sym v.2); greatest = most })) in
          subst (λ u. Contains (map tuple r) u) to
          (contained (tuple (agreed m v.0)) (map tuple r) (member-map tuple (agreed m v.0) r k.member));
    }

all_stand : (sets : List (List Parts)) → AllAgree sets
    → AllStandFor (best_of (together sets)) (best_of (together (map harmonised sets)))
all_stand sets agree = record {
  patients = stands patient_of patients_ordered sets agree (λ m v. refl);
  studies = stands study_of studies_ordered sets agree (λ m v. refl);
  series = stands series_of series_ordered sets agree (λ m v. refl);
}

-- ---- both are one in harmony

same_members : (sets : List (List Parts)) → AllAgree sets
    → SameMembers (harmonised (best_of (together (map harmonised sets)))) (harmonised (best_of (together sets)))
same_members sets agree =
    let s = best_of (together sets) in
    let r = best_of (together (map harmonised sets)) in
    let stand = all_stand sets agree in
    λ w. (
      (λ c. let z = member-unmap (agreed r) w r (member_of w (harmonised r) c) in
          let from = from_harmonies z.0 sets (best_member (together (map harmonised sets)) z.0 z.1) in
          let m = from.where_it_is.set in
          let v = from.source in
          let i = in_best sets v agree from.where_it_is in
          let j = subst (λ u. Member u r) (sym from.agrees) z.1 in
          let to : agreed s v ≡ w = sym (agreed_again s r m v stand i from.where_it_is.member j)
          ∙ ap (agreed r) from.agrees ∙ z.2 in
          subst (λ u. Contains (harmonised s) u) to
          (contained (agreed s v) (harmonised s) (member-map (agreed s) v s i))),
      (λ c. let v = member-unmap (agreed s) w s (member_of w (harmonised s) c) in
          let k = kept_in_harmony sets v.0 agree (from_together v.0 sets (best_member (together sets) v.0 v.1)) in
          let m = k.place.set in
          let to : agreed r (agreed m v.0) ≡ w = agreed_again s r m v.0 stand v.1 k.place.member k.member ∙ v.2 in
          subst (λ u. Contains (harmonised r) u) to
          (contained (agreed r (agreed m v.0)) (harmonised r) (member-map (agreed r) (agreed m v.0) r k.member))),
    )

pub merged_harmonies_are_merged_sets : (sets : List (List Parts)) → AllAgree sets
    → harmonised (best_of (together (map harmonised sets))) ≡ harmonised (best_of (together sets))
merged_harmonies_are_merged_sets sets agree =
    let s = together sets in
    let r = together (map harmonised sets) in
    same_catalogue (harmonised (best_of r)) (harmonised (best_of s))
    (harmonised_rises (best_of r) (rising-best versions_ordered r))
    (harmonised_rises (best_of s) (rising-best versions_ordered s))
    (same_members sets agree)
