-- A catalogue in harmony is the relation's one answer.
use Rattle.std.specs.Prelude.{◌≡◌, ℕ, List, [], ◌∷◌, map, Contains}
use Rattle.std.specs.declared.cmp.Ordering.{Ordering}
use Rattle.std.proofs.Common.{refl, sym, ◌∙◌, ap, subst, inl, inr}
use Rattle.std.proofs.lemmas.Option.{same_Some}
use Rattle.dd_elem.specs.Ordered.{bytes_cmp}
use Rattle.dd_version.specs.Orders.{patient_cmp, patient_total, patient_apart, study_cmp, study_total, study_apart}
use Rattle.dd_version.specs.Orders.{series_cmp, series_total, series_apart}
use Rattle.dd_version.specs.declared.parts.Parts.{Parts}
use Rattle.dd_catalogue.specs.Best.{SameMembers}
use Rattle.dd_catalogue.specs.BestLaws.{best_at, best_of_rising}
use Rattle.dd_catalogue.proofs.Members.{Member, member_of, contained}
use Rattle.dd_catalogue.proofs.BestMembers.{is_greatest, best_at_key, best_at-greatest, best_of_same}
use Rattle.dd_catalogue.specs.Harmony.{IsGreatestLike, IsAgreed, IsHarmonised, greatest_like, patient_of, patient_key}
use Rattle.dd_catalogue.specs.Harmony.{study_of, study_key, series_of, series_key, agreed, harmonised}
use Rattle.dd_catalogue.specs.Rising.{Orders}
use Rattle.dd_catalogue.specs.Versions.{IsCatalogue, versions_ordered}
use Rattle.dd_catalogue.proofs.Harmonies.{best_like, member-map, harmonised_rises}
use Rattle.dd_catalogue.proofs.Places.{by_key}

-- ---- the greatest tuple like a version's

pub is_like : {V T : Type 0} (tuple : V → T) {key : T → List ℕ} {order : T → T → Ordering}
    (o : Orders key bytes_cmp order) (m : List V) (v : V)
    → Member v m → IsGreatestLike tuple key order m v (greatest_like tuple key order m v)
is_like tuple {key = key} {order = order} o m v i =
    let is = best_like tuple o m v i in
    record {
      like = best_at_key o (key (tuple v)) (map tuple m) (greatest_like tuple key order m v) is;
      greatest = is_greatest o (key (tuple v)) (map tuple m) (greatest_like tuple key order m v) is;
    }

pub only_like : {V T : Type 0} (tuple : V → T) {key : T → List ℕ} {order : T → T → Ordering}
    (o : Orders key bytes_cmp order) (m : List V) (v : V) (t : T)
    → Member v m → IsGreatestLike tuple key order m v t → t ≡ greatest_like tuple key order m v
only_like tuple {key = key} {order = order} o m v t i is =
    let s = map tuple m in
    same_Some t (greatest_like tuple key order m v)
    (sym (best_at-greatest o s t is.greatest) ∙ ap (λ k. best_at key bytes_cmp order s k) is.like
    ∙ best_like tuple o m v i)

-- ---- a version in harmony

pub patients_ordered : Orders patient_key bytes_cmp patient_cmp
patients_ordered = by_key patient_key patient_total patient_apart

pub studies_ordered : Orders study_key bytes_cmp study_cmp
studies_ordered = by_key study_key study_total study_apart

pub series_ordered : Orders series_key bytes_cmp series_cmp
series_ordered = by_key series_key series_total series_apart

pub is_agreed : (m : List Parts) (v : Parts) → Member v m → IsAgreed m v (agreed m v)
is_agreed m v i = record {
  patient = is_like patient_of patients_ordered m v i;
  study = is_like study_of studies_ordered m v i;
  series = is_like series_of series_ordered m v i;
  others = refl;
}

pub only_agreed : (m : List Parts) (v w : Parts) → Member v m → IsAgreed m v w → w ≡ agreed m v
only_agreed m v w i is =
    let patient = only_like patient_of patients_ordered m v w.patient i is.patient in
    let study = only_like study_of studies_ordered m v w.study i is.study in
    let series = only_like series_of series_ordered m v w.series i is.series in
    let tuples : record v { patient = w.patient; study = w.study; series = w.series } ≡ agreed m v =
    λ j. record v { patient = patient j; study = study j; series = series j } in
    is.others ∙ tuples

-- ---- a catalogue in harmony

pub member-unmap : {V T : Type 0} (f : V → T) (t : T) (m : List V) → Member t (map f m)
    → (v : V) × Member v m × (f v ≡ t)
member-unmap f t [] i = absurd i
member-unmap f t (v ∷ m) (inl e) = (v, inl refl, e)
member-unmap f t (v ∷ m) (inr i) = let rest = member-unmap f t m i in (rest.0, inr rest.1, rest.2)

pub harmonised_is_harmonised : (m : List Parts) → IsCatalogue m → IsHarmonised m (harmonised m)
harmonised_is_harmonised m up = record {
  rising = harmonised_rises m up;
  each = λ w. (
    (λ c. let from = member-unmap (agreed m) w m (member_of w (harmonised m) c) in
        (from.0, contained from.0 m from.1, subst (λ x. IsAgreed m from.0 x) from.2 (is_agreed m from.0 from.1))),
    (λ a. let i = member_of a.0 m a.1 in
        subst (λ x. Contains (harmonised m) x) (sym (only_agreed m a.0 w i a.2))
        (contained (agreed m a.0) (harmonised m) (member-map (agreed m) a.0 m i))),
  );
}

pub same_catalogue : (m n : List Parts) → IsCatalogue m → IsCatalogue n → SameMembers m n → m ≡ n
same_catalogue m n up up' alike =
    sym (best_of_rising versions_ordered m up) ∙ best_of_same versions_ordered m n alike
    ∙ best_of_rising versions_ordered n up'

pub harmonised_is_one : (l m n : List Parts) → IsHarmonised l m → IsHarmonised l n → m ≡ n
harmonised_is_one l m n left right = same_catalogue m n left.rising right.rising (λ w. (
  (λ c. (right.each w).1 ((left.each w).0 c)),
  (λ c. (left.each w).1 ((right.each w).0 c)),
))
