-- Versions that stand for others in harmony: their tuples are some of the others', and the greatest are among them.
use Rattle.std.specs.Prelude.{◌≡◌, ℕ, false, List, [], ◌∷◌, Contains, map}
use Rattle.std.specs.Ordering.{is_lt, ordering_then}
use Rattle.std.specs.declared.cmp.Ordering.{Ordering}
use Rattle.std.specs.declared.cmp.Ordering.TheVariants.{Less, Equal, Greater}
use Rattle.std.proofs.Common.{refl, sym, ◌∙◌, ap, subst, inl, inr}
use Rattle.std.proofs.lemmas.Cmp.{nat_list_cmp_total, tied_itself}
use Rattle.dd_elem.specs.Ordered.{bytes_cmp}
use Rattle.dd_version.specs.Orders.{patient_cmp, study_cmp, series_cmp, parts_cmp}
use Rattle.dd_version.specs.declared.parts.Parts.{Parts}
use Rattle.dd_catalogue.specs.Best.{IsGreatest}
use Rattle.dd_catalogue.proofs.Members.{Member, member_of, contained}
use Rattle.dd_catalogue.specs.Harmony.{greatest_like, patient_of, patient_key, study_of, study_key}
use Rattle.dd_catalogue.specs.Harmony.{series_of, series_key, agreed, harmonised}
use Rattle.dd_catalogue.specs.Rising.{Orders}
use Rattle.dd_catalogue.specs.Versions.{IsCatalogue}
use Rattle.dd_catalogue.proofs.FirstConflicts.{one_version}
use Rattle.dd_catalogue.proofs.Harmonies.{member-map}
use Rattle.dd_catalogue.proofs.Harmonised.{is_like, only_like, patients_ordered, studies_ordered, series_ordered}
use Rattle.dd_catalogue.proofs.Harmonised.{member-unmap}
use Rattle.dd_catalogue.proofs.Images.{agreed_image}

-- ---- standing for a set's tuples

-- the tuples of r are tuples of s, and the greatest of each key in s is a tuple of r
pub record StandsFor {T : Type 0} (key : T → List ℕ) (order : T → T → Ordering) (s r : List T) : Type 0 where
  pub inside : (t : T) → Contains r t → Contains s t
  pub greatest : (t : T) → IsGreatest key order s t → Contains r t

pub same_greatest : {V T : Type 0} (tuple : V → T) {key : T → List ℕ} {order : T → T → Ordering}
    (o : Orders key bytes_cmp order) (s r : List V) (v w : V) → Member v s → Member w r
    → key (tuple v) ≡ key (tuple w) → StandsFor key order (map tuple s) (map tuple r)
    → greatest_like tuple key order r w ≡ greatest_like tuple key order s v
same_greatest tuple {key = key} {order = order} o s r v w i j same stands =
    let is = is_like tuple o s v i in
    let t = greatest_like tuple key order s v in
    sym (only_like tuple o r w t j (record {
      like = is.like ∙ same;
      greatest = record {
        member = stands.greatest t is.greatest;
        greatest = λ u c e. is.greatest.greatest u (stands.inside u c) e;
      };
    }))

-- the patient keys of the versions r stand for the patient keys of s, and so do the study keys and the series keys
pub record AllStandFor (s r : List Parts) : Type 0 where
  pub patients : StandsFor patient_key patient_cmp (map patient_of s) (map patient_of r)
  pub studies : StandsFor study_key study_cmp (map study_of s) (map study_of r)
  pub series : StandsFor series_key series_cmp (map series_of s) (map series_of r)

-- a version that was in harmony with some of the versions is in harmony with all as it was itself
pub agreed_again : (s r m : List Parts) (v : Parts) → AllStandFor s r → Member v s → Member v m
    → Member (agreed m v) r → agreed r (agreed m v) ≡ agreed s v
agreed_again s r m v stand i k j =
    let w = agreed m v in
    let image = agreed_image m v k in
    let patient = same_greatest patient_of patients_ordered s r v w i j image.patient stand.patients in
    let study = same_greatest study_of studies_ordered s r v w i j image.study stand.studies in
    let series = same_greatest series_of series_ordered s r v w i j image.series stand.series in
    λ x. record v { patient = patient x; study = study x; series = series x }

-- ---- harmony twice

stands_itself : {T : Type 0} (tuple : Parts → T) {key : T → List ℕ} {order : T → T → Ordering}
    (o : Orders key bytes_cmp order) (m : List Parts)
    → ((v : Parts) → tuple (agreed m v) ≡ greatest_like tuple key order m v)
    → StandsFor key order (map tuple m) (map tuple (harmonised m))
stands_itself tuple {key = key} {order = order} o m is = record {
  inside = λ t c.
      let w = member-unmap tuple t (harmonised m) (member_of t (map tuple (harmonised m)) c) in
      let v = member-unmap (agreed m) w.0 m w.1 in
      let from : greatest_like tuple key order m v.0 ≡ t = sym (is v.0) ∙ ap tuple v.2 ∙ w.2 in
      subst (λ u. Contains (map tuple m) u) from (is_like tuple o m v.0 v.1).greatest.member;
  greatest = λ t g.
      let v = member-unmap tuple t m (member_of t (map tuple m) g.member) in
      let to : tuple (agreed m v.0) ≡ t = is v.0
      ∙ sym (only_like tuple o m v.0 t v.1 (record { like = ap key (sym v.2); greatest = g })) in
      subst (λ u. Contains (map tuple (harmonised m)) u) to
      (contained (tuple (agreed m v.0)) (map tuple (harmonised m))
      (member-map tuple (agreed m v.0) (harmonised m) (member-map (agreed m) v.0 m v.1)));
}

all_stand : (m : List Parts) → AllStandFor m (harmonised m)
all_stand m = record {
  patients = stands_itself patient_of patients_ordered m (λ v. refl);
  studies = stands_itself study_of studies_ordered m (λ v. refl);
  series = stands_itself series_of series_ordered m (λ v. refl);
}

map_settled : {V : Type 0} (f g : V → V) (m : List V) → ((v : V) → Member v m → g (f v) ≡ f v)
    → map g (map f m) ≡ map f m
map_settled f g [] h = refl
map_settled f g (v ∷ m) h = λ j. h v (inl refl) j ∷ map_settled f g m (λ w i. h w (inr i)) j

pub harmony_again_is_same : (m : List Parts) → harmonised (harmonised m) ≡ harmonised m
harmony_again_is_same m = map_settled (agreed m) (agreed (harmonised m)) m
    (λ v i. agreed_again m (harmonised m) m v (all_stand m) i i (member-map (agreed m) v m i))

-- ---- no version is less in harmony

then_not_less : (a b : Ordering) → is_lt a ≡ false → is_lt b ≡ false → is_lt (ordering_then a b) ≡ false
then_not_less Less b e f = e
then_not_less Equal b e f = f
then_not_less Greater b e f = refl

tied : (x : List ℕ) → is_lt (bytes_cmp x x) ≡ false
tied x = ap is_lt (tied_itself nat_list_cmp_total x)

tuple_not_less : {T : Type 0} (tuple : Parts → T) {key : T → List ℕ} {order : T → T → Ordering}
    (o : Orders key bytes_cmp order) (m : List Parts) (v : Parts) → Member v m
    → is_lt (order (greatest_like tuple key order m v) (tuple v)) ≡ false
tuple_not_less tuple o m v i =
    let is = is_like tuple o m v i in
    is.greatest.greatest (tuple v) (contained (tuple v) (map tuple m) (member-map tuple v m i)) (sym is.like)

pub agreed_is_not_less : (m : List Parts) (v : Parts) → Member v m → is_lt (parts_cmp (agreed m v) v) ≡ false
agreed_is_not_less m v i =
    let patient = then_not_less _ _ (tied v.digest) (tuple_not_less patient_of patients_ordered m v i) in
    let study = then_not_less _ _ patient (tuple_not_less study_of studies_ordered m v i) in
    let series = then_not_less _ _ study (tuple_not_less series_of series_ordered m v i) in
    then_not_less _ _ (then_not_less _ _ (then_not_less _ _ (then_not_less _ _ series (tied v.number))
    (tied v.class)) (tied v.transfer)) (tied v.instance)

pub harmony_is_not_less : (m : List Parts) (v w : Parts) → IsCatalogue m → Contains m v → Contains (harmonised m) w
    → v.instance ≡ w.instance → is_lt (parts_cmp w v) ≡ false
harmony_is_not_less m v w up c d same =
    let from = member-unmap (agreed m) w m (member_of w (harmonised m) d) in
    let one = one_version m v from.0 up c (contained from.0 m from.1)
    (same ∙ ap (λ (u : Parts). u.instance) (sym from.2)) in
    subst (λ u. is_lt (parts_cmp u v) ≡ false) (ap (agreed m) one ∙ from.2)
    (agreed_is_not_less m v (member_of v m c))
