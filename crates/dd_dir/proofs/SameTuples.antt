-- Versions in harmony that have one patient, study or series have one tuple of its keys.
use Rattle.std.specs.Prelude.{◌≡◌, ℕ, List, map}
use Rattle.std.specs.declared.cmp.Ordering.{Ordering}
use Rattle.std.proofs.Common.{sym, ◌∙◌, ap}
use Rattle.std.proofs.lemmas.Option.{same_Some}
use Rattle.dd_elem.specs.Ordered.{bytes_cmp}
use Rattle.dd_version.specs.Orders.{patient_total, patient_apart, study_total, study_apart}
use Rattle.dd_version.specs.Orders.{series_total, series_apart}
use Rattle.dd_version.specs.declared.parts.Parts.{Parts}
use Rattle.dd_catalogue.specs.BestLaws.{best_at}
use Rattle.dd_catalogue.proofs.Members.{Member}
use Rattle.dd_catalogue.proofs.BestMembers.{best_at_key}
use Rattle.dd_catalogue.specs.Harmony.{agreed, greatest_like, harmonised, patient_key, patient_of, series_key}
use Rattle.dd_catalogue.specs.Harmony.{series_of, study_key, study_of}
use Rattle.dd_catalogue.specs.Rising.{Orders}
use Rattle.dd_catalogue.proofs.Harmonies.{best_like}
use Rattle.dd_catalogue.proofs.Harmonised.{member-unmap}
use Rattle.dd_catalogue.proofs.Places.{by_key}

-- the greatest tuples of one key are one
same_like : {V T : Type 0} (tuple : V → T) {key : T → List ℕ} {order : T → T → Ordering}
    (o : Orders key bytes_cmp order) (m : List V) (v w : V) → Member v m → Member w m
    → key (greatest_like tuple key order m v) ≡ key (greatest_like tuple key order m w)
    → greatest_like tuple key order m v ≡ greatest_like tuple key order m w
same_like tuple {key = key} {order = order} o m v w i j same =
    let one = best_like tuple o m v i in
    let other = best_like tuple o m w j in
    let keys : key (tuple v) ≡ key (tuple w) =
    sym (best_at_key o (key (tuple v)) (map tuple m) (greatest_like tuple key order m v) one) ∙ same
    ∙ best_at_key o (key (tuple w)) (map tuple m) (greatest_like tuple key order m w) other in
    same_Some (greatest_like tuple key order m v) (greatest_like tuple key order m w)
    (sym one ∙ ap (λ k. best_at key bytes_cmp order (map tuple m) k) keys ∙ other)

-- versions of one patient, study or series have its keys alike
pub record AreAlike (versions : List Parts) : Type 0 where
  pub patient : (v w : Parts) → Member v versions → Member w versions → v.patient.id ≡ w.patient.id
      → v.patient ≡ w.patient
  pub study : (v w : Parts) → Member v versions → Member w versions → v.study.uid ≡ w.study.uid
      → v.study ≡ w.study
  pub series : (v w : Parts) → Member v versions → Member w versions → v.series.uid ≡ w.series.uid
      → v.series ≡ w.series

pub harmony_is_alike : (m : List Parts) → AreAlike (harmonised m)
harmony_is_alike m = record {
  patient = λ v w i j same.
      let a = member-unmap (agreed m) v m i in
      let b = member-unmap (agreed m) w m j in
      ap patient_of (sym a.2)
      ∙ same_like patient_of (by_key patient_key patient_total patient_apart) m a.0 b.0 a.1 b.1
      (ap (λ (u : Parts). u.patient.id) a.2 ∙ same ∙ ap (λ (u : Parts). u.patient.id) (sym b.2))
      ∙ ap patient_of b.2;
  study = λ v w i j same.
      let a = member-unmap (agreed m) v m i in
      let b = member-unmap (agreed m) w m j in
      ap study_of (sym a.2)
      ∙ same_like study_of (by_key study_key study_total study_apart) m a.0 b.0 a.1 b.1
      (ap (λ (u : Parts). u.study.uid) a.2 ∙ same ∙ ap (λ (u : Parts). u.study.uid) (sym b.2))
      ∙ ap study_of b.2;
  series = λ v w i j same.
      let a = member-unmap (agreed m) v m i in
      let b = member-unmap (agreed m) w m j in
      ap series_of (sym a.2)
      ∙ same_like series_of (by_key series_key series_total series_apart) m a.0 b.0 a.1 b.1
      (ap (λ (u : Parts). u.series.uid) a.2 ∙ same ∙ ap (λ (u : Parts). u.series.uid) (sym b.2))
      ∙ ap series_of b.2;
}
