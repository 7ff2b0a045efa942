-- The order of versions: keys and parts are compared field by field, as words in a dictionary are letter by letter.
use Rattle.std.specs.Prelude.{◌≡◌, ℕ, List}
use Rattle.std.specs.Cmp.{IsTotalOrder}
use Rattle.std.specs.Ordering.{on, then_cmp, ordering_then}
use Rattle.std.specs.declared.cmp.Ordering.{Ordering}
use Rattle.std.specs.declared.cmp.Ordering.TheVariants.{Less, Equal, Greater}
use Rattle.std.proofs.Common.{refl}
use Rattle.std.proofs.lemmas.Cmp.{then_total, on_total, nat_list_cmp_total}
use Rattle.std.proofs.lemmas.Map.Lookups.{exact_bytes}
use Rattle.dd_elem.specs.Ordered.{TellsApart, bytes_cmp}
use Rattle.dd_version.specs.declared.keys.PatientKeys.{PatientKeys}
use Rattle.dd_version.specs.declared.keys.StudyKeys.{StudyKeys}
use Rattle.dd_version.specs.declared.keys.SeriesKeys.{SeriesKeys}
use Rattle.dd_version.specs.declared.parts.Parts.{Parts}

-- by a field of bytes, as words in a dictionary
abbrev pub by_bytes : {K : Type 0} → (K → List ℕ) → K → K → Ordering
by_bytes field = on field bytes_cmp

-- by one order, and by another where that finds no difference
infixl 20 ◌then◌
abbrev pub ◌then◌ : {K : Type 0} → (K → K → Ordering) → (K → K → Ordering) → K → K → Ordering
first then second = then_cmp first second

abbrev pub patient_cmp : PatientKeys → PatientKeys → Ordering
patient_cmp = by_bytes (λ p. p.id) then by_bytes (λ p. p.name) then by_bytes (λ p. p.charset)

abbrev pub study_cmp : StudyKeys → StudyKeys → Ordering
study_cmp =
    by_bytes (λ s. s.uid) then by_bytes (λ s. s.date) then by_bytes (λ s. s.time) then by_bytes (λ s. s.accession)
    then by_bytes (λ s. s.description) then by_bytes (λ s. s.id) then by_bytes (λ s. s.charset)

abbrev pub series_cmp : SeriesKeys → SeriesKeys → Ordering
series_cmp = by_bytes (λ s. s.uid) then by_bytes (λ s. s.modality) then by_bytes (λ s. s.number)

abbrev pub parts_cmp : Parts → Parts → Ordering
parts_cmp =
    by_bytes (λ v. v.digest) then on (λ v. v.patient) patient_cmp then on (λ v. v.study) study_cmp
    then on (λ v. v.series) series_cmp then by_bytes (λ v. v.number) then by_bytes (λ v. v.class)
    then by_bytes (λ v. v.transfer) then by_bytes (λ v. v.instance)

-- ---- these orders are total

by_total : {K : Type 0} (field : K → List ℕ) → IsTotalOrder (by_bytes field)
by_total field = on_total field nat_list_cmp_total

pub patient_total : IsTotalOrder patient_cmp
patient_total = then_total (then_total (by_total (λ p. p.id)) (by_total (λ p. p.name))) (by_total (λ p. p.charset))

pub study_total : IsTotalOrder study_cmp
study_total =
    then_total (then_total (then_total (then_total
    (then_total (then_total (by_total (λ s. s.uid)) (by_total (λ s. s.date))) (by_total (λ s. s.time)))
    (by_total (λ s. s.accession))) (by_total (λ s. s.description))) (by_total (λ s. s.id))) (by_total (λ s. s.charset))

pub series_total : IsTotalOrder series_cmp
series_total = then_total (then_total (by_total (λ s. s.uid)) (by_total (λ s. s.modality))) (by_total (λ s. s.number))

pub parts_total : IsTotalOrder parts_cmp
parts_total =
    then_total (then_total (then_total (then_total
    (then_total (then_total (then_total (by_total (λ v. v.digest)) (on_total (λ v. v.patient) patient_total))
    (on_total (λ v. v.study) study_total)) (on_total (λ v. v.series) series_total)) (by_total (λ v. v.number)))
    (by_total (λ v. v.class)))
    (by_total (λ v. v.transfer))) (by_total (λ v. v.instance))

-- ---- values that compare equal are equal

-- both comparisons are equal
pub record BothTie (a b : Ordering) : Type 0 where
  pub first : a ≡ Equal
  pub second : b ≡ Equal

pub both_tie : (a b : Ordering) → ordering_then a b ≡ Equal → BothTie a b
both_tie Less b e = absurd (cc)
both_tie Equal b e = record { first = refl; second = e }
both_tie Greater b e = absurd (cc)

pub patient_apart : TellsApart patient_cmp
patient_apart x y tie =
    let charset = both_tie _ _ tie in
    let name = both_tie _ _ charset.first in
    let id_is = exact_bytes x.id y.id name.first in
    let name_is = exact_bytes x.name y.name name.second in
    let charset_is = exact_bytes x.charset y.charset charset.second in
    λ i. record { id = id_is i; name = name_is i; charset = charset_is i }

pub study_apart : TellsApart study_cmp
study_apart x y tie =
    let charset = both_tie _ _ tie in
    let id = both_tie _ _ charset.first in
    let description = both_tie _ _ id.first in
    let accession = both_tie _ _ description.first in
    let time = both_tie _ _ accession.first in
    let date = both_tie _ _ time.first in
    let uid_is = exact_bytes x.uid y.uid date.first in
    let date_is = exact_bytes x.date y.date date.second in
    let time_is = exact_bytes x.time y.time time.second in
    let accession_is = exact_bytes x.accession y.accession accession.second in
    let description_is = exact_bytes x.description y.description description.second in
    let id_is = exact_bytes x.id y.id id.second in
    let charset_is = exact_bytes x.charset y.charset charset.second in
    λ i. record {
      uid = uid_is i;
      date = date_is i;
      time = time_is i;
      accession = accession_is i;
      description = description_is i;
      id = id_is i;
      charset = charset_is i;
    }

pub series_apart : TellsApart series_cmp
series_apart x y tie =
    let number = both_tie _ _ tie in
    let modality = both_tie _ _ number.first in
    let uid_is = exact_bytes x.uid y.uid modality.first in
    let modality_is = exact_bytes x.modality y.modality modality.second in
    let number_is = exact_bytes x.number y.number number.second in
    λ i. record { uid = uid_is i; modality = modality_is i; number = number_is i }

pub parts_apart : TellsApart parts_cmp
parts_apart x y tie =
    let instance = both_tie _ _ tie in
    let transfer = both_tie _ _ instance.first in
    let class = both_tie _ _ transfer.first in
    let number = both_tie _ _ class.first in
    let series = both_tie _ _ number.first in
    let study = both_tie _ _ series.first in
    let patient = both_tie _ _ study.first in
    let digest_is = exact_bytes x.digest y.digest patient.first in
    let patient_is = patient_apart x.patient y.patient patient.second in
    let study_is = study_apart x.study y.study study.second in
    let series_is = series_apart x.series y.series series.second in
    let number_is = exact_bytes x.number y.number number.second in
    let class_is = exact_bytes x.class y.class class.second in
    let transfer_is = exact_bytes x.transfer y.transfer transfer.second in
    let instance_is = exact_bytes x.instance y.instance instance.second in
    λ i. record {
      digest = digest_is i;
      patient = patient_is i;
      study = study_is i;
      series = series_is i;
      number = number_is i;
      class = class_is i;
      transfer = transfer_is i;
      instance = instance_is i;
    }
