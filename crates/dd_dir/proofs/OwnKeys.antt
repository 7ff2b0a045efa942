-- The record of a path has the last part of the path as its key.
use Rattle.std.specs.Prelude.{◌≡◌, ◌<◌, ◌+◌, ℕ, suc, true, false, List, [], ◌∷◌, length, Option, Some, slice_get}
use Rattle.std.proofs.Common.{refl, ◌∙◌, ap, arith}
use Rattle.dd_elem.specs.Clean.{clean_of}
use Rattle.dd_catalogue.specs.Rising.{by_test}
use Rattle.dd_version.specs.declared.parts.Parts.{Parts}
use Rattle.dd_encoding.specs.Elements.{elements_of}
use Rattle.dd_records.specs.declared.label.Label.{Label}
use Rattle.dd_records.specs.ElementForms.{tag}
use Rattle.dd_layout.specs.Paths.{Path, leads_to}
use Rattle.dd_layout.specs.Plans.{least_below, level_of, path_of, record_at}
use Rattle.dd_layout.proofs.HasLevel.{HasLevel}
use Rattle.dd_dir.specs.Directories.{elements_by}
use Rattle.dd_walk.specs.Saying.{key_of}
use Rattle.dd_dir.specs.Visits.{node_at}
use Rattle.dd_dir.proofs.KeyedRecords.{key_by}
use Rattle.dd_dir.proofs.RecordsSay.{image_is, patient_is, series_is, study_is}
use Rattle.dd_dir.proofs.VisitsAlong.{IsOwn, front_is}

-- the version that the record of a path is of: the path leads to it
pub record IsOfVersion (versions : List Parts) (x : Path) : Type 0 where
  pub version : Parts
  pub found : slice_get versions (least_below versions x) ≡ Some version
  pub leads : leads_to x (path_of version) ≡ true

least_more : (v : Parts) (versions : List Parts) (x : Path) → leads_to x (path_of v) ≡ false
    → IsOfVersion versions x → IsOfVersion (v ∷ versions) x
least_more v versions x other rest =
    let more : 1 + least_below versions x ≡ suc (least_below versions x) = omega arith in
    record { version = rest.version; found = rw (other, more) rest.found; leads = rest.leads }

pub least_leads : (versions : List Parts) (x : Path) → least_below versions x < length versions
    → IsOfVersion versions x
least_leads [] x within = absurd (omega arith)
least_leads (v ∷ versions) x within = by_test (leads_to x (path_of v))
    (λ e. record { version = v; found = rw e refl; leads = e })
    (λ e. let skip : least_below (v ∷ versions) x ≡ 1 + least_below versions x = rw e refl in
    least_more v versions x e (least_leads versions x (omega arith)))

pub own_is : (label : Label) (versions : List Parts) (x : Path) (v : Parts) → HasLevel x
    → slice_get versions (least_below versions x) ≡ Some v → leads_to x (path_of v) ≡ true
    → clean_of (key_by (level_of x) v) ≡ key_by (level_of x) v → IsOwn (node_at label versions) x
own_is label versions [] v level found led clean = absurd level
own_is label versions (p ∷ []) v level found led clean =
    let row = record_at label versions (p ∷ []) in
    let is = front_is (p ∷ []) (path_of v) led in
    let path : v.patient.id ∷ v.study.uid ∷ v.series.uid ∷ v.instance ∷ [] ≡ p ∷ is.0 = is.1 in
    let same : v.patient.id ≡ p = cc in
    ap (λ (k : List ℕ). k ∷ [])
    (ap (λ (o : Option Parts). key_of (tag 0x0010 0x0020) (elements_of (elements_by row o))) found
    ∙ patient_is row.next row.lower row.file v clean ∙ same)
own_is label versions (p ∷ q ∷ []) v level found led clean =
    let row = record_at label versions (p ∷ q ∷ []) in
    let is = front_is (p ∷ q ∷ []) (path_of v) led in
    let path : v.patient.id ∷ v.study.uid ∷ v.series.uid ∷ v.instance ∷ [] ≡ p ∷ q ∷ is.0 = is.1 in
    let same : v.study.uid ≡ q = cc in
    ap (λ (k : List ℕ). p ∷ k ∷ [])
    (ap (λ (o : Option Parts). key_of (tag 0x0020 0x000d) (elements_of (elements_by row o))) found
    ∙ study_is row.next row.lower row.file v clean ∙ same)
own_is label versions (p ∷ q ∷ r ∷ []) v level found led clean =
    let row = record_at label versions (p ∷ q ∷ r ∷ []) in
    let is = front_is (p ∷ q ∷ r ∷ []) (path_of v) led in
    let path : v.patient.id ∷ v.study.uid ∷ v.series.uid ∷ v.instance ∷ [] ≡ p ∷ q ∷ r ∷ is.0 = is.1 in
    let same : v.series.uid ≡ r = cc in
    ap (λ (k : List ℕ). p ∷ q ∷ k ∷ [])
    (ap (λ (o : Option Parts). key_of (tag 0x0020 0x000e) (elements_of (elements_by row o))) found
    ∙ series_is row.next row.lower row.file v clean ∙ same)
own_is label versions (p ∷ q ∷ r ∷ s ∷ []) v level found led clean =
    let row = record_at label versions (p ∷ q ∷ r ∷ s ∷ []) in
    let is = front_is (p ∷ q ∷ r ∷ s ∷ []) (path_of v) led in
    let path : v.patient.id ∷ v.study.uid ∷ v.series.uid ∷ v.instance ∷ [] ≡ p ∷ q ∷ r ∷ s ∷ is.0 = is.1 in
    let same : v.instance ≡ s = cc in
    ap (λ (k : List ℕ). p ∷ q ∷ r ∷ k ∷ [])
    (ap (λ (o : Option Parts). key_of (tag 0x0004 0x1511) (elements_of (elements_by row o))) found
    ∙ image_is row.next row.lower row.file v clean ∙ same)
own_is label versions (p ∷ q ∷ r ∷ s ∷ t ∷ x) v level found led clean = absurd level
