-- What is read of a file that passes the checks is its version, and a file of a version passes them and gives it.
use Rattle.std.proofs.Common.{◌≡◌, ◌≢◌, ◌<◌, ◌^◌, ◌⊎◌, inl, inr, length, ⊎_elim, ℕ, true, List, [], ◌∷◌, Some, None}
use Rattle.std.proofs.Common.{Result, Ok, Err, refl, sym, ap, ◌∙◌}
use Rattle.std.specs.Prelude.{Contains, IsErr, IfErr}
use Rattle.std.proofs.lemmas.Bool.{cond-true}
use Rattle.sha2.specs.Sha256.{sha256}
use Rattle.dd_encoding.specs.Elements.{Elements}
use Rattle.dd_part10.specs.File.{IsFile}
use Rattle.dd_part10.specs.Reading.{FileParts, file_in}
use Rattle.dd_part10.specs.declared.fault.FileFault.{FileFault}
use Rattle.dd_part10.specs.declared.fault.FileFault.TheVariants as faults
use Rattle.dd_grammar.specs.AnswersAs.{FailsAs}
use Rattle.dd_part10.specs.Faults.{is_memory}
use Rattle.dd_part10.specs.Memory.{GroupWants, SetWants}
use Rattle.dd_part10.proofs.Found.{file_found}
use Rattle.dd_stream.specs.Bytes.{AreBytes}
use Rattle.dd_grammar.specs.declared.fault.SetFault.TheVariants.{Memory}
use Rattle.dd_part10.proofs.Only.{file_only}
use Rattle.dd_keys.specs.declared.fault.KeyFault.{KeyFault}
use Rattle.dd_keys.specs.declared.fault.KeyFault.TheVariants.{File, NotImage}
use Rattle.dd_version.specs.Classes.{image_classes, is_image_class}
use Rattle.dd_keys.specs.Faults.{table_fault, fault_of, first_fault, IsWantOfMemory}
use Rattle.dd_keys.specs.Answers.{Answers}
use Rattle.dd_keys.specs.Table.{charset_row, class_row, instance_row, study_date_row, study_time_row, accession_row}
use Rattle.dd_keys.specs.Table.{modality_row, description_row, patient_name_row, patient_id_row, study_row, series_row}
use Rattle.dd_keys.specs.Table.{study_id_row, series_number_row, instance_number_row}
use Rattle.dd_keys.specs.Values.{or_other}
use Rattle.dd_keys.proofs.SetValues.{parts_in, patient_in, study_in, series_in}
use Rattle.dd_keys.specs.Versions.{HasPatient, HasStudy, HasSeries, IsVersion}
use Rattle.dd_version.specs.declared.keys.PatientKeys.{PatientKeys}
use Rattle.dd_version.specs.declared.keys.StudyKeys.{StudyKeys}
use Rattle.dd_version.specs.declared.keys.SeriesKeys.{SeriesKeys}
use Rattle.dd_version.specs.declared.parts.Parts.{Parts}
use Rattle.dd_keys.proofs.Held.{continues, has_key, has_uid, has_wanted_uid, key_passes, key_in-is, uid_passes}
use Rattle.dd_keys.proofs.Held.{uid_in-is}
use Rattle.dd_version.proofs.ImageClasses.{is_image_class_decides}
use Rattle.dd_keys.proofs.Passes.{passes, table_fault_none}

-- ---- what is read is the version

pub found_version : (file : List ℕ) (f : FileParts) → IsFile file f.meta f.set f.set_at
    → Contains image_classes f.meta.class → table_fault f ≡ None → IsVersion file (parts_in (sha256 file) f)
found_version file f is_file image none =
    let p = passes f none in
    record {
      meta = f.meta;
      set = f.set;
      set_at = f.set_at;
      is_file = is_file;
      image = image;
      digest = refl;
      patient = record {
        id = has_key patient_id_row f.set p.patient_id;
        name = has_key patient_name_row f.set p.patient_name;
        charset = has_key charset_row f.set p.charset;
      };
      study = record {
        uid = has_uid study_row f.meta f.set p.study;
        date = has_key study_date_row f.set p.study_date;
        time = has_key study_time_row f.set p.study_time;
        accession = has_key accession_row f.set p.accession;
        description = has_key description_row f.set p.description;
        id = has_key study_id_row f.set p.study_id;
        charset = has_key charset_row f.set p.charset;
      };
      series = record {
        uid = has_uid series_row f.meta f.set p.series;
        modality = has_key modality_row f.set p.modality;
        number = has_key series_number_row f.set p.series_number;
      };
      number = has_key instance_number_row f.set p.instance_number;
      class = refl;
      class_again = has_wanted_uid class_row f.meta f.set f.meta.class p.class refl;
      transfer = refl;
      instance = refl;
      instance_again = has_wanted_uid instance_row f.meta f.set f.meta.instance p.instance refl;
    }

-- ---- what stands for an empty value is not empty

pub or_other_some : (value : List ℕ) (byte : ℕ) (other : List ℕ) → or_other value (byte ∷ other) ≢ []
or_other_some [] byte other = λ none. absurd (cc)
or_other_some (first ∷ value) byte other = λ none. absurd (cc)

-- ---- a file of a version passes, and gives it

patient_is : (set : Elements) (patient : PatientKeys) → HasPatient set patient → patient_in set ≡ patient
patient_is set patient h =
    let id = key_in-is set patient_id_row patient.id h.id in
    let name = key_in-is set patient_name_row patient.name h.name in
    let charset = key_in-is set charset_row patient.charset h.charset in
    λ i. record { id = id i; name = name i; charset = charset i }

study_is : (set : Elements) (study : StudyKeys) → HasStudy set study → study_in set ≡ study
study_is set study h =
    let uid = uid_in-is set study_row.tag study.uid h.uid in
    let date = key_in-is set study_date_row study.date h.date in
    let time = key_in-is set study_time_row study.time h.time in
    let accession = key_in-is set accession_row study.accession h.accession in
    let description = key_in-is set description_row study.description h.description in
    let id = key_in-is set study_id_row study.id h.id in
    let charset = key_in-is set charset_row study.charset h.charset in
    λ i. record {
      uid = uid i;
      date = date i;
      time = time i;
      accession = accession i;
      description = description i;
      id = id i;
      charset = charset i;
    }

series_is : (set : Elements) (series : SeriesKeys) → HasSeries set series → series_in set ≡ series
series_is set series h =
    let uid = uid_in-is set series_row.tag series.uid h.uid in
    let modality = key_in-is set modality_row series.modality h.modality in
    let number = key_in-is set series_number_row series.number h.number in
    λ i. record { uid = uid i; modality = modality i; number = number i }

-- the file that a version is of
abbrev pub file_of : (file : List ℕ) (version : Parts) → IsVersion file version → FileParts
file_of file version h = record { meta = h.meta; set = h.set; set_at = h.set_at }

pub version_image : (file : List ℕ) (version : Parts) (h : IsVersion file version) → is_image_class h.meta.class ≡ true
version_image file version h = (is_image_class_decides h.meta.class).1 h.image

pub version_passes : (file : List ℕ) (version : Parts) (h : IsVersion file version)
    → table_fault (file_of file version h) ≡ None
version_passes file version h = table_fault_none (file_of file version h) (record {
  charset = key_passes h.set charset_row version.patient.charset h.patient.charset;
  class = uid_passes h.set class_row h.meta h.meta.class h.class_again (λ other is. cc);
  instance = uid_passes h.set instance_row h.meta h.meta.instance h.instance_again (λ other is. cc);
  study_date = key_passes h.set study_date_row version.study.date h.study.date;
  study_time = key_passes h.set study_time_row version.study.time h.study.time;
  accession = key_passes h.set accession_row version.study.accession h.study.accession;
  modality = key_passes h.set modality_row version.series.modality h.series.modality;
  description = key_passes h.set description_row version.study.description h.study.description;
  patient_name = key_passes h.set patient_name_row version.patient.name h.patient.name;
  patient_id = key_passes h.set patient_id_row version.patient.id h.patient.id;
  study = uid_passes h.set study_row h.meta version.study.uid h.study.uid (λ other is. absurd (cc));
  series = uid_passes h.set series_row h.meta version.series.uid h.series.uid (λ other is. absurd (cc));
  study_id = key_passes h.set study_id_row version.study.id h.study.id;
  series_number = key_passes h.set series_number_row version.series.number h.series.number;
  instance_number = key_passes h.set instance_number_row version.number h.number;
})

pub version_parts : (file : List ℕ) (version : Parts) (h : IsVersion file version)
    → parts_in (sha256 file) (file_of file version h) ≡ version
version_parts file version h =
    let digest = h.digest in
    let patient = patient_is h.set version.patient h.patient in
    let study = study_is h.set version.study h.study in
    let series = series_is h.set version.series h.series in
    let number = key_in-is h.set instance_number_row version.number h.number in
    let class = h.class in
    let transfer = h.transfer in
    let instance = h.instance in
    let back : version ≡ parts_in (sha256 file) (file_of file version h) =
    λ i. record {
      digest = digest i;
      patient = sym patient i;
      study = sym study i;
      series = sym series i;
      number = sym number i;
      class = class i;
      transfer = transfer i;
      instance = instance i;
    } in
    sym back

-- a file of a version fails no check
pub first_fault_none : (file : List ℕ) (version : Parts) → IsVersion file version → first_fault file ≡ None
first_fault_none file version h =
    ap fault_of (file_only file h.meta h.set h.set_at h.is_file)
    ∙ cond-true (is_image_class h.meta.class) _ _ (version_image file version h)
    ∙ version_passes file version h

-- a refusal of the parse is the first check that fails, or lack of memory
pub file_refused : (file : List ℕ) (e : FileFault) → FailsAs is_memory e (file_in file)
    → (e ≡ faults.Meta Memory → GroupWants file) → (e ≡ faults.Set Memory → SetWants file)
    → IsWantOfMemory SetWants file (File e) ⊎ (first_fault file ≡ Some (File e))
file_refused file (faults.Meta Memory) is group set = inl (group refl)
file_refused file (faults.Set Memory) is group set = inl (set refl)
file_refused file fault is group set = inr (ap fault_of is)

-- so a refusal of it is lack of memory
refusal_is_memory : (file : List ℕ) (version : Parts) (fault : KeyFault) → IsVersion file version
    → IsWantOfMemory SetWants file fault ⊎ (first_fault file ≡ Some fault) → IsWantOfMemory SetWants file fault
refusal_is_memory file version fault h refused =
    let none = first_fault_none file version h in
    ⊎_elim (λ memory. memory) (λ is. absurd (cc)) refused

-- a refusal that is the first check that fails, or lack of memory, answers
pub refusal_answers : (file : List ℕ) (fault : KeyFault)
    → IsWantOfMemory SetWants file fault ⊎ (first_fault file ≡ Some fault)
    → Answers file (Err fault)
refusal_answers file fault h =
    record { found = tt; only = λ version is. refusal_is_memory file version fault is h; fault = h }

pub refused_answers : (file : List ℕ) (answer : Result Parts KeyFault) → IsErr answer
    → IfErr answer (λ fault. IsWantOfMemory SetWants file fault ⊎ (first_fault file ≡ Some fault)) → Answers file answer
refused_answers file (Ok parts) refused h = absurd (cc)
refused_answers file (Err fault) refused h = refusal_answers file fault h

-- ---- one version, or a check that fails

pub one_version : (file : List ℕ) (version other : Parts) → IsVersion file version → IsVersion file other
    → version ≡ other
one_version file version other h k =
    let same : ◌≡◌ {A = Result FileParts FileFault} (Ok (file_of file version h)) (Ok (file_of file other k)) =
    sym (file_only file h.meta h.set h.set_at h.is_file) ∙ file_only file k.meta k.set k.set_at k.is_file in
    let files : file_of file version h ≡ file_of file other k = cc in
    sym (version_parts file version h) ∙ ap (λ (f : FileParts). parts_in (sha256 file) f) files
    ∙ version_parts file other k

-- no check of what was read fails
version_in : (file : List ℕ) (read : Result FileParts FileFault) → AreBytes file → length file < 2 ^ 64
    → file_in file ≡ read → fault_of read ≡ None → (version : Parts) × IsVersion file version
version_in file (Err fault) fits room is none = absurd (cc)
version_in file (Ok f) fits room is none =
    let next = continues (is_image_class f.meta.class) (table_fault f) (NotImage f.meta.class) none in
    let image = (is_image_class_decides f.meta.class).0 next.passes in
    (parts_in (sha256 file) f, found_version file f (file_found file f is fits room) image next.rest_none)

pub version_exists : (file : List ℕ) → AreBytes file → length file < 2 ^ 64 → first_fault file ≡ None
    → (version : Parts) × IsVersion file version
version_exists file fits room none = version_in file (file_in file) fits room refl none
