-- The checks and keys by summaries are the checks and keys of the file whose values they sum up.
use Rattle.std.proofs.Common.{◌≡◌, ◌<◌, ◌≤◌, ◌⊎◌, inl, inr, ℕ, true, List, [], ◌∷◌, length, take, map, Option, Some}
use Rattle.std.proofs.Common.{None, Result, Ok, Err}
use Rattle.std.proofs.Common.{if◌then◌else◌, refl, sym, ap, subst, ⊎_elim, ◌∙◌, arith}
use Rattle.std.specs.Prelude.{unwrap_or, IsSome}
use Rattle.std.specs.List.{list_all}
use Rattle.std.proofs.lemmas.Bool.{cases_lt, cond-false, and_parts}
use Rattle.std.proofs.lemmas.List.{take_all, length-take-le}
use Rattle.sha2.specs.Sha256.{sha256}
use Rattle.dd_elem.specs.declared.tag.Tag.{Tag}
use Rattle.dd_elem.proofs.UidForm.{is_uid-long}
use Rattle.dd_scan.specs.Scan.{Summary, summary_of_value, is_wanted}
use Rattle.dd_part10.specs.File.{IsFile}
use Rattle.dd_part10.specs.Reading.{FileParts, file_in}
use Rattle.dd_encoding.specs.Syntaxes.{syntax_of}
use Rattle.dd_part10.specs.declared.fault.FileFault.{FileFault}
use Rattle.dd_encoding.specs.declared.meta.Meta.{Meta}
use Rattle.dd_keys.specs.declared.fault.KeyFault.{KeyFault}
use Rattle.dd_keys.specs.declared.fault.KeyFault.TheVariants.{BadKeyUid, NotImage}
use Rattle.dd_version.specs.declared.parts.Parts.{Parts}
use Rattle.dd_keys.specs.Answers.{Answers}
use Rattle.dd_version.specs.Classes.{is_image_class}
use Rattle.dd_keys.specs.Faults.{first, key_fault_of, uid_fault_of, wanted_uid, key_fault, uid_fault, row_fault}
use Rattle.dd_keys.specs.Faults.{table_fault, fault_of, IsWantOfMemory}
use Rattle.dd_part10.specs.Memory.{SetWants}
use Rattle.dd_version.specs.Fitting.{Fits}
use Rattle.dd_keys.specs.Table.{KeyRow, UidRow, Row, key, uid, rows, charset_row, study_date_row, study_time_row}
use Rattle.dd_keys.specs.Table.{accession_row, modality_row, description_row, patient_name_row, patient_id_row}
use Rattle.dd_keys.specs.Table.{study_row, series_row, study_id_row, series_number_row, instance_number_row}
use Rattle.dd_keys.specs.Summaries.{front_of, summary_key_fault, summary_row_fault}
use Rattle.dd_keys.proofs.Tells.{TellsSet}
use Rattle.dd_keys.specs.Table.{tag_of, wanted_tags}
use Rattle.dd_keys.specs.Summaries.{summary_table_fault, summary_fault, summary_key, summary_bytes, summary_parts}
use Rattle.dd_keys.specs.Summaries.{IsJudged}
use Rattle.dd_keys.specs.Values.{value_at, or_other}
use Rattle.dd_keys.proofs.SetValues.{key_in, uid_in, parts_in}
use Rattle.dd_keys.proofs.FoundVersions.{found_version, or_other_some, file_of, version_parts, refusal_answers}
use Rattle.dd_keys.proofs.Held.{continues, key_held, uid_held}
use Rattle.dd_version.proofs.ImageClasses.{is_image_class_decides}
use Rattle.dd_keys.proofs.Passes.{passes}
use Rattle.dd_encoding.proofs.KnownSyntaxes.{syntax_decides}
use Rattle.dd_part10.proofs.Only.{file_only}

-- ---- the checks

key_same : (tag : Tag) (held : Option (List ℕ)) → summary_key_fault tag (summary_of_value held) ≡ key_fault_of tag held
key_same tag None = refl
key_same tag (Some value) = refl

-- a value of more bytes than a UID may have is no UID
long_uid : (tag : Tag) (wanted : Option (List ℕ)) (value : List ℕ) → 64 < length value
    → uid_fault_of tag wanted (Some value) ≡ Some (BadKeyUid tag)
long_uid tag wanted [] long = absurd (omega (arith, long))
long_uid tag wanted (byte ∷ value) long = cond-false _ _ _ (is_uid-long (byte ∷ value) long)

uid_front : (tag : Tag) (wanted : Option (List ℕ)) (value : List ℕ) → (1024 < length value) ⊎ (length value ≤ 1024)
    → uid_fault_of tag wanted (Some (take 1024 value)) ≡ uid_fault_of tag wanted (Some value)
uid_front tag wanted value (inr short) =
    ap (λ (v : List ℕ). uid_fault_of tag wanted (Some v)) (take_all 1024 value short)
uid_front tag wanted value (inl long) =
    let size = length-take-le 1024 value (omega (arith, long)) in
    long_uid tag wanted (take 1024 value) (omega (arith, size)) ∙ sym (long_uid tag wanted value (omega (arith, long)))

uid_same : (tag : Tag) (wanted held : Option (List ℕ))
    → uid_fault_of tag wanted (front_of (summary_of_value held)) ≡ uid_fault_of tag wanted held
uid_same tag wanted None = refl
uid_same tag wanted (Some value) = uid_front tag wanted value (cases_lt 1024 (length value))

module _ (tells : Tag → Summary) (f : FileParts) (shows : TellsSet tells f.set) where
  row_same : (row : Row) → is_wanted wanted_tags (tag_of row) ≡ true
      → summary_row_fault f.meta tells row ≡ row_fault f row
  row_same (key row) is = ap (summary_key_fault row.tag) (shows row.tag is) ∙ key_same row.tag (value_at row.tag f.set)
  row_same (uid row) is =
      ap (λ (summary : Summary). uid_fault_of row.tag (wanted_uid f.meta row.same_as) (front_of summary))
      (shows row.tag is)
      ∙ uid_same row.tag (wanted_uid f.meta row.same_as) (value_at row.tag f.set)

  rows_same : (some : List Row) → list_all (λ row. is_wanted wanted_tags (tag_of row)) some ≡ true
      → map (summary_row_fault f.meta tells) some ≡ map (row_fault f) some
  rows_same [] all = refl
  rows_same (row ∷ some) all =
      let each = and_parts (is_wanted wanted_tags (tag_of row))
      (list_all (λ row. is_wanted wanted_tags (tag_of row)) some) all in
      let here = row_same row each.0 in
      let others = rows_same some each.1 in
      λ i. here i ∷ others i

  table_same : summary_table_fault f.meta tells ≡ table_fault f
  unfolding summary_table_fault table_fault
  table_same = ap first (rows_same rows refl)

  pub fault_same : summary_fault f.meta tells ≡ fault_of (Ok f)
  fault_same = ap (λ (rest : Option KeyFault). if is_image_class f.meta.class then rest
      else Some (NotImage f.meta.class)) table_same

-- ---- the keys

held_key : (tag : Tag) (held : Option (List ℕ)) → key_fault_of tag held ≡ None → front_of (summary_of_value held) ≡ held
held_key tag held e =
    let h = key_held tag held e in
    rw h.is (ap (λ (v : List ℕ). Some v) (take_all 1024 h.value h.short))

held_uid : (tag : Tag) (wanted held : Option (List ℕ)) → uid_fault_of tag wanted held ≡ None
    → front_of (summary_of_value held) ≡ held
held_uid tag wanted held e =
    let h = uid_held tag wanted held e in
    rw h.is (ap (λ (v : List ℕ). Some v) (take_all 1024 h.value (omega (arith, h.valid.short))))

module _ (tells : Tag → Summary) (f : FileParts) (shows : TellsSet tells f.set) where
  front_is : (tag : Tag) → is_wanted wanted_tags tag ≡ true
      → front_of (summary_of_value (value_at tag f.set)) ≡ value_at tag f.set
      → front_of (tells tag) ≡ value_at tag f.set
  front_is tag is same = ap front_of (shows tag is) ∙ same

  key_is : (row : KeyRow) → is_wanted wanted_tags row.tag ≡ true → key_fault row f.set ≡ None
      → summary_key tells row ≡ key_in row f.set
  key_is row is e =
      ap (λ (held : Option (List ℕ)). or_other (unwrap_or held []) row.when_empty)
      (front_is row.tag is (held_key row.tag (value_at row.tag f.set) e))

  uid_is : (row : UidRow) → is_wanted wanted_tags row.tag ≡ true → uid_fault row f.meta f.set ≡ None
      → summary_bytes tells row.tag ≡ uid_in row.tag f.set
  uid_is row is e =
      ap (λ (held : Option (List ℕ)). unwrap_or held [])
      (front_is row.tag is (held_uid row.tag (wanted_uid f.meta row.same_as) (value_at row.tag f.set) e))

  pub parts_same : (digest : List ℕ) → table_fault f ≡ None → summary_parts tells digest f.meta ≡ parts_in digest f
  parts_same digest none =
      let p = passes f none in
      let charset = key_is charset_row refl p.charset in
      let date = key_is study_date_row refl p.study_date in
      let time = key_is study_time_row refl p.study_time in
      let accession = key_is accession_row refl p.accession in
      let modality = key_is modality_row refl p.modality in
      let description = key_is description_row refl p.description in
      let name = key_is patient_name_row refl p.patient_name in
      let id = key_is patient_id_row refl p.patient_id in
      let study = uid_is study_row refl p.study in
      let series = uid_is series_row refl p.series in
      let study_id = key_is study_id_row refl p.study_id in
      let series_number = key_is series_number_row refl p.series_number in
      let number = key_is instance_number_row refl p.instance_number in
      λ i. record {
        digest = digest;
        patient = record { id = id i; name = name i; charset = charset i };
        study = record {
          uid = study i;
          date = date i;
          time = time i;
          accession = accession i;
          description = description i;
          id = study_id i;
          charset = charset i;
        };
        series = record { uid = series i; modality = modality i; number = series_number i };
        number = number i;
        class = f.meta.class;
        transfer = f.meta.transfer;
        instance = f.meta.instance;
      }

-- the parts by summaries of a file with a known syntax and an image class fit
pub summary_fits : (digest : List ℕ) (meta : Meta) (tells : Tag → Summary) → IsSome (syntax_of meta.transfer)
    → is_image_class meta.class ≡ true
    → Fits (summary_parts tells digest meta)
summary_fits digest meta tells known image = record {
  transfer = (syntax_decides meta.transfer).0 known;
  class = (is_image_class_decides meta.class).0 image;
  study_date = or_other_some (unwrap_or (front_of (tells study_date_row.tag)) []) _ _;
  study_time = or_other_some (unwrap_or (front_of (tells study_time_row.tag)) []) _ _;
  modality = or_other_some (unwrap_or (front_of (tells modality_row.tag)) []) _ _;
  patient_id = or_other_some (unwrap_or (front_of (tells patient_id_row.tag)) []) _ _;
  study_id = or_other_some (unwrap_or (front_of (tells study_id_row.tag)) []) _ _;
  series_number = or_other_some (unwrap_or (front_of (tells series_number_row.tag)) []) _ _;
  instance_number = or_other_some (unwrap_or (front_of (tells instance_number_row.tag)) []) _ _;
}

-- ---- the answer

-- these are the parts of the version of the file
version_answers : (file : List ℕ) (f : FileParts) (parts : Parts) → file_in file ≡ Ok f
    → IsFile file f.meta f.set f.set_at
    → fault_of (Ok f) ≡ None → (table_fault f ≡ None → parts ≡ parts_in (sha256 file) f) → Answers file (Ok parts)
version_answers file f parts read is none same =
    let next = continues (is_image_class f.meta.class) (table_fault f) (NotImage f.meta.class) none in
    let image = (is_image_class_decides f.meta.class).0 next.passes in
    let parts_are = same next.rest_none in
    record {
      found = rw parts_are (found_version file f is image next.rest_none);
      only = λ version h.
          let files : ◌≡◌ {A = Result FileParts FileFault} (Ok f) (Ok (file_of file version h)) =
          sym read ∙ file_only file h.meta h.set h.set_at h.is_file in
          let one : f ≡ file_of file version h = cc in
          parts_are ∙ ap (λ (g : FileParts). parts_in (sha256 file) g) one ∙ version_parts file version h;
      fault = tt;
    }

judged : (file : List ℕ) (f : FileParts) (check : Option KeyFault) (parts : Parts) (answer : Result Parts KeyFault)
    → file_in file ≡ Ok f
    → IsFile file f.meta f.set f.set_at → check ≡ fault_of (Ok f)
    → (table_fault f ≡ None → parts ≡ parts_in (sha256 file) f)
    → IsJudged check parts answer → Answers file answer
judged file f check parts (Ok version) read is same parts_are h =
    version_answers file f version read is (sym same ∙ h.0) (λ none. h.1 ∙ parts_are none)
judged file f check parts (Err fault) read is same parts_are h =
    let refused = ap fault_of read ∙ sym same in
    refusal_answers file fault
    (⊎_elim (λ memory. inl (subst (IsWantOfMemory SetWants file) (sym memory.1) (refused ∙ memory.0)))
    (λ fails. inr (refused ∙ fails)) h)

-- the answer by the summaries of a file is that for the file
pub judged_answers : (file digest : List ℕ) (f : FileParts) (tells : Tag → Summary) (answer : Result Parts KeyFault)
    → file_in file ≡ Ok f
    → IsFile file f.meta f.set f.set_at → TellsSet tells f.set → digest ≡ sha256 file
    → IsJudged (summary_fault f.meta tells) (summary_parts tells digest f.meta) answer → Answers file answer
judged_answers file digest f tells answer read is shows digests h =
    judged file f (summary_fault f.meta tells) (summary_parts tells digest f.meta) answer read is
    (fault_same tells f shows)
    (λ none. parts_same tells f shows digest none ∙ ap (λ (d : List ℕ). parts_in d f) digests) h
