-- The records of a directory pass the checks of one that is written here, and say the keys of their versions.
use Rattle.std.proofs.Common.{◌≡◌, ◌≢◌, ◌≤◌, ℕ, Bool, true, false, not, ◌&&◌, List, [], ◌∷◌, length}
use Rattle.std.proofs.Common.{Option, Some, None, refl, ap, ◌∙◌, arith}
use Rattle.std.specs.Prelude.{find, is_some, option_map, if◌then◌else◌}
use Rattle.std.proofs.lemmas.Bool.{and_from, le-leb}
use Rattle.dd_elem.specs.FileId.{AreRanks, Ranks, text_of}
use Rattle.dd_elem.specs.Uid.{IsUid}
use Rattle.dd_elem.proofs.UidForm.{is_uid_from_IsUid}
use Rattle.dd_version.proofs.ImageClasses.{is_image_class_decides}
use Rattle.dd_version.proofs.KnownSyntaxes.{is_known_syntax_decides}
use Rattle.dd_version.specs.Fitting.{is_empty}
use Rattle.dd_set.specs.Find.{value_at}
use Rattle.dd_version.specs.declared.parts.Parts.{Parts}
use Rattle.dd_records.specs.declared.level.Level.TheVariants.{Patient, Study, Series, Image}
use Rattle.dd_records.specs.declared.table.Row.{Row}
use Rattle.dd_records.specs.declared.table.TheConstants as row
use Rattle.dd_records.specs.Records.{kind_of}
use Rattle.dd_encoding.specs.Elements.{Elements}
use Rattle.dd_dir.specs.declared.own_fault.OwnFault.{OwnFault}
use Rattle.dd_dir.specs.declared.own_fault.OwnFault.TheVariants.{NoDigest, RecordKey}
use Rattle.dd_dir.specs.Own.{fault_at, is_bad, is_key, is_sound, key_fault, suits}
use Rattle.dd_version.specs.WellFormed.{IsWellFormed}
use Rattle.dd_dir.proofs.FileTexts.{text_short, text_suits}
use Rattle.dd_dir.proofs.RecordValues.{ImageSays, PatientSays, SeriesSays, StudySays}

-- ---- the rows of a table

no_key : (a : Bool) → (a && false) ≡ false
no_key true = refl
no_key false = refl

-- a row whose element holds a value that suits it is not the first at fault
good_row : (set : Elements) (r : Row) (rows : List Row) (v : List ℕ) → value_at r.tag set ≡ Some v → length v ≤ 1024
    → suits r.field v ≡ true → find (is_bad set) (r ∷ rows) ≡ find (is_bad set) rows
good_row set r rows v held short suit =
    let sound : is_sound r.field (Some v) ≡ true = and_from _ _ (le-leb (length v) 1024 short) suit in
    let good : is_bad set r ≡ false =
    ap (λ (o : Option (List ℕ)). is_key r.field && not (is_sound r.field o)) held
    ∙ ap (λ (b : Bool). is_key r.field && not b) sound ∙ no_key (is_key r.field) in
    ap (λ (b : Bool). if b then Some r else find (is_bad set) rows) good

some_bytes : (v : List ℕ) → v ≢ [] → not (is_empty v) ≡ true
some_bytes [] some = absurd (some refl)
some_bytes (byte ∷ v) some = refl

uid_short : (uid : List ℕ) → IsUid uid → length uid ≤ 1024
uid_short uid is = omega (arith, is.short)

-- ---- level by level

-- the fault that a row at fault makes
abbrev fault_of : ℕ → Option Row → Option OwnFault
fault_of p = option_map (λ (r : Row). RecordKey p r.tag)

pub patient_passes : (p : ℕ) (set : Elements) (v : Parts) → IsWellFormed v → PatientSays set v.patient
    → fault_at (Some Patient) (record { at = p; kind = kind_of Patient; in_use = true; set = set }) ≡ None
patient_passes p set v formed says =
    let keys = formed.patient in
    let some = some_bytes v.patient.id formed.fits.patient_id in
    ap (fault_of p)
    (good_row set row.CHARSET (row.PATIENT_NAME ∷ row.PATIENT_ID ∷ []) v.patient.charset says.charset
    keys.charset.short refl
    ∙ good_row set row.PATIENT_NAME (row.PATIENT_ID ∷ []) v.patient.name says.name keys.name.short refl
    ∙ good_row set row.PATIENT_ID [] v.patient.id says.id keys.id.short some)

-- the rows of a study from the description on
study_rest : (set : Elements) (v : Parts) → IsWellFormed v → StudySays set v.study
    → find (is_bad set) (row.DESCRIPTION ∷ row.STUDY_UID ∷ row.STUDY_ID ∷ []) ≡ None
study_rest set v formed says =
    let keys = formed.study in
    good_row set row.DESCRIPTION (row.STUDY_UID ∷ row.STUDY_ID ∷ []) v.study.description says.description
    keys.description.short refl
    ∙ good_row set row.STUDY_UID (row.STUDY_ID ∷ []) v.study.uid says.uid (uid_short v.study.uid keys.uid)
    (is_uid_from_IsUid v.study.uid keys.uid)
    ∙ good_row set row.STUDY_ID [] v.study.id says.id keys.id.short (some_bytes v.study.id formed.fits.study_id)

pub study_passes : (p : ℕ) (set : Elements) (v : Parts) → IsWellFormed v → StudySays set v.study
    → fault_at (Some Study) (record { at = p; kind = kind_of Study; in_use = true; set = set }) ≡ None
study_passes p set v formed says =
    let keys = formed.study in
    let rest = row.DESCRIPTION ∷ row.STUDY_UID ∷ row.STUDY_ID ∷ [] in
    ap (fault_of p)
    (good_row set row.CHARSET (row.STUDY_DATE ∷ row.STUDY_TIME ∷ row.ACCESSION ∷ rest) v.study.charset says.charset
    keys.charset.short refl
    ∙ good_row set row.STUDY_DATE (row.STUDY_TIME ∷ row.ACCESSION ∷ rest) v.study.date says.date keys.date.short
    (some_bytes v.study.date formed.fits.study_date)
    ∙ good_row set row.STUDY_TIME (row.ACCESSION ∷ rest) v.study.time says.time keys.time.short
    (some_bytes v.study.time formed.fits.study_time)
    ∙ good_row set row.ACCESSION rest v.study.accession says.accession keys.accession.short refl
    ∙ study_rest set v formed says)

pub series_passes : (p : ℕ) (set : Elements) (v : Parts) → IsWellFormed v → SeriesSays set v.series
    → fault_at (Some Series) (record { at = p; kind = kind_of Series; in_use = true; set = set }) ≡ None
series_passes p set v formed says =
    let keys = formed.series in
    ap (fault_of p)
    (good_row set row.MODALITY (row.SERIES_UID ∷ row.SERIES_NUMBER ∷ []) v.series.modality says.modality
    keys.modality.short (some_bytes v.series.modality formed.fits.modality)
    ∙ good_row set row.SERIES_UID (row.SERIES_NUMBER ∷ []) v.series.uid says.uid (uid_short v.series.uid keys.uid)
    (is_uid_from_IsUid v.series.uid keys.uid)
    ∙ good_row set row.SERIES_NUMBER [] v.series.number says.number keys.number.short
    (some_bytes v.series.number formed.fits.series_number))

-- the rows of an image from its class on
image_rest : (set : Elements) (ranks : Ranks) (v : Parts) → IsWellFormed v → ImageSays set (text_of ranks) v
    → find (is_bad set) (row.CLASS ∷ row.INSTANCE ∷ row.TRANSFER ∷ row.CREATOR ∷ row.DIGEST ∷ row.NUMBER ∷ [])
    ≡ None
image_rest set ranks v formed says =
    let own = formed.image in
    let rest = row.CREATOR ∷ row.DIGEST ∷ row.NUMBER ∷ [] in
    good_row set row.CLASS (row.INSTANCE ∷ row.TRANSFER ∷ rest) v.class says.class (uid_short v.class own.class)
    (and_from _ _ (is_uid_from_IsUid v.class own.class) ((is_image_class_decides v.class).1 formed.fits.class))
    ∙ good_row set row.INSTANCE (row.TRANSFER ∷ rest) v.instance says.instance (uid_short v.instance own.instance)
    (is_uid_from_IsUid v.instance own.instance)
    ∙ good_row set row.TRANSFER rest v.transfer says.transfer (uid_short v.transfer own.transfer)
    (and_from _ _ (is_uid_from_IsUid v.transfer own.transfer)
    ((is_known_syntax_decides v.transfer).1 formed.fits.transfer))
    ∙ good_row set row.NUMBER [] v.number says.number own.number.short
    (some_bytes v.number formed.fits.instance_number)

pub image_passes : (p : ℕ) (set : Elements) (ranks : Ranks) (v : Parts) → IsWellFormed v → AreRanks ranks
    → ImageSays set (text_of ranks) v
    → fault_at (Some Image) (record { at = p; kind = kind_of Image; in_use = true; set = set }) ≡ None
image_passes p set ranks v formed are says =
    let rest = row.CLASS ∷ row.INSTANCE ∷ row.TRANSFER ∷ row.CREATOR ∷ row.DIGEST ∷ row.NUMBER ∷ [] in
    ap (λ (o : Option (List ℕ)). if not (is_some o) then Some (NoDigest p) else key_fault p Image set) says.digest
    ∙ ap (fault_of p)
    (good_row set row.FILE rest (text_of ranks) says.file_id (text_short ranks are) (text_suits ranks are)
    ∙ image_rest set ranks v formed says)
