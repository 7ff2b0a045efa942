-- What holds of records that pass their checks.
use Rattle.std.proofs.Common.{◌≡◌, ◌≢◌, ◌≤◌, ℕ, Bool, true, false, not, ◌&&◌, List, [], ◌∷◌, ◌++◌, length}
use Rattle.std.proofs.Common.{Option, Some, None}
use Rattle.std.proofs.Common.{Result, Ok, Err, refl, subst}
use Rattle.std.specs.Prelude.{All, find, option_map, unwrap_or, if◌then◌else◌}
use Rattle.std.proofs.lemmas.Bool.{and_parts, leb-true, not-false}
use Rattle.std.proofs.lemmas.List.Elements.{All-nil, All-cons, All-append}
use Rattle.dd_elem.proofs.Cleaning.{clean_of-clean_of}
use Rattle.dd_elem.specs.Clean.{clean_of}
use Rattle.dd_elem.specs.Key.{IsKey}
use Rattle.dd_elem.specs.Uid.{is_uid}
use Rattle.dd_version.proofs.ImageClasses.{is_image_class_decides}
use Rattle.dd_version.proofs.KnownSyntaxes.{is_known_syntax_decides}
use Rattle.dd_version.specs.Fitting.{Fits, is_empty}
use Rattle.dd_records.specs.declared.field.Field.{Field}
use Rattle.dd_records.specs.declared.level.Level.{Level}
use Rattle.dd_records.specs.declared.level.Level.TheVariants.{Patient, Study, Series, Image}
use Rattle.dd_records.specs.declared.table.Row.{Row}
use Rattle.dd_records.specs.declared.table.TheConstants as row
use Rattle.dd_records.specs.Tables.{table_of}
use Rattle.dd_encoding.specs.Elements.{Elements, Content, Element, bytes, items, fragments}
use Rattle.dd_set.specs.Find.{content_value, element_value, find_in, value_at}
use Rattle.dd_dir.specs.declared.own_fault.OwnFault.{OwnFault}
use Rattle.dd_dir.specs.Own.{Above, root, in_patient, in_study, in_series, in_image, Listed, below, fault_at}
use Rattle.dd_dir.specs.Own.{followed, is_bad, is_key, is_sound, key_fault, level_in, listed_at, listed_in, suits}
use Rattle.dd_dir.specs.Own.{unless}
use Rattle.dd_dir.specs.Own.{lacks_digest}
use Rattle.dd_dir.specs.OwnVersions.{version_of}
use Rattle.dd_dir.specs.OwnViews.{IsListed, Passes}
use Rattle.dd_walk.specs.Saying.{key_of}
use Rattle.dd_walk.specs.Trees.{Node, Trees, no_trees, tree}

-- ---- the rows of a table

abbrev NoneBad : Elements → List Row → Type 0
NoneBad set [] = Unit {0}
NoneBad set (r ∷ rows) = (is_bad set r ≡ false) × NoneBad set rows

not_first : (r : Row) (bad : Bool) (rest : Option Row) → (if bad then Some r else rest) ≡ None
    → (bad ≡ false) × (rest ≡ None)
not_first r true rest e = absurd (cc)
not_first r false rest e = (refl, e)

none_bad : (set : Elements) (rows : List Row) → find (is_bad set) rows ≡ None → NoneBad set rows
none_bad set [] e = tt
none_bad set (r ∷ rows) e =
    let p = not_first r (is_bad set r) (find (is_bad set) rows) e in
    (p.0, none_bad set rows p.1)

-- a value without its padding has none
clean_content : (content : Content)
    → clean_of (unwrap_or (content_value content) []) ≡ unwrap_or (content_value content) []
clean_content (bytes v) = clean_of-clean_of v
clean_content (items form parts) = refl
clean_content (fragments fs) = refl

clean_element : (entry : Option Element) → clean_of (unwrap_or (element_value entry) [])
    ≡ unwrap_or (element_value entry) []
clean_element None = refl
clean_element (Some entry) = clean_content entry.content

-- the value of a row is a key
pub record IsHeld (set : Elements) (r : Row) : Type 0 where
  pub key : IsKey (key_of r.tag set)
  pub suits : suits r.field (key_of r.tag set) ≡ true

sound_held : (field : Field) (v : Option (List ℕ)) → is_sound field v ≡ true
    → (length (unwrap_or v []) ≤ 1024) × (suits field (unwrap_or v []) ≡ true)
sound_held field None e = absurd (cc)
sound_held field (Some v) e = let p = and_parts _ _ e in (leb-true _ _ p.0, p.1)

and_not : (a b : Bool) → (a && not b) ≡ false → a ≡ true → b ≡ true
and_not true b e is = not-false b e
and_not false b e is = absurd (cc)

is_held : (set : Elements) (r : Row) → is_bad set r ≡ false → is_key r.field ≡ true → IsHeld set r
is_held set r e key =
    let v = value_at r.tag set in
    let p = sound_held r.field v (and_not (is_key r.field) (is_sound r.field v) e key) in
    record {
      key = record { clean = clean_element (find_in r.tag set); short = p.0 };
      suits = p.1;
    }

-- ---- records

pub record PatientHeld (set : Elements) : Type 0 where
  pub charset : IsHeld set row.CHARSET
  pub name : IsHeld set row.PATIENT_NAME
  pub id : IsHeld set row.PATIENT_ID

pub patient_held : (set : Elements) → Passes Patient set → PatientHeld set
patient_held set e =
    let h : NoneBad set (table_of Patient) = none_bad set (table_of Patient) e in
    let keys = h.1.1.1.1 in
    record {
      charset = is_held set row.CHARSET keys.0 refl;
      name = is_held set row.PATIENT_NAME keys.1.0 refl;
      id = is_held set row.PATIENT_ID keys.1.1.0 refl;
    }

pub record StudyHeld (set : Elements) : Type 0 where
  pub charset : IsHeld set row.CHARSET
  pub date : IsHeld set row.STUDY_DATE
  pub time : IsHeld set row.STUDY_TIME
  pub accession : IsHeld set row.ACCESSION
  pub description : IsHeld set row.DESCRIPTION
  pub uid : IsHeld set row.STUDY_UID
  pub id : IsHeld set row.STUDY_ID

pub study_held : (set : Elements) → Passes Study set → StudyHeld set
study_held set e =
    let h : NoneBad set (table_of Study) = none_bad set (table_of Study) e in
    let keys = h.1.1.1.1 in
    record {
      charset = is_held set row.CHARSET keys.0 refl;
      date = is_held set row.STUDY_DATE keys.1.0 refl;
      time = is_held set row.STUDY_TIME keys.1.1.0 refl;
      accession = is_held set row.ACCESSION keys.1.1.1.0 refl;
      description = is_held set row.DESCRIPTION keys.1.1.1.1.0 refl;
      uid = is_held set row.STUDY_UID keys.1.1.1.1.1.0 refl;
      id = is_held set row.STUDY_ID keys.1.1.1.1.1.1.0 refl;
    }

pub record SeriesHeld (set : Elements) : Type 0 where
  pub modality : IsHeld set row.MODALITY
  pub uid : IsHeld set row.SERIES_UID
  pub number : IsHeld set row.SERIES_NUMBER

pub series_held : (set : Elements) → Passes Series set → SeriesHeld set
series_held set e =
    let h : NoneBad set (table_of Series) = none_bad set (table_of Series) e in
    let keys = h.1.1.1.1 in
    record {
      modality = is_held set row.MODALITY keys.0 refl;
      uid = is_held set row.SERIES_UID keys.1.0 refl;
      number = is_held set row.SERIES_NUMBER keys.1.1.0 refl;
    }

pub record ImageHeld (set : Elements) : Type 0 where
  pub file : IsHeld set row.FILE
  pub class : IsHeld set row.CLASS
  pub instance : IsHeld set row.INSTANCE
  pub transfer : IsHeld set row.TRANSFER
  pub number : IsHeld set row.NUMBER

pub image_held : (set : Elements) → Passes Image set → ImageHeld set
image_held set e =
    let h : NoneBad set (table_of Image) = none_bad set (table_of Image) e in
    let keys = h.1.1.1.1 in
    record {
      file = is_held set row.FILE keys.0 refl;
      class = is_held set row.CLASS keys.1.0 refl;
      instance = is_held set row.INSTANCE keys.1.1.0 refl;
      transfer = is_held set row.TRANSFER keys.1.1.1.0 refl;
      number = is_held set row.NUMBER keys.1.1.1.1.1.1.0 refl;
    }

-- ---- the UIDs of an image

pub class_is_uid : (set : Elements) → IsHeld set row.CLASS → is_uid (key_of row.CLASS.tag set) ≡ true
class_is_uid set h = (and_parts _ _ h.suits).0

pub transfer_is_uid : (set : Elements) → IsHeld set row.TRANSFER → is_uid (key_of row.TRANSFER.tag set) ≡ true
transfer_is_uid set h = (and_parts _ _ h.suits).0

-- ---- the version of an image fits

some_bytes : (key : List ℕ) → not (is_empty key) ≡ true → key ≢ []
some_bytes [] e = absurd (cc)
some_bytes (byte ∷ rest) e = λ none. absurd (cc)

pub version_fits : (image : Listed) → IsListed image → Fits (version_of image)
version_fits image is =
    let patient = patient_held image.patient is.patient in
    let study = study_held image.study is.study in
    let series = series_held image.series is.series in
    let own = image_held image.own is.own in
    record {
      transfer = (is_known_syntax_decides (key_of row.TRANSFER.tag image.own)).0
          (and_parts _ _ own.transfer.suits).1;
      class = (is_image_class_decides (key_of row.CLASS.tag image.own)).0 (and_parts _ _ own.class.suits).1;
      study_date = some_bytes (key_of row.STUDY_DATE.tag image.study) study.date.suits;
      study_time = some_bytes (key_of row.STUDY_TIME.tag image.study) study.time.suits;
      modality = some_bytes (key_of row.MODALITY.tag image.series) series.modality.suits;
      patient_id = some_bytes (key_of row.PATIENT_ID.tag image.patient) patient.id.suits;
      study_id = some_bytes (key_of row.STUDY_ID.tag image.study) study.id.suits;
      series_number = some_bytes (key_of row.SERIES_NUMBER.tag image.series) series.number.suits;
      instance_number = some_bytes (key_of row.NUMBER.tag image.own) own.number.suits;
    }

-- ---- the images of trees pass

AreSound : Above → Type 0
AreSound root = Unit {0}
AreSound (in_patient patient) = Passes Patient patient
AreSound (in_study patient study) = Passes Patient patient × Passes Study study
AreSound (in_series patient study series) = Passes Patient patient × Passes Study study × Passes Series series
AreSound in_image = Unit {0}

two_tests : (a b : Bool) (f g : OwnFault) (rest : Option OwnFault)
    → (if a then Some f else (if b then Some g else rest)) ≡ None → (b ≡ false) × (rest ≡ None)
two_tests true b f g rest e = absurd (cc)
two_tests false true f g rest e = absurd (cc)
two_tests false false f g rest e = (refl, e)

none_mapped : (f : Row → OwnFault) (o : Option Row) → option_map f o ≡ None → o ≡ None
none_mapped f None e = refl
none_mapped f (Some r) e = absurd (cc)

passes : (level : Level) (node : Node) → fault_at (Some level) node ≡ None
    → (lacks_digest level node.set ≡ false) × Passes level node.set
passes level node e =
    let p = two_tests _ _ _ _ (key_fault node.at level node.set) e in
    (p.0, none_mapped _ (find (is_bad node.set) (table_of level)) p.1)

below_sound : (above : Above) (node : Node) → fault_at (level_in above) node ≡ None → AreSound above
    → AreSound (below above node.set) × All IsListed (listed_at above node.set)
unfolding AreSound
below_sound root node e h = ((passes Patient node e).1, All-nil IsListed)
below_sound (in_patient patient) node e h = ((h, (passes Study node e).1), All-nil IsListed)
below_sound (in_study patient study) node e h = ((h.0, h.1, (passes Series node e).1), All-nil IsListed)
below_sound (in_series patient study series) node e h =
    let p = passes Image node e in
    let image : Listed = record { patient = patient; study = study; series = series; own = node.set } in
    let is : IsListed image = record {
      patient = h.0;
      study = h.1;
      series = h.2;
      own = p.1;
      digest = not-false _ p.0;
    } in
    (tt, All-cons IsListed image [] is (All-nil IsListed))
below_sound in_image node e h = absurd (cc)

pub record AreFollowed (x y : Result (List Listed) OwnFault) (all : List Listed) : Type 0 where
  pub first : List Listed
  pub then_come : List Listed
  pub is_first : x ≡ Ok first
  pub is_then : y ≡ Ok then_come
  pub both : first ++ then_come ≡ all

pub are_followed : (x y : Result (List Listed) OwnFault) (all : List Listed) → followed x y ≡ Ok all
    → AreFollowed x y all
are_followed (Err e) y all same = absurd (cc)
are_followed (Ok xs) (Err e) all same = absurd (cc)
are_followed (Ok xs) (Ok ys) all same =
    record { first = xs; then_come = ys; is_first = refl; is_then = refl; both = cc }

pub no_fault : (f : Option OwnFault) (images all : List Listed) → unless f images ≡ Ok all → (f ≡ None) × (images ≡ all)
no_fault None images all e = (refl, cc)
no_fault (Some f) images all e = absurd (cc)

pub nothing_listed : (images : List Listed) → ◌≡◌ {A = Result (List Listed) OwnFault} (Ok []) (Ok images) → [] ≡ images
nothing_listed images e = cc

sound_from : (above : Above) (trees : Trees) (images : List Listed) → AreSound above → listed_in above trees ≡ Ok images
    → All IsListed images
sound_from above no_trees images h e =
    subst (λ (s : List Listed). All IsListed s) (nothing_listed images e) (All-nil IsListed)
sound_from above (tree node lower after) images h e =
    let one = followed (unless (fault_at (level_in above) node) (listed_at above node.set))
    (listed_in (below above node.set) lower) in
    let all = are_followed one (listed_in above after) images e in
    let here = are_followed (unless (fault_at (level_in above) node) (listed_at above node.set))
    (listed_in (below above node.set) lower) all.first all.is_first in
    let own = no_fault (fault_at (level_in above) node) (listed_at above node.set) here.first here.is_first in
    let sound = below_sound above node own.0 h in
    let first : All IsListed here.first = subst (λ (s : List Listed). All IsListed s) own.1 sound.1 in
    let under : All IsListed here.then_come =
    sound_from (below above node.set) lower here.then_come sound.0 here.is_then in
    let rest : All IsListed all.then_come = sound_from above after all.then_come h all.is_then in
    let front : All IsListed all.first = subst (λ (s : List Listed). All IsListed s) here.both
    (All-append IsListed here.first here.then_come first under) in
    subst (λ (s : List Listed). All IsListed s) all.both (All-append IsListed all.first all.then_come front rest)

pub listed_sound : (trees : Trees) (images : List Listed) → listed_in root trees ≡ Ok images → All IsListed images
unfolding AreSound
listed_sound trees images e = sound_from root trees images tt e
