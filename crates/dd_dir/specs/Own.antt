-- Which images a directory that this crate wrote lists: the IMAGE records, each with the records above it (PS3.3
-- sections F.3 to F.5). Or else the first check that a record fails, depth first.
use Rattle.std.specs.Prelude.{◌≡◌, ◌≢◌, ◌⊎◌, ℕ, Bool, true, false, not, ◌&&◌, nat_le, List, [], ◌∷◌, ◌++◌}
use Rattle.std.specs.Prelude.{length, find, Option, Some, None, is_some, option_map, Result, Ok, Err}
use Rattle.std.specs.Prelude.{if◌then◌else◌}
use Rattle.std.specs.Str.{bytes_eq}
use Rattle.dd_elem.specs.FileIdForm.{is_file_id_form}
use Rattle.dd_elem.specs.Key.{max_key_length}
use Rattle.dd_elem.specs.Uid.{is_uid}
use Rattle.dd_version.specs.Classes.{is_image_class}
use Rattle.dd_version.specs.Fitting.{is_empty}
use Rattle.dd_set.specs.Find.{value_at}
use Rattle.dd_records.specs.declared.field.Field.{Field}
use Rattle.dd_records.specs.declared.field.Field.TheVariants as fields
use Rattle.dd_records.specs.declared.level.Level.{Level}
use Rattle.dd_records.specs.declared.level.Level.TheVariants.{Patient, Study, Series, Image}
use Rattle.dd_records.specs.declared.table.Row.{Row}
use Rattle.dd_records.specs.Records.{kind_of}
use Rattle.dd_records.specs.Tables.{table_of}
use Rattle.dd_version.specs.Syntaxes.{is_known_syntax}
use Rattle.dd_encoding.specs.Elements.{Elements}
use Rattle.dd_dir.specs.declared.own_fault.OwnFault.{OwnFault}
use Rattle.dd_dir.specs.declared.own_fault.OwnFault.TheVariants.{NoDigest, ForeignRecord, RecordKey}
use Rattle.dd_walk.specs.Saying.{digest_in}
use Rattle.dd_walk.specs.Trees.{Node, Trees, no_trees, tree, Walk}

-- ---- where a record stands

-- the elements of the records above: none at the root, and else one of each level down to an image
pub data Above : Type 0 where
  root : Above
  in_patient : Elements → Above
  in_study : Elements → Elements → Above
  in_series : Elements → Elements → Elements → Above
  in_image : Above

-- the level of a record that stands there: none below an image
abbrev pub level_in : Above → Option Level
level_in root = Some Patient
level_in (in_patient patient) = Some Study
level_in (in_study patient study) = Some Series
level_in (in_series patient study series) = Some Image
level_in in_image = None

-- what is above the records below a record with these elements
abbrev pub below : Above → Elements → Above
below root set = in_patient set
below (in_patient patient) set = in_study patient set
below (in_study patient study) set = in_series patient study set
below (in_series patient study series) set = in_image
below in_image set = in_image

-- ---- its keys

-- all fields are keys but those that join records, the type, and the digest with its creator
abbrev pub is_key : Field → Bool
is_key fields.Next = false
is_key fields.InUse = false
is_key fields.Lower = false
is_key fields.Kind = false
is_key fields.Creator = false
is_key fields.Digest = false
is_key field = true

-- The bytes suit the field: a File ID, an image class that is taken, a transfer syntax that is known, a UID, or a key.
-- A key is not empty where the record must have it (type 1, PS3.3 section F.5).
abbrev pub suits : Field → List ℕ → Bool
suits fields.File v = is_file_id_form v
suits fields.Class v = is_uid v && is_image_class v
suits fields.Transfer v = is_uid v && is_known_syntax v
suits fields.Instance v = is_uid v
suits fields.StudyUid v = is_uid v
suits fields.SeriesUid v = is_uid v
suits fields.PatientId v = not (is_empty v)
suits fields.StudyDate v = not (is_empty v)
suits fields.StudyTime v = not (is_empty v)
suits fields.StudyId v = not (is_empty v)
suits fields.Modality v = not (is_empty v)
suits fields.SeriesNumber v = not (is_empty v)
suits fields.Number v = not (is_empty v)
suits field v = true

-- a value without its padding is no sequence, has no more bytes than a key may, and suits the field
abbrev pub is_sound : Field → Option (List ℕ) → Bool
is_sound field None = false
is_sound field (Some v) = nat_le (length v) max_key_length && suits field v

-- the element of a row of the table is no such key
abbrev pub is_bad : Elements → Row → Bool
is_bad set row = is_key row.field && not (is_sound row.field (value_at row.tag set))

-- ---- the checks of a record, in order

-- it is in use, and of the type of its level
abbrev pub is_own : Level → Node → Bool
is_own level node = node.in_use && bytes_eq node.kind (kind_of level)

-- an image has a digest
abbrev pub lacks_digest : Level → Elements → Bool
lacks_digest Image set = not (is_some (digest_in set))
lacks_digest level set = false

-- the first row of the table of its level, so the least tag, whose element is no such key
abbrev pub key_fault : ℕ → Level → Elements → Option OwnFault
key_fault at level set = option_map (λ (row : Row). RecordKey at row.tag) (find (is_bad set) (table_of level))

abbrev pub fault_at : Option Level → Node → Option OwnFault
fault_at None node = Some (ForeignRecord node.at)
fault_at (Some level) node =
    if not (is_own level node) then Some (ForeignRecord node.at)
    else (if lacks_digest level node.set then Some (NoDigest node.at) else key_fault node.at level node.set)

-- ---- the images

-- an image: the elements of its own record, and of the SERIES, the STUDY and the PATIENT record above it
pub record Listed : Type 0 where
  pub patient : Elements
  pub study : Elements
  pub series : Elements
  pub own : Elements

-- the image that a record with these elements lists: none but where it stands below a series
abbrev pub listed_at : Above → Elements → List Listed
listed_at (in_series patient study series) set =
    record { patient = patient; study = study; series = series; own = set } ∷ []
listed_at above set = []

-- lists one after the other, or the first fault
abbrev pub followed : {A : Type 0} → Result (List A) OwnFault → Result (List A) OwnFault → Result (List A) OwnFault
followed (Err fault) more = Err fault
followed (Ok xs) (Err fault) = Err fault
followed (Ok xs) (Ok ys) = Ok (xs ++ ys)

abbrev pub unless : Option OwnFault → List Listed → Result (List Listed) OwnFault
unless None images = Ok images
unless (Some fault) images = Err fault

-- the images that a record lists which stands there: its own, then those below it
abbrev pub listed_with : Above → Node → Result (List Listed) OwnFault → Result (List Listed) OwnFault
listed_with above node lower = followed (unless (fault_at (level_in above) node) (listed_at above node.set)) lower

-- the images of these trees, which stand there: of each record its own and those below it, then those after it
abbrev pub listed_in : Above → Trees → Result (List Listed) OwnFault
listed_in above no_trees = Ok []
listed_in above (tree node lower after) =
    followed (listed_with above node (listed_in (below above node.set) lower)) (listed_in above after)

-- the images that following the offsets of a directory gives
abbrev pub own : Walk → Result (List Listed) OwnFault
own walk = listed_in root walk.trees

-- ---- before the first fault

-- a record that stands there passes its checks, and lists an image, or those below it do
abbrev pub ListsWith : Above → Node → Type 0 → Type 0
ListsWith above node lower = (fault_at (level_in above) node ≡ None) × ((listed_at above node.set ≢ []) ⊎ lower)

-- An image is listed before any record fails: by the first record or below it; or, where none of these fails, after it.
abbrev pub ListsFirst : Above → Trees → Type 0
ListsFirst above no_trees = ⊥
ListsFirst above (tree node lower after) =
    ListsWith above node (ListsFirst (below above node.set) lower)
    ⊎ ((images : List Listed) × (listed_with above node (listed_in (below above node.set) lower) ≡ Ok images)
    × ListsFirst above after)
