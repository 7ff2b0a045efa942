-- Where the file of an image is: of many files, each with its place, the first that is the image's. By marks it is
-- searched for in the order of files.
use Rattle.std.specs.Prelude.{◌≡◌, ◌≢◌, ◌&&◌, Bool, true, false, ℕ, List, [], ◌∷◌, All, map, filter, Option, None, Some}
use Rattle.std.specs.Prelude.{slice_get, if◌then◌else◌}
use Rattle.std.specs.declared.cmp.Ordering.{Ordering}
use Rattle.dd_catalogue.specs.Conflicts.{same}
use Rattle.dd_version.specs.Orders.{by_bytes, ◌then◌}
use Rattle.dd_version.specs.declared.parts.Parts.{Parts}
use Rattle.dd_records.specs.declared.level.Level.{Level}
use Rattle.dd_records.specs.declared.level.Level.TheVariants.{Patient, Study, Series, Image}
use Rattle.dd_records.specs.declared.record.PlanRecord.{PlanRecord}
use Rattle.dd_engine.specs.declared.marks.Mark.{Mark}

-- ---- files

-- what distinguishes a file from others: its SOP Instance UID and its digest
pub record FileKey : Type 0 where
  pub instance : List ℕ
  pub digest : List ℕ

abbrev pub file_of : Parts → FileKey
file_of version = record { instance = version.instance; digest = version.digest }

abbrev pub is_one : FileKey → FileKey → Bool
is_one one other = same one.instance other.instance && same one.digest other.digest

-- the file of each of these versions, and what stands beside it
abbrev pub files_of : {T : Type 0} → List (T × Parts) → List (T × FileKey)
files_of versions = map (λ version. (version.0, file_of version.1)) versions

-- ---- what is found

-- where the first of these files is that is this one
abbrev pub found : {T : Type 0} → List (T × FileKey) → FileKey → Option T
found [] file = None
found (held ∷ more) file = if is_one held.1 file then Some held.0 else found more file

abbrev pub found_by : {T : Type 0} → List (T × FileKey) → Option Parts → Option T
found_by files None = None
found_by files (Some version) = found files (file_of version)

abbrev pub is_image : PlanRecord → Bool
is_image row = by_level row.level where
  by_level : Level → Bool
  by_level Patient = false
  by_level Study = false
  by_level Series = false
  by_level Image = true

-- of each image, in the order of the records, where the first of its file is
abbrev pub found_of : {T : Type 0} → List (T × FileKey) → List Parts → List PlanRecord → List (Option T)
found_of files versions rows = map (λ row. found_by files (slice_get versions row.of)) (filter is_image rows)

-- of each image, in the order of the records, what a list has at the place of its version
abbrev pub taken_of : {T : Type 0} → List T → List PlanRecord → List (Option T)
taken_of list rows = map (λ row. slice_get list row.of) (filter is_image rows)

-- these are found, one of each image
abbrev pub ArePicked : {T : Type 0} → List (T × FileKey) → List Parts → List PlanRecord → List T → Type 0
ArePicked files versions rows picks = map (λ pick. Some pick) picks ≡ found_of files versions rows

-- each of these versions has its file among these
abbrev pub AreHeld : List FileKey → List Parts → Type 0
AreHeld files versions = All (λ version. filter (λ file. is_one file (file_of version)) files ≢ []) versions

-- ---- marks

abbrev pub key_of : {T : Type 0} → Mark T → FileKey
key_of mark = record { instance = mark.instance.now; digest = mark.digest.now }

-- where a file is, and the file
abbrev pub mark_view : {T : Type 0} → Mark T → T × FileKey
mark_view mark = (mark.origin, key_of mark)

-- by SOP Instance UID, then by digest
abbrev pub file_cmp : FileKey → FileKey → Ordering
file_cmp = by_bytes (λ file. file.instance) then by_bytes (λ file. file.digest)

abbrev pub mark_cmp : {T : Type 0} → Mark T → Mark T → Ordering
mark_cmp one other = file_cmp (key_of one) (key_of other)
