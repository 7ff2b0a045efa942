-- Records of versions whose parts are well formed, one after the other.
use Rattle.std.proofs.Common.{◌≡◌, ℕ, ◌+◌, ◌<◌, ◌^◌, List, ◌∷◌, length, drop, get_or, Some}
use Rattle.std.proofs.Common.{sym, ap, subst, ◌∙◌}
use Rattle.std.specs.List.{All, AllByRecursion}
use Rattle.std.proofs.lemmas.List.{at_drop_more}
use Rattle.std.proofs.lemmas.Option.{slice_get-get_or}
use Rattle.dd_elem.specs.Clean.{clean_of}
use Rattle.dd_elem.specs.SetId.{IsSetId}
use Rattle.dd_version.specs.declared.parts.Parts.{Parts}
use Rattle.dd_records.specs.declared.label.Label.{Label}
use Rattle.dd_records.specs.declared.level.Level.{Level}
use Rattle.dd_records.specs.declared.level.Level.TheVariants.{Patient, Study, Series, Image}
use Rattle.dd_records.specs.declared.record.PlanRecord.{PlanRecord}
use Rattle.dd_layout.specs.Layouts.{IsSound}
use Rattle.dd_layout.specs.Plans.{records_of, size}
use Rattle.dd_part10.proofs.HeadLaw.{clean_uid}
use Rattle.dd_dir.specs.Directories.{IsDirectory}
use Rattle.dd_dir.specs.Keyed.{IsKeyed, IsKeyedBy, IsSent}
use Rattle.dd_version.specs.WellFormed.{IsWellFormed}

-- the version that was found
pub keyed_is : (versions : List Parts) (row : PlanRecord) (found parts : Parts) → row.of < length versions
    → found ≡ get_or versions row.of found → parts ≡ found → IsWellFormed parts → IsKeyed versions row
keyed_is versions row found parts within is same formed =
    let there = slice_get-get_or versions row.of found within ∙ ap Some (sym (same ∙ is)) in
    subst (IsKeyedBy row) (sym there) formed

-- the key by which a record of this level is known: Patient ID, Study Instance UID, Series Instance UID, SOP Instance
-- UID
abbrev pub key_by : Level → Parts → List ℕ
key_by Patient parts = parts.patient.id
key_by Study parts = parts.study.uid
key_by Series parts = parts.series.uid
key_by Image parts = parts.instance

-- it has no padding
pub clean_key : (level : Level) (v : Parts) → IsWellFormed v → clean_of (key_by level v) ≡ key_by level v
clean_key Patient v formed = formed.patient.id.clean
clean_key Study v formed = clean_uid v.study.uid formed.study.uid
clean_key Series v formed = clean_uid v.series.uid formed.series.uid
clean_key Image v formed = clean_uid v.instance formed.image.instance

-- what is known once all of them were sent
pub whole_sent : (label : Label) (versions : List Parts) (withdrawn : List (List ℕ))
    (rows : List PlanRecord) → rows ≡ records_of label versions → size label versions withdrawn < 2 ^ 32
    → IsDirectory label versions withdrawn → IsSetId label.id → All (IsSound (length versions)) rows
    → AllByRecursion (IsKeyed versions) rows → IsSent label versions withdrawn
whole_sent label versions withdrawn rows is small file id sound keyed = record {
  file = file;
  id = id;
  small = small;
  sound = subst (All (IsSound (length versions))) is sound;
  keyed = subst (AllByRecursion (IsKeyed versions)) is keyed;
}
