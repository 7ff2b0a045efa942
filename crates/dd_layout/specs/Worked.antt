-- A worked example: two patients, of whom the first has a study of two series.
use Rattle.std.specs.Prelude.{ℕ, List, [], ◌∷◌, Option, None, Some, codes, replicate}
use Rattle.dd_elem.specs.FileId.{Ranks, ranks_of}
use Rattle.dd_version.specs.declared.parts.Parts.{Parts}
use Rattle.dd_records.specs.declared.label.Label.{Label}
use Rattle.dd_records.specs.declared.level.Level.{Level}
use Rattle.dd_records.specs.declared.level.Level.TheVariants.{Patient, Study, Series, Image}
use Rattle.dd_records.specs.declared.record.PlanRecord.{PlanRecord}

-- an image by its Patient ID and name, its study, its series with its number, and its SOP Instance UID
abbrev pub image : (patient name study series number instance : List ℕ) → Parts
image patient name study series number instance = record {
  digest = replicate 32 0xaa;
  patient = record { id = patient; name = name; charset = [] };
  study = record {
    uid = study;
    date = codes "20240115";
    time = codes "101500";
    accession = [];
    description = [];
    id = codes "1";
    charset = [];
  };
  series = record { uid = series; modality = codes "CT"; number = number };
  number = codes "1";
  class = codes "1.2.840.10008.5.1.4.1.1.2";
  transfer = codes "1.2.840.10008.1.2.1";
  instance = instance;
}

abbrev pub four_images : List Parts
four_images =
    image (codes "P1") (codes "DOE^JOHN") (codes "1.2.3") (codes "1.2.3.4") (codes "1") (codes "1.2.3.4.5")
    ∷ image (codes "P1") (codes "DOE^JOHN") (codes "1.2.3") (codes "1.2.3.4") (codes "1") (codes "1.2.3.4.6")
    ∷ image (codes "P1") (codes "DOE^JOHN") (codes "1.2.3") (codes "1.2.3.5") (codes "2") (codes "1.2.3.5.1")
    ∷ image (codes "P2") (codes "ROE^JANE") (codes "1.2.9") (codes "1.2.9.1") (codes "1") (codes "1.2.9.1.1")
    ∷ []

-- withdrawn UIDs
abbrev pub one_withdrawn : List (List ℕ)
one_withdrawn = codes "1.2.3.4.7" ∷ []

abbrev pub two_withdrawn : List (List ℕ)
two_withdrawn = codes "1.2.3.4.7" ∷ codes "1.2.3.4.8" ∷ []

-- no File-set ID, and this UID
abbrev pub unnamed : Label
unnamed = record { id = []; uid = codes "2.25.0" }

abbrev pub planned : Level → (at next lower : ℕ) → Option Ranks → ℕ → PlanRecord
planned level at next lower file of =
    record { level = level; at = at; next = next; lower = lower; file = file; of = of }

-- level, offset, next, lower, File ID, and the least instance below
abbrev pub eleven_records : List PlanRecord
eleven_records =
    planned Patient 320 1476 404 None 0
    ∷ planned Study 404 0 530 None 0
    ∷ planned Series 530 1130 622 None 0
    ∷ planned Image 622 876 0 (Some (ranks_of 1 1 1 1)) 0
    ∷ planned Image 876 0 0 (Some (ranks_of 1 1 1 2)) 1
    ∷ planned Series 1130 0 1222 None 2
    ∷ planned Image 1222 0 0 (Some (ranks_of 1 1 2 1)) 2
    ∷ planned Patient 1476 0 1560 None 3
    ∷ planned Study 1560 0 1686 None 3
    ∷ planned Series 1686 0 1778 None 3
    ∷ planned Image 1778 0 0 (Some (ranks_of 2 1 1 1)) 3
    ∷ []
