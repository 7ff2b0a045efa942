-- What a study and a series are filed under: a study is of one patient, a series of one study (PS3.3 section A.1.2).
use Rattle.std.specs.Prelude.{◌≡◌, ℕ, Bool, not, true, List, is_some, Contains}
use Rattle.std.specs.Str.{bytes_eq}
use Rattle.dd_elem.specs.Ordered.{bytes_cmp}
use Rattle.dd_version.specs.declared.parts.Parts.{Parts}
use Rattle.dd_catalogue.specs.Best.{at}
use Rattle.dd_catalogue.specs.Carriers.{version_like}
use Rattle.dd_catalogue.specs.Conflicts.{splits}

abbrev pub patient_id : Parts → List ℕ
patient_id v = v.patient.id

abbrev pub study_uid : Parts → List ℕ
study_uid v = v.study.uid

abbrev pub series_uid : Parts → List ℕ
series_uid v = v.series.uid

-- by the UIDs of studies or series and their owners: it is filed under another owner than the table says
abbrev pub is_of_another_owner : (Parts → List ℕ) → (Parts → List ℕ) → List Parts → Parts → Bool
is_of_another_owner uid owner table v = not (bytes_eq (owner (version_like uid table v)) (owner v))

-- the table has each study or series that is filed under two owners
abbrev pub HasThoseOfTwoOwners : (Parts → List ℕ) → (Parts → List ℕ) → List Parts → List Parts → Type 0
HasThoseOfTwoOwners uid owner m table =
    (v w : Parts) → Contains m v → Contains m w → splits uid owner v w ≡ true
    → is_some (at uid bytes_cmp table (uid v)) ≡ true
