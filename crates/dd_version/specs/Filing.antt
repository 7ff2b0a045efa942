-- What a version is filed by.
use Rattle.std.specs.Prelude.{◌≡◌}
use Rattle.dd_version.specs.declared.parts.Parts.{Parts}

-- The found version has the planned digest. It has the planned keys that distinguish its IMAGE record from others
-- (PS3.3 section F.5.4), and that identify the patient, study and series above it. Other keys may differ, as the keys
-- of one patient may in two files.
pub record FiledAs (planned found : Parts) : Type 0 where
  pub digest : found.digest ≡ planned.digest
  pub instance : found.instance ≡ planned.instance
  pub class : found.class ≡ planned.class
  pub transfer : found.transfer ≡ planned.transfer
  pub number : found.number ≡ planned.number
  pub patient : found.patient.id ≡ planned.patient.id
  pub study : found.study.uid ≡ planned.study.uid
  pub series : found.series.uid ≡ planned.series.uid
