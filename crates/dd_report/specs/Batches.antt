-- Files that wait until some are digested together, and what a check says until then.
use Rattle.std.specs.Prelude.{◌≡◌, ◌<◌, ◌≤◌, ◌++◌, ◌∷◌, ◌||◌, ℕ, Bool, not, List, [], None, Option, Some, take}
use Rattle.std.specs.Prelude.{Result, Ok, Err}
use Rattle.std.specs.List.{flat_map}
use Rattle.std.specs.Option.{option_or}
use Rattle.sha2.specs.Sha256.{sha256}
use Rattle.dd_elem.specs.declared.device.Read.{Ghosts as ReadOf}
use Rattle.dd_elem.specs.declared.device.Write.{Ghosts as WriteOf}
use Rattle.dd_files.specs.Files.{Held}
use Rattle.dd_slots.specs.declared.slot.Slot.{Slot}
use Rattle.dd_version.specs.Fitting.{is_empty}
use Rattle.dd_report.specs.declared.batch.Batch.{Batch}
use Rattle.dd_report.specs.declared.batch.Named.{Named}
use Rattle.dd_report.specs.declared.findings.Expected.{Expected}
use Rattle.dd_report.specs.declared.batch.PendingFile.{PendingFile}
use Rattle.dd_report.specs.declared.checking.ReportFault.{ReportFault}
use Rattle.dd_report.specs.declared.checking.ReportFault.TheVariants.{Memory, Unsent}
use Rattle.dd_report.specs.declared.checking.Comparison.{Comparison}
use Rattle.dd_report.specs.declared.findings.Finding.{Finding}
use Rattle.dd_report.specs.declared.findings.Judgement.{Judgement}
use Rattle.dd_report.specs.declared.findings.Judgement.TheVariants.{Known, Pending}
use Rattle.dd_json.specs.declared.value.Style.{Style}
use Rattle.dd_lines.specs.declared.line_buffer.LineBuffer.{LineBuffer}
use Rattle.dd_report.specs.Agreements.{Standing}
use Rattle.dd_report.specs.Checking.{TellsAll, TellsFirst, file_line}
use Rattle.dd_report.specs.Finding.{compared}
use Rattle.dd_lines.specs.Telling.{Fails, GoesOn, Way, way}

-- ---- files of a batch

-- what is found of a file with this digest
abbrev pub by_recorded : Expected → List ℕ → Option Finding
by_recorded expected digest = option_or (compared (Some expected.recorded) digest) expected.otherwise

-- its line
abbrev pub digest_line : Named → Expected → List ℕ → List ℕ
digest_line named expected digest = file_line named.style named.at named.file.now (by_recorded expected digest)

abbrev pub pending_line : PendingFile → List ℕ
pending_line one = digest_line one.named one.expected (sha256 one.slot.kept.items)

-- the files that wait
abbrev pub files_of : Batch → List PendingFile
files_of batch =
    batch.first ∷ batch.second ∷ batch.third ∷ batch.fourth ∷ batch.fifth ∷ batch.sixth ∷ batch.seventh
    ∷ batch.next ∷ []

abbrev pub pending_files : Batch → List PendingFile
pending_files batch = take batch.used (files_of batch)

-- what is to be said of them
abbrev pub pending_text : Batch → List ℕ
pending_text batch = flat_map pending_line (pending_files batch)

-- their slots keep all bytes
abbrev pub AllKept : List PendingFile → Type 0
AllKept [] = Unit {0}
AllKept (one ∷ others) = (one.slot.hasher ≡ None) × AllKept others

abbrev pub CanSettle : Batch → Type 0
CanSettle batch = (batch.used ≤ 8) × AllKept (pending_files batch)

-- there is room for one more
abbrev pub IsReady : Batch → Type 0
IsReady batch = (batch.used < 8) × AllKept (pending_files batch)

-- only the next slot may differ
pub record KeepsPending (old new : Batch) : Type 0 where
  pub first : new.first ≡ old.first
  pub second : new.second ≡ old.second
  pub third : new.third ≡ old.third
  pub fourth : new.fourth ≡ old.fourth
  pub fifth : new.fifth ≡ old.fifth
  pub sixth : new.sixth ≡ old.sixth
  pub seventh : new.seventh ≡ old.seventh
  pub used : new.used ≡ old.used
  pub found : new.found ≡ old.found

-- ---- what is judged of a file

-- what is found, where the slot has the bytes of a file that waits
abbrev pub judged : Judgement → Slot → Option Finding
judged (Known finding) slot = finding
judged (Pending expected) slot = by_recorded expected (sha256 slot.kept.items)

-- a file waits only where the slot keeps all its bytes
abbrev pub KeepsBytes : Judgement → Slot → Type 0
KeepsBytes (Known finding) slot = Unit {0}
KeepsBytes (Pending expected) slot = slot.hasher ≡ None

-- ---- a report

-- what is on its way, with what is still to be said of files that wait; and whether any of it, or of what went before,
-- is a finding
pub record Report : Type 0 where
  pub course : Way
  pub found : Bool

abbrev pub report_of : {W : Type 0} → WriteOf W → LineBuffer W → Batch → Report
report_of writer lines batch = record {
  course = way (lines.waiting ++ pending_text batch) (writer.contents lines.to.now) (writer.failures lines.to.now);
  found = batch.found || not (is_empty (pending_text batch));
}

-- a text came to it
pub record Grows (text : List ℕ) (old new : Report) : Type 0 where
  pub goes : GoesOn text old.course new.course
  pub found : new.found ≡ (old.found || not (is_empty text))

-- the answer of a call that adds a text: it came to the report, or the writer failed in it
abbrev pub Adds : {T E : Type 0} → Result T E → List ℕ → Report → Report → Type 0
Adds (Ok done) text old new = Grows text old new
Adds (Err fault) text old new = Fails text old.course new.course

-- What a check says of these records came to the report. Where memory ran out it speaks of the first of them, and where
-- the writer failed, it failed in what was to go.
module _ {R : Type 0} (readers : ReadOf R) (held : Option Held) (folder : List ℕ) (comparison : Comparison)
    (style : Style) where
  abbrev pub Reports : {T : Type 0} → List Standing → Result T ReportFault → ℕ → ℕ → Report → Report → Type 0
  Reports all (Ok done) old new from to =
      (text : List ℕ) × TellsAll readers held folder comparison style all old new text × Grows text from to
  Reports all (Err Memory) old new from to =
      (text : List ℕ) × TellsFirst readers held folder comparison style all old new text × Grows text from to
  Reports all (Err Unsent) old new from to =
      (text : List ℕ) × TellsFirst readers held folder comparison style all old new text × Fails text from.course
      to.course

-- The answer of a check and the way of its lines, once the files that wait are spoken of too; `checked` was the answer
-- before that.
-- Where the writer had failed, nothing more is said.
abbrev pub Closes : {T : Type 0} → Result T ReportFault → Result Bool ReportFault → Report → Way → Type 0
Closes (Ok done) (Ok found) from to = GoesOn [] from.course to × (found ≡ from.found)
Closes (Ok done) (Err Memory) from to = ⊥
Closes (Ok done) (Err Unsent) from to = Fails [] from.course to
Closes (Err Memory) (Ok found) from to = ⊥
Closes (Err Memory) (Err Memory) from to = GoesOn [] from.course to
Closes (Err Memory) (Err Unsent) from to = Fails [] from.course to
Closes (Err Unsent) (Ok found) from to = ⊥
Closes (Err Unsent) (Err Memory) from to = ⊥
Closes (Err Unsent) (Err Unsent) from to = (to.holds ≡ from.course.holds) × (to.failures ≡ from.course.failures)
