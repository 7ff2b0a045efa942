-- A file that a reader gave is answered by what was scanned of it and by a digest.
use Rattle.std.proofs.Common.{◌≡◌, ℕ, List, Option, Result, Ok, Err, ap, subst}
use Rattle.std.specs.Prelude.{IfOk}
use Rattle.sha2.specs.Sha256.{sha256}
use Rattle.dd_encoding.specs.declared.meta.Meta.{Meta}
use Rattle.dd_scan.specs.Summaries.{summary_in}
use Rattle.dd_part10.specs.Streaming.{IsFileAnswer}
use Rattle.dd_part10.specs.declared.scanned.Scanned.{Scanned}
use Rattle.dd_version.specs.Copies.{with_digest}
use Rattle.dd_version.specs.declared.parts.Parts.{Parts}
use Rattle.dd_keys.specs.Answers.{AnswersReader}
use Rattle.dd_keys.specs.Kept.{digested_by}
use Rattle.dd_keys.specs.Summaries.{AreFronts, IsJudged, summary_fault, summary_parts}
use Rattle.dd_keys.specs.Table.{wanted_tags}
use Rattle.dd_keys.specs.declared.fault.KeyFault.{KeyFault}
use Rattle.dd_keys.proofs.Ingesting.{answers_reader}
use Rattle.dd_keys.proofs.Judging.{fault_same, judged_answers}
use Rattle.dd_keys.proofs.SummaryLaws.{scan_fronts, scan_tells}

-- the answer for what was scanned, with this digest
abbrev pub IsOfScanned : Scanned → List ℕ → Result Parts KeyFault → Type 0
IsOfScanned scanned digest answer =
    IsJudged (summary_fault scanned.meta (λ tag. summary_in tag scanned.found.items))
    (summary_parts (λ tag. summary_in tag scanned.found.items) digest scanned.meta) answer

module _ (limit : ℕ) (given : List ℕ) (left : Option (List ℕ)) (old new : ℕ) (scanned : Scanned)
    (file : IsFileAnswer (Ok scanned) wanted_tags limit given left old new) where
  pub scanned_fronts : AreFronts (λ tag. summary_in tag scanned.found.items)
  scanned_fronts = scan_fronts scanned.found.items wanted_tags file.1.file.set file.1.scans.found

  pub scanned_answers : (digest : List ℕ) (answer : Result Parts KeyFault) → digest ≡ sha256 given
      → IsOfScanned scanned digest answer → AnswersReader limit given left old new answer
  scanned_answers digest answer digests h =
      let s = file.1 in
      let founds = scanned.found.items in
      let judged = subst (λ (meta : Meta). IsJudged (summary_fault meta (λ tag. summary_in tag founds))
      (summary_parts (λ tag. summary_in tag founds) digest meta) answer) s.scans.meta h in
      let tells = scan_tells founds s.file.set s.scans.found in
      let answers = judged_answers given digest s.file (λ tag. summary_in tag founds) answer s.read s.is tells digests
      judged in
      answers_reader limit given left old new s.file _ _ answer file.0 s.read
      (fault_same (λ tag. summary_in tag founds) s.file tells) judged answers

-- the answer with one digest is, with another put in, the answer with that
pub other_digest : (scanned : Scanned) (digest other : List ℕ) (answer : Result Parts KeyFault)
    → IsOfScanned scanned digest answer → IsOfScanned scanned other (digested_by other answer)
other_digest scanned digest other (Ok version) h = (h.0, ap (λ (parts : Parts). with_digest parts other) h.1)
other_digest scanned digest other (Err fault) h = h

-- a version that was answered has the digest
pub digest_stands : (scanned : Scanned) (digest : List ℕ) (answer : Result Parts KeyFault)
    → IsOfScanned scanned digest answer → IfOk answer (λ version. version.digest ≡ digest)
digest_stands scanned digest (Ok version) h = ap (λ (parts : Parts). parts.digest) h.1
digest_stands scanned digest (Err fault) h = tt
