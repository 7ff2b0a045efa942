-- A copy of which only the version is asked for, and files of no version.
use Rattle.std.proofs.Common.{◌≢◌, ℕ, List, Option, Result, Ok, Err, refl}
use Rattle.dd_elem.specs.declared.device.Write.{Ghosts as WriteOf}
use Rattle.dd_grammar.specs.declared.fault.SetFault.TheVariants as parsing
use Rattle.dd_part10.specs.Memory.{SetWants}
use Rattle.dd_part10.specs.declared.fault.FileFault.TheVariants.{Meta, Set}
use Rattle.dd_keys.specs.Answers.{Answers}
use Rattle.dd_keys.specs.Faults.{IsWantOfMemory, SaysMemory}
use Rattle.dd_keys.specs.Versions.{IsVersion}
use Rattle.dd_keys.specs.declared.fault.KeyFault.{KeyFault}
use Rattle.dd_keys.specs.declared.fault.KeyFault.TheVariants as faults
use Rattle.dd_version.specs.declared.parts.Parts.{Parts}
use Rattle.dd_filing.specs.Copies.{IsFoundCopy, IsRefusedSource}
use Rattle.dd_filing.specs.CopySteps.{version_answer}
use Rattle.dd_filing.specs.Filing.{IsCopyOfVersion, IsRefusedCopy}
use Rattle.dd_filing.specs.declared.copying.FilingFault.{FilingFault}
use Rattle.dd_filing.specs.declared.copying.FilingFault.TheVariants.{Memory, Unread, Unsent, Changed}

-- a fault that does not say memory is of no refused allocation
no_want : (set_wants : List ℕ → Type 0) (file : List ℕ) (fault : KeyFault) → ¬ SaysMemory fault
    → IsWantOfMemory set_wants file fault → ⊥
no_want set_wants file faults.Memory silent want = silent tt
no_want set_wants file (faults.File (Meta parsing.Memory)) silent want = silent tt
no_want set_wants file (faults.File (Set parsing.Memory)) silent want = silent tt
no_want set_wants file fault silent want = want

-- bytes that were read to their end, with a fault, are no file of a version
pub no_version : (bytes : List ℕ) (fault : KeyFault) → Answers bytes (Err fault) → ¬ SaysMemory fault
    → (version : Parts) → ¬ IsVersion bytes version
no_version bytes fault h silent = λ version is. no_want SetWants bytes fault silent (h.only version is)

-- a refusal of the copy of a source is one of a copy
pub refused_copy : {W : Type 0} (writer : WriteOf W) (limit : ℕ) (given : List ℕ) (left : Option (List ℕ))
    (read_old read_new : ℕ) (fault : FilingFault) (old new : W)
    → IsRefusedSource writer old new fault limit given left read_old read_new
    → IsRefusedCopy writer old new fault limit given left read_old read_new
refused_copy writer limit given left read_old read_new Memory old new h = h
refused_copy writer limit given left read_old read_new Unread old new h = h
refused_copy writer limit given left read_old read_new Unsent old new h = h
refused_copy writer limit given left read_old read_new Changed old new h = absurd h

-- what was found of a copy, as a version
pub version_copied : {W : Type 0} (writer : WriteOf W) (limit : ℕ) (given : List ℕ) (left : Option (List ℕ))
    (read_old read_new : ℕ) (found : Result Parts KeyFault) (old new : W)
    → IsFoundCopy writer old new (Ok found) limit given left read_old read_new
    → IsCopyOfVersion writer old new (version_answer found) limit given left read_old read_new
version_copied writer limit given left read_old read_new (Ok version) old new h =
    let unread : Ok version ≢ Err faults.Read = λ e. absurd (cc) in
    let short : Ok version ≢ Err faults.FileTooLong = λ e. absurd (cc) in (
      (h.1.0.whole unread short tt).found,
      (h.1.0.ended unread short, h.1.1),
    )
version_copied writer limit given left read_old read_new (Err faults.FileTooLong) old new h =
    (h.1.0.long refl, h.1.1)
version_copied writer limit given left read_old read_new (Err fault) old new h =
    let answer : Result Parts KeyFault = Err fault in
    let unread : answer ≢ Err faults.Read = λ e. h.0.0 (cc) in
    let short : answer ≢ Err faults.FileTooLong = λ e. absurd (cc) in (
      no_version given fault (h.1.0.whole unread short h.0.1) h.0.1,
      (h.1.0.ended unread short, h.1.1),
    )
