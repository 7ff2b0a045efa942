-- How a run ends that is refused: why, and what it prints.
use Rattle.std.specs.Prelude.{◌≡◌, ◌⊎◌, ℕ, Bool, false, List, None, Option}
use Rattle.clap.specs.Words.{Row, Text}
use Rattle.dd_elem.specs.declared.device.Read.{Ghosts as ReadOf}
use Rattle.dd_elem.specs.declared.device.Write.{Ghosts as WriteOf}
use Rattle.dd_faults.specs.declared.refusal.ProgramFault.TheVariants.{Memory}
use Rattle.dd_faults.specs.declared.refusal.Refusal.{Refusal}
use Rattle.dd_files.specs.Files.{Held}
use Rattle.dd_json.specs.declared.value.Style.TheVariants.{Text as Plain}
use Rattle.dd_line.specs.Line.{words_of}
use Rattle.dd_line.specs.Requests.{IsRequested, folder_of, id_of, instances_of, keeps_going, read_of, uid_of}
use Rattle.dd_line.specs.declared.request.Request.{Request}
use Rattle.dd_line.specs.declared.request.Request.TheVariants.{Check, Index, List as ListSet, Merge, Publish, Stage, Withdraw}
use Rattle.dd_inputs.specs.EmptyPaths.{IsOfEmptyPath, RequestsEmptyPath}
use Rattle.dd_messages.specs.FaultLines.{TellsFault}
use Rattle.dd_refusals.specs.Faults.{TellsRefusal}
use Rattle.dd_inputs.specs.From.{given_list}
use Rattle.dicomdir.specs.Grounds.{HasGrounds}
use Rattle.dd_inputs.specs.ListedNames.{FindsSources, list_of}
use Rattle.dicomdir.specs.Names.{choice_by}
use Rattle.dd_faults.specs.Reasons.{IsDue}
use Rattle.dd_inputs.specs.Reasons.{IsDueBefore}

-- a line SKIP or NOTE refuses the run
abbrev pub refuses_notes : Request → Bool
refuses_notes (Index x) = x.new_set.strict
refuses_notes (Merge x) = x.new_set.strict
refuses_notes (Withdraw x) = x.new_set.strict
refuses_notes (Stage x) = false
refuses_notes (Publish x) = x.new_set.strict
refuses_notes (Check x) = false
refuses_notes (ListSet x) = false

-- the evidence from the work: of devices, and of what was read
abbrev pub IsDueToWork : {R : Type 0} → ReadOf R → ℕ → ℕ → Request → Option Held → Option Held → Refusal → Type 0
IsDueToWork reads refusals failures r old new refusal = IsDue reads refusals failures (refuses_notes r) refusal.fault
    × HasGrounds r (choice_by (id_of r) (uid_of r)) (words_of (instances_of r)) old new refusal

-- The evidence for a refusal: a path of the line is empty, as it says, there is evidence from before the work or from the
-- work, or it says that an allocation was refused, which has none.
abbrev pub IsDueOf : {R : Type 0} → ReadOf R → ℕ → ℕ → (List ℕ → Type 0) → Request → Option Held → Option Held
    → Refusal → Type 0
IsDueOf reads refusals failures may_be_taken r old new refusal = (RequestsEmptyPath r × IsOfEmptyPath refusal.fault)
    ⊎ (IsDueBefore reads refusals may_be_taken r old refusal.fault
    ⊎ (IsDueToWork reads refusals failures r old new refusal ⊎ (refusal.fault ≡ Memory)))

-- A refusal may name one of these sources: those on the command line and, after the list was read, those in the list.
abbrev pub MayNameOf : Request → Option Held → List Text → Type 0
MayNameOf r files sources = (sources ≡ words_of (read_of r)) ⊎ ((bad : List ℕ)
    × FindsSources (keeps_going r) (list_of r) (words_of (read_of r)) files sources bad)

-- the run ended with this refusal, and the writer took its line
pub record IsRefused {R E : Type 0} (reads : ReadOf R) (writer : WriteOf E) (r : Request) (refusals failures : ℕ)
    (may_be_taken : List ℕ → Type 0) (files left : Option Held) (old new : E) : Type 0 where
  pub refusal : Refusal
  pub due : IsDueOf reads refusals failures may_be_taken r files left refusal
  pub sources : List Text
  pub are : MayNameOf r files sources
  pub told : TellsRefusal writer r (folder_of r) sources (given_list r) refusal.subject old new

-- the same of the request that the words make; or an allocation was refused before there was one
abbrev pub IsRefusedLine : {R E : Type 0} → ReadOf R → WriteOf E → Option (Text × List Row) → ℕ → ℕ → (List ℕ → Type 0)
    → Option Held → Option Held → E → E → Type 0
IsRefusedLine reads writer line refusals failures may_be_taken files left old new = TellsFault writer Plain None old new
    ⊎ ((r : Request) × IsRequested r line × IsRefused reads writer r refusals failures may_be_taken files left old new)
