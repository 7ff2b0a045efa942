-- What `stage` makes of the files at its sources, and what it prints.
use Rattle.std.specs.Prelude.{◌≡◌, ◌↔◌, ◌∷◌, ◌==◌, ℕ, zero, suc, Bool, false, List, [], Option, Some, codes, map}
use Rattle.std.specs.Prelude.{if◌then◌else◌, slice_get}
use Rattle.std.specs.Fmt.{decimal}
use Rattle.dd_elem.specs.declared.device.Write.{Ghosts as WriteOf}
use Rattle.dd_faults.specs.declared.refusal.ProgramFault.{ProgramFault}
use Rattle.dd_faults.specs.declared.refusal.ProgramFault.TheVariants as faults
use Rattle.dd_files.specs.Files.{Held}
use Rattle.dd_json.specs.declared.value.Style.{Style}
use Rattle.dd_json.specs.declared.value.Style.TheVariants.{Text, Json}
use Rattle.dd_json.specs.Values.{count, json_line, object_of}
use Rattle.dd_lines.specs.Text.{TakesText}
use Rattle.dd_pile.specs.Piles.{MakesPile}
use Rattle.dd_pile.specs.declared.refusal.StageRefusal.{StageRefusal}
use Rattle.dd_pile.specs.declared.refusal.StageRefusal.TheVariants as refusals
use Rattle.dd_pile.specs.declared.source.StageSource.{StageSource}
use Rattle.dd_pile.specs.declared.sum.StageSum.{StageSum}
use Rattle.dicomdir.specs.FileSupply.{is_one}
use Rattle.dd_inputs.specs.From.{looked_up}
use Rattle.dd_inputs.specs.ListedNames.{HavePaths}
use Rattle.dd_messages.specs.NoteLines.{said_line}
use Rattle.serde_json.specs.Data.{Data, string}

-- ---- the last line

abbrev pub staged_words : StageSum → List ℕ
staged_words sum = said_line (codes "DONE " ∷ decimal sum.sources ∷ codes " sources, " ∷ decimal sum.skipped
    ∷ codes " skipped, " ∷ decimal sum.bytes ∷ codes " bytes of images" ∷ [])

abbrev pub staged_json : StageSum → Data
staged_json sum = object_of (
    (codes "line", string (codes "DONE")) ∷ (codes "sources", count sum.sources) ∷ (codes "skipped", count sum.skipped)
    ∷ (codes "image_bytes", count sum.bytes) ∷ [])

abbrev pub staged_text : Style → StageSum → List ℕ
staged_text Text sum = staged_words sum
staged_text Json sum = json_line (staged_json sum)

-- ---- why none is made

-- the fault of a run that this refusal of its pile refuses
abbrev pub fault_of : StageRefusal → ProgramFault
fault_of (refusals.Absent at) = faults.Absent
fault_of (refusals.Unread at) = faults.Unread
fault_of (refusals.CopyUnmade at) = faults.Create
fault_of (refusals.FolderUnmade at) = faults.Folder
fault_of (refusals.CopyUnsent at) = faults.Unsent
fault_of refusals.PileUnmade = faults.Folder
fault_of refusals.ListUnmade = faults.Create
fault_of refusals.ListUnsent = faults.Unsent
fault_of refusals.Unstored = faults.Unsent
fault_of refusals.ListTooLarge = faults.ListTooLarge
fault_of refusals.Memory = faults.Memory

-- ---- what is made

-- The sources have these names, and are looked up in the folder `from`. These names are not UTF-8, and are listed as lines
-- show them.
pub record AreNamed (from : List ℕ) (names : List (List ℕ)) (bad : List ℕ) (sources : List StageSource) : Type 0 where
  pub called : HavePaths names (map (λ source. source.name.now) sources) bad
  pub placed : map (λ source. source.path.now) sources
      ≡ map (looked_up from) (map (λ source. source.name.now) sources)
  pub named : (at : ℕ) (source : StageSource) → slice_get sources at ≡ Some source
      → source.is_bad_name ≡ is_one bad at

-- A pile was made of the files at the sources of these names, and this is its sum. A source that was not read is in it
-- only where the run keeps going.
pub record MakesNamed (keeps_going : Bool) (from pile : List ℕ) (names : List (List ℕ)) (sum : StageSum)
    (old new : Option Held) : Type 0 where
  pub sources : List StageSource
  pub bad : List ℕ
  pub are : AreNamed from names bad sources
  pub makes : MakesPile pile sources sum old new
  pub all : keeps_going ≡ false → sum.unread ≡ 0

-- the status of a run with this sum, where its output has this status
abbrev pub status_staged : ℕ → StageSum → ℕ
status_staged zero sum = if sum.unread == 0 then 0 else 3
status_staged (suc status) sum = suc status

-- so it was, and the last line says the sum; the status is 0 exactly where each source was read
pub record Stages {W : Type 0} (writer : WriteOf W) (style : Style) (keeps_going : Bool) (from pile : List ℕ)
    (names : List (List ℕ)) (status : ℕ) (files made : Option Held) (old new : W) : Type 0 where
  pub sum : StageSum
  pub pile_made : MakesNamed keeps_going from pile names sum files made
  pub all : (status ≡ 0) ↔ (sum.unread ≡ 0)
  pub printed : TakesText writer old new (staged_text style sum)
