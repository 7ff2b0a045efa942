-- The directory of one image.
use Rattle.std.specs.Prelude.{◌≡◌, ℕ, ◌≤◌, ◌<◌, ◌⊎◌, List, [], ◌∷◌, length, Some}
use Rattle.dd_version.specs.declared.parts.Parts.{Parts}
use Rattle.dd_part10.specs.Memory.{SetWants}
use Rattle.dd_keys.specs.declared.fault.KeyFault.{KeyFault}
use Rattle.dd_keys.specs.Faults.{IsWantOfMemory, first_fault}
use Rattle.dd_keys.specs.Versions.{IsVersion}
use Rattle.dd_layout.specs.declared.fault.PlanFault.{PlanFault}
use Rattle.dd_layout.specs.declared.fault.PlanFault.TheVariants.{Memory}
use Rattle.dd_dir.specs.Deriving.{derived_label, derived_refusal}
use Rattle.dd_dir.specs.Directories.{directory}
use Rattle.dd_dir.specs.SaysItself.{SaysItself}
use Rattle.dd_calls.specs.declared.answer.Answer.{Answer}
use Rattle.dd_calls.specs.Sizes.{over, sized}
use Rattle.dd_making.specs.Merges.{no_limits}
use Rattle.dd_making.specs.Refusals.{key_refusal, plan_refusal}

-- the text is the directory of this version alone, with no File-set ID, under the UID that follows from it; it says the
-- version again
pub record IsOfVersion (version : Parts) (text : List ℕ) : Type 0 where
  pub is_directory : let m = version ∷ [] in text ≡ directory (derived_label [] m []) m []
  pub says : SaysItself (version ∷ []) [] text

-- the text is the directory of the version of the file
pub record IsOfImage (bytes text : List ℕ) : Type 0 where
  pub version : Parts
  pub is_version : IsVersion bytes version
  pub is_of_version : IsOfVersion version text

pub record IsGiven (bytes old new : List ℕ) (answer : Answer) : Type 0 where
  pub text : List ℕ
  pub is_of_image : IsOfImage bytes text
  pub fits : length text ≤ length old
  pub given : new ≡ over text old
  pub size : answer ≡ sized (length text) 0 0

pub record IsLonger (bytes : List ℕ) (room : ℕ) (answer : Answer) : Type 0 where
  pub text : List ℕ
  pub is_of_image : IsOfImage bytes text
  pub longer : room < length text
  pub size : answer ≡ sized (length text) 0 0

-- ---- the answer where no directory is given

-- an allocation was refused, or the bytes have no version for this reason
pub record HasNoVersion (bytes : List ℕ) (answer : Answer) : Type 0 where
  pub fault : KeyFault
  pub why : IsWantOfMemory SetWants bytes fault ⊎ (first_fault bytes ≡ Some fault)
  pub answers : answer ≡ key_refusal fault

-- an allocation was refused, or the version has no directory for this reason
pub record IsNotLaidOut (version : Parts) (answer : Answer) : Type 0 where
  pub fault : PlanFault
  pub why : (fault ≡ Memory) ⊎ (derived_refusal [] no_limits (version ∷ []) [] ≡ Some fault)
  pub answers : answer ≡ plan_refusal fault

abbrev pub IsRefused : List ℕ → Answer → Type 0
IsRefused bytes answer =
    HasNoVersion bytes answer ⊎ ((version : Parts) × IsVersion bytes version × IsNotLaidOut version answer)
