-- What `list` and `check` print of a file-set: what its directory says, and what is found of its files.
use Rattle.std.specs.Prelude.{◌≡◌, ◌⊎◌, ℕ, Bool, true, false, List, [], ◌∷◌, ◌++◌, Option, codes}
use Rattle.std.specs.List.{concat}
use Rattle.serde_json.specs.Data.{Data}
use Rattle.dd_walk.specs.declared.fault.DirFault.{DirFault}
use Rattle.dd_walk.specs.Reading.{IsWalk, Refuses}
use Rattle.dd_walk.specs.Trees.{Walk}
use Rattle.dd_elem.specs.declared.device.Read.{Ghosts as ReadOf}
use Rattle.dd_elem.specs.declared.device.Write.{Ghosts as WriteOf}
use Rattle.dd_files.specs.Files.{Held}
use Rattle.dd_json.specs.declared.value.Style.{Style}
use Rattle.dd_json.specs.declared.value.Style.TheVariants.{Json, Text as Plain}
use Rattle.dd_json.specs.Values.{json_line}
use Rattle.dd_report.specs.Checking.{TellsSome, TellsWalk}
use Rattle.dd_report.specs.FoundRecords.{IsListing}
use Rattle.dd_lines.specs.Text.{FailsInText, TakesText, masked}
use Rattle.dd_report.specs.declared.checking.Comparison.{Comparison}
use Rattle.dd_report.specs.declared.known.Form.{Form}
use Rattle.dd_report.specs.declared.known.Form.TheVariants.{Long, Short}
use Rattle.dd_messages.specs.FaultLines.{broken_json}
use Rattle.dd_inspecting.specs.Directories.{HasDirectory}

-- ---- the directory

-- the directory of the file-set in the folder (PS3.10 section 8.6) says this
pub record SaysWalk (folder : List ℕ) (files : Option Held) (walk : Walk) : Type 0 where
  pub bytes : List ℕ
  pub directory : HasDirectory folder bytes files
  pub says : IsWalk bytes walk

-- the file-set has a directory there that can't be read as one, for this reason
pub record IsBroken (folder : List ℕ) (files : Option Held) (fault : DirFault) : Type 0 where
  pub bytes : List ℕ
  pub directory : HasDirectory folder bytes files
  pub refuses : Refuses bytes fault

-- ---- `list`

-- the form of a listing, which is long where that is asked for
abbrev pub form_by : Bool → Form
form_by true = Long
form_by false = Short

-- With 0 the listing of what the directory says was printed, where files may be shown so. Any other status is 1, and the
-- output failed in the listing.
pub record ListsSet {W : Type 0} (writer : WriteOf W) (IsShown : List ℕ → List ℕ → List ℕ → Type 0) (style : Style)
    (form : Form) (folder : List ℕ) (files : Option Held) (status : ℕ) (old new : W) : Type 0 where
  pub walk : Walk
  pub says : SaysWalk folder files walk
  pub text : List ℕ
  pub lists : IsListing IsShown files folder style form walk text
  pub printed : ((status ≡ 0) × TakesText writer old new text) ⊎ ((status ≡ 1) × FailsInText writer old new text)

-- ---- `check`

-- what is compared of a file with its record
abbrev pub comparison_by : Bool → Bool → Comparison
comparison_by keys strict = record { keys = keys; strict = strict }

-- the line of such a directory: the words of some fault, or an object with it
abbrev pub IsBrokenLine : Style → List ℕ → Type 0
IsBrokenLine Plain text = (words : List ℕ) × (text ≡ masked (concat (codes "BROKEN " ∷ words ∷ [])) ++ 10 ∷ [])
IsBrokenLine Json text = (fault : Data) × (text ≡ json_line (broken_json fault))

-- the directory can't be read, and the line says so
pub record TellsBroken (folder : List ℕ) (files : Option Held) (style : Style) (text : List ℕ) : Type 0 where
  pub fault : DirFault
  pub broken : IsBroken folder files fault
  pub line : IsBrokenLine style text

-- What is said, in this style, of a file-set whose files are read by these readers and compared so, while their count
-- of refusals goes from the first number to the second.
module _ {R : Type 0} (readers : ReadOf R) (folder : List ℕ) (files : Option Held) (comparison : Comparison)
    (style : Style) where
  -- of each record that the directory has, what is found of its file, and whether something is found at all
  pub record TellsSet (found : Bool) (old new : ℕ) (text : List ℕ) : Type 0 where
    pub walk : Walk
    pub says : SaysWalk folder files walk
    pub tells : TellsWalk readers files folder comparison style walk found old new text

  -- the same, up to some record
  pub record BeginsToTell (old new : ℕ) (text : List ℕ) : Type 0 where
    pub walk : Walk
    pub says : SaysWalk folder files walk
    pub tells : TellsSome readers files folder comparison style walk old new text

  -- 0 is for a file-set of which nothing is found, 3 for one of which something is found or whose directory can't be read
  abbrev pub Tells : ℕ → ℕ → ℕ → List ℕ → Type 0
  Tells status old new text = ((status ≡ 0) × TellsSet false old new text)
      ⊎ ((status ≡ 3) × (TellsSet true old new text ⊎ TellsBroken folder files style text))

  -- a text of which some was printed before the output failed
  abbrev pub TellsFront : ℕ → ℕ → List ℕ → Type 0
  TellsFront old new text = BeginsToTell old new text ⊎ TellsBroken folder files style text

  -- With 0 and 3 all of that was printed. Any other status is 1, and the output failed in it.
  abbrev pub ChecksSet : {W : Type 0} → WriteOf W → ℕ → ℕ → ℕ → W → W → Type 0
  ChecksSet writer status old new from to = (text : List ℕ)
      × ((Tells status old new text × TakesText writer from to text)
      ⊎ ((status ≡ 1) × TellsFront old new text × FailsInText writer from to text))
