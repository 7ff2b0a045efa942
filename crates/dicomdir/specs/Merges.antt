-- What `merge` and `withdraw` make of file-sets.
use Rattle.std.specs.Prelude.{◌≡◌, ℕ, List, [], ◌∷◌, Option, Result, IfOk, None}
use Rattle.dd_engine.specs.declared.choice.Choice.{Choice}
use Rattle.dd_engine.specs.declared.merge.Merged.{Merged}
use Rattle.dd_engine.specs.Merging.{AreOwn, IsMerged, SetListing}
use Rattle.dd_files.specs.Files.{Held}
use Rattle.dd_files.specs.Keeping.{IfSaid}
use Rattle.dicomdir.specs.Indexes.{limits_of}
use Rattle.dicomdir.specs.Origins.{IsMemberPath}
use Rattle.dd_file_set.specs.Standing.{StandsWhole}
use Rattle.dd_inspecting.specs.Directories.{HasDirectory}

-- the directories of the file-sets in these folders have these bytes, one for each
abbrev pub AreDirectories : List (List ℕ) → List (List ℕ) → Option Held → Type 0
AreDirectories [] [] files = Unit {0}
AreDirectories [] (bytes ∷ sets) files = ⊥
AreDirectories (folder ∷ folders) [] files = ⊥
AreDirectories (folder ∷ folders) (bytes ∷ sets) files =
    HasDirectory folder bytes files × AreDirectories folders sets files

-- Of what the directories in these folders list, without what they withdraw and the given UIDs, the best is laid out under
-- the label that is asked for. The file-set of this layout stands in the folder.
pub record MakesMerge (choice : Choice) (bytes : ℕ) (given folders : List (List ℕ)) (GivesLinks : Type 0)
    (folder : List ℕ) (old new : Option Held) : Type 0 where
  pub sets : List (List ℕ)
  pub are : AreDirectories folders sets old
  pub listings : List SetListing
  pub own : AreOwn sets listings
  pub merged : Merged
  pub is : IsMerged choice (limits_of bytes) given listings merged
  pub stands : IfSaid (StandsWhole (IsMemberPath folders) (λ _ _. GivesLinks)
      (λ _. None) folder merged.plan merged.picks.items)
      old new

-- a merge that is done has made this
abbrev pub DoneMerges : {E : Type 0} → Result ℕ E → Choice → ℕ → List (List ℕ) → List (List ℕ) → Type 0 → List ℕ
    → Option Held → Option Held → Type 0
DoneMerges r choice bytes given folders GivesLinks folder old new =
    IfOk r (λ status. status ≡ 0 → MakesMerge choice bytes given folders GivesLinks folder old new)
