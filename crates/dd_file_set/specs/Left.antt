-- What is left of a file-set in its folder, whether all of it was made or a part.
use Rattle.std.specs.Prelude.{◌≡◌, ◌⊎◌, List, ℕ, Option, None, Some, IsSome, codes}
use Rattle.dd_dir.specs.Directories.{directory_of}
use Rattle.dd_files.specs.Files.{Held}
use Rattle.dd_files.specs.Paths.{IsPathIn}
use Rattle.dd_files.specs.PowerCuts.{IsFrontOf, IsSafeAtCuts, MakesLast}
use Rattle.dd_layout.specs.Layouts.{Layout}
use Rattle.dd_file_set.specs.Made.{IsImagePath}

-- the file at this path is as it was, or has a front of this text
abbrev pub IsPartWritten : List ℕ → List ℕ → Held → Held → Type 0
IsPartWritten path text old new = (new.bytes_at path ≡ old.bytes_at path) ⊎ IsFrontOf (new.bytes_at path) (Some text)

-- or of the directory of a plan
abbrev pub IsPartOfDirectory : Option (List ℕ) → Type 0
IsPartOfDirectory file =
    (plan : Layout) × IsFrontOf file (Some (directory_of plan.label plan.versions plan.withdrawn))

-- What stood before is as it was. New files are images in this folder, at the paths of their File IDs, and then its
-- directory (PS3.10 section 8.6), which is made once they are stored: that of a plan, or a front of it.
pub record MakesDirectoryLast (folder : List ℕ) (old new : Held) : Type 0 where
  pub last : (path : List ℕ) → IsPathIn folder (codes "DICOMDIR") path → MakesLast path old new
  -- wherever the power is cut, it is as it was before, or else all images are whole
  pub cuts : (path : List ℕ) → IsPathIn folder (codes "DICOMDIR") path → IsSafeAtCuts path old new
  pub directory : (path : List ℕ) → IsPathIn folder (codes "DICOMDIR") path
      → (new.bytes_at path ≡ old.bytes_at path) ⊎ IsPartOfDirectory (new.bytes_at path)
  pub places : (path : List ℕ) → old.bytes_at path ≡ None → IsSome (new.bytes_at path)
      → IsImagePath folder path ⊎ IsPathIn folder (codes "DICOMDIR") path
