-- The directory of a file-set.
use Rattle.std.specs.Prelude.{ℕ, List, Option, codes}
use Rattle.dd_files.specs.Files.{Held}
use Rattle.dd_files.specs.Keeping.{HasBytes, HasSuch}
use Rattle.dd_files.specs.Paths.{IsPathIn}

-- the directory of the file-set in the folder (PS3.10 section 8.6) has these bytes
pub record HasDirectory (folder bytes : List ℕ) (files : Option Held) : Type 0 where
  pub path : List ℕ
  pub place : IsPathIn folder (codes "DICOMDIR") path
  pub stands : HasBytes path bytes files

-- it has bytes of which this is so, where the files say what they hold
abbrev pub HasSuchDirectory : List ℕ → (List ℕ → Type 0) → Option Held → Type 0
HasSuchDirectory folder Is files = (path : List ℕ) × IsPathIn folder (codes "DICOMDIR") path × HasSuch path Is files
