-- Paths of directories.
use Rattle.std.specs.Prelude.{◌≡◌, ◌⊎◌, ℕ, List, ◌++◌, codes}

-- its last name says DICOMDIR (PS3.10 section 8.6)
abbrev pub IsDirectoryPath : List ℕ → Type 0
IsDirectoryPath path = (path ≡ codes "DICOMDIR") ⊎ ((folder : List ℕ) × (path ≡ folder ++ codes "/DICOMDIR"))
