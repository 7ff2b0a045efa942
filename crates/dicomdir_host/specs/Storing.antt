-- What waits to be stored.
use Rattle.std.specs.Prelude.{◌≡◌, ◌⊎◌, ℕ, List, [], ◌∷◌, ◌++◌, Option, None, String, string_bytes}
use Rattle.std.specs.declared.alloc.Global.{Global}
use Rattle.dicomdir_host.specs.Folders.{IsBare, IsFolderOf}

-- no file and no folder waits to be stored, and nothing is lost
pub record IsStored {F : Type 0} {P : Type 0} (files : List F) (folders : List P) (lost : Option P) : Type 0 where
  pub no_file : files ≡ []
  pub no_folder : folders ≡ []
  pub no_loss : lost ≡ None

-- to the folders whose names wait comes the one that the path stands in
abbrev pub Names : List ℕ → List (String Global) → List (String Global) → Type 0
Names path old new = (folder : String Global) × IsFolderOf path (string_bytes folder) × (new ≡ old ++ folder ∷ [])

-- the folder at the path is the last of those whose names wait
abbrev pub WaitsLast : List ℕ → List (String Global) → Type 0
WaitsLast path new = (before : List (String Global)) × (folder : String Global) × IsBare path (string_bytes folder)
    × (new ≡ before ++ folder ∷ [])

-- the file at this path waits: after those that waited before, or alone where these were stored
abbrev pub Waits : List ℕ → List (List ℕ) → List (List ℕ) → Type 0
Waits path old new = (new ≡ old ++ path ∷ []) ⊎ (new ≡ path ∷ [])
