-- The list of a pile as a file.
use Rattle.std.specs.Prelude.{◌≡◌, ℕ, List, Option, Some, IfSome}
use Rattle.dd_files.specs.Files.{Held}
use Rattle.dd_pile.specs.Paths.{IsListPath}

-- this is so of the bytes of the list
pub record HasList (pile : List ℕ) (Is : List ℕ → Type 0) (files : Held) : Type 0 where
  pub path : List ℕ
  pub place : IsListPath pile path
  pub bytes : List ℕ
  pub there : files.bytes_at path ≡ Some bytes
  pub is : Is bytes

-- the same where files may not say what they hold
abbrev pub IfList : List ℕ → (List ℕ → Type 0) → Option Held → Type 0
IfList pile Is files = IfSome files (λ held. HasList pile Is held)
