-- Where a file is found that a directory names.
use Rattle.std.specs.Prelude.{◌↔◌, List, ℕ, Option, IfSome, IsSome}
use Rattle.dd_files.specs.Files.{Held}

-- The file that is recorded at a path is found at one where it may be shown. Where it is known what files hold, it is
-- found exactly where they hold one at the recorded path.
pub record IsFoundAt (IsShown : List ℕ → Type 0) (held : Option Held) (path : List ℕ) (found : Option (List ℕ)) : Type 0 where
  pub shown : IfSome found IsShown
  pub there : IfSome held (λ files. IsSome found ↔ IsSome (files.bytes_at path))
