-- A folder has one directory.
use Rattle.std.proofs.Common.{◌≡◌, ◌∙◌, ℕ, List, Some, ap, sym}
use Rattle.std.proofs.lemmas.Option.{same_Some}
use Rattle.dd_files.specs.Files.{Held}
use Rattle.dd_files.proofs.OnePaths.{one_path}
use Rattle.dd_inspecting.specs.Directories.{HasDirectory}

pub one_directory : (folder bytes other : List ℕ) (held : Held) → HasDirectory folder bytes (Some held)
    → HasDirectory folder other (Some held) → bytes ≡ other
one_directory folder bytes other held one two =
    let same = one_path folder _ one.path two.path one.place two.place in
    same_Some bytes other (sym one.stands ∙ ap held.bytes_at same ∙ two.stands)
