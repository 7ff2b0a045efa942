-- What is known of sources before their turn.
use Rattle.std.specs.Prelude.{◌≡◌, ℕ, ◌+◌, List, Option, Some, get_or, slice_get}
use Rattle.dd_files.specs.Files.{Held}
use Rattle.dd_filing.specs.Ahead.{NextFiles, with_file}
use Rattle.dd_filing.specs.declared.places.Ahead.{Ahead}
use Rattle.dd_filing.specs.declared.places.Ahead.TheVariants as known
use Rattle.dd_pile.specs.Copies.{IsKnown}
use Rattle.dd_pile.specs.declared.source.StageSource.{StageSource}

-- what is known of the files that are not past is so of these sources, in their order
abbrev pub KnowsNext : List StageSource → NextFiles → Option Held → Type 0
KnowsNext sources all files = (i : ℕ) (source : StageSource) → slice_get sources i ≡ Some source
    → IsKnown source.path.now (get_or all.files (all.past + i) known.Unknown) files

-- one more was read, and what is known of it is so of the file at this path
pub record ReadsNext (path : List ℕ) (files : Option Held) (old new : NextFiles) : Type 0 where
  pub file : Ahead
  pub next : new ≡ with_file old file
  pub known : IsKnown path file files
