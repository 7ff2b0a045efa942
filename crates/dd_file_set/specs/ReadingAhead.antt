-- What is known of the files of picks before their images are made.
use Rattle.std.specs.Prelude.{◌≡◌, ◌+◌, ℕ, List, Option, Some, get_or, slice_get, true}
use Rattle.dd_elem.specs.declared.device.Read.{Ghosts as ReadOf}
use Rattle.dd_files.specs.Files.{Held, IsUnread}
use Rattle.dd_filing.specs.Ahead.{NextFiles, with_file}
use Rattle.dd_filing.specs.declared.places.Ahead.{Ahead}
use Rattle.dd_filing.specs.declared.places.Ahead.TheVariants as known
use Rattle.dd_file_set.specs.Made.{HasAtOne}

-- a new reader of a file at one of these paths
pub record OpensOne {R : Type 0} (reader : ReadOf R) (From : List ℕ → Type 0) (files : Option Held) (opened : R)
    : Type 0 where
  pub from : List ℕ
  pub picked : From from
  pub unread : IsUnread reader files from opened

-- what was read of a file at one of these paths: where the reader came to its end, all its bytes
abbrev pub IsKnown : (List ℕ → Type 0) → Ahead → Option Held → Type 0
IsKnown From (known.File taken) files = taken.whole ≡ true → HasAtOne From taken.bytes files
IsKnown From known.Absent files = Unit {0}
IsKnown From known.Unknown files = Unit {0}

-- what is known of the files that are not past is so of these picks, in their order
abbrev pub KnowsNext : {P : Type 0} → (P → List ℕ → Type 0) → List P → NextFiles → Option Held → Type 0
KnowsNext {P = P} From picks all files = (i : ℕ) (pick : P) → slice_get picks i ≡ Some pick
    → IsKnown (From pick) (get_or all.files (all.past + i) known.Unknown) files

-- one more was read, and what is known of it is so of a file at one of these paths
pub record ReadsNext (From : List ℕ → Type 0) (files : Option Held) (old new : NextFiles) : Type 0 where
  pub file : Ahead
  pub next : new ≡ with_file old file
  pub known : IsKnown From file files
