-- Files as sources: what they hold, and their counts.
use Rattle.std.specs.Prelude.{◌≡◌, ℕ, Bool, List, [], Option, IfSome, IsSome, false, min, nat_eq}
use Rattle.std.specs.Prelude.{slice_get, slice_index_or, sum_by}
use Rattle.std.specs.List.{list_any}
use Rattle.std.specs.Option.{option_and_then}
use Rattle.dd_elem.specs.Device.{last_count}
use Rattle.dd_files.specs.Files.{Held}
use Rattle.dicomdir.specs.declared.source_counts.SourceCounts.{SourceCounts}

-- the bytes of the file at the path, where it is known what files hold and one stands there
abbrev pub contents_at : Option Held → List ℕ → Option (List ℕ)
contents_at held path = option_and_then (λ files. files.bytes_at path) held

-- the bytes of a source, by the paths of all sources
abbrev pub contents_by : Option Held → List (List ℕ) → ℕ → Option (List ℕ)
contents_by held paths at = option_and_then (contents_at held) (slice_get paths at)

-- the number is one of these
abbrev pub is_one : List ℕ → ℕ → Bool
is_one numbers at = list_any (nat_eq at) numbers

-- the source of this number has a path, and where the files say what they hold, a file stands there
pub record IsThere (held : Option Held) (paths : List (List ℕ)) (bad : List ℕ) (at : ℕ) : Type 0 where
  pub named : is_one bad at ≡ false
  pub stands : IfSome held (λ files. IsSome (files.bytes_at (slice_index_or paths at [])))

-- the counts of a source that was not opened yet
abbrev pub no_counts : SourceCounts
no_counts = record { refusals = 0; reads = 0; failures = 0; lent = 0; bytes = 0 }

-- the counts of a source
abbrev pub counts_at : List SourceCounts → ℕ → SourceCounts
counts_at counts at = slice_index_or counts at no_counts

-- the bytes that were read of these sources, up to the largest count
abbrev pub bytes_read : List SourceCounts → List ℕ → ℕ
bytes_read counts picks = min (sum_by (λ at. (counts_at counts at).bytes) picks) last_count
