-- A file taken from a feed, front by front, against reading it in memory. Where `bytes` were to come at first, `rest`
-- is still to come.
use Rattle.std.specs.Prelude.{◌≡◌, ℕ, List, map, Result, Ok, Err}
use Rattle.dd_elem.specs.declared.tag.Tag.{Tag}
use Rattle.dd_grammar.specs.declared.fault.SetFault.TheVariants.{Memory}
use Rattle.dd_scan.specs.declared.found.Scan.{Scan}
use Rattle.dd_encoding.specs.declared.syntax.Syntax.{Syntax}
use Rattle.dd_encoding.specs.declared.syntax.Syntax.TheVariants.{Explicit}
use Rattle.dd_encoding.specs.Elements.{Elements}
use Rattle.dd_set.specs.Memory.{WantsMemory}
use Rattle.dd_scan.specs.Scan.{IsScan, HasWanted, found_hit, hits_of}
use Rattle.dd_part10.specs.declared.fault.FileFault.{FileFault}
use Rattle.dd_part10.specs.declared.fault.FileFault.TheVariants as faults
use Rattle.dd_encoding.specs.declared.meta.Meta.{Meta}
use Rattle.dd_part10.specs.declared.scanned.Scanned.{Scanned}
use Rattle.dd_grammar.specs.AnswersAs.{FailsAs}
use Rattle.dd_part10.specs.Faults.{is_memory}
use Rattle.dd_part10.specs.Memory.{GroupWants, HasHead, IsRefused}
use Rattle.dd_grammar.specs.Reading.{◌>>=◌}
use Rattle.dd_part10.specs.Reading.{FileParts, rest_after_prefix, split_at, after_length, meta_in, set_in, file_in}

-- ---- what was taken

-- the preamble and the prefix
abbrev pub PrefixTaken : {X : Type 0} → Result X FileFault → List ℕ → List ℕ → Type 0
PrefixTaken (Ok x) bytes rest = rest_after_prefix bytes ≡ Ok rest
PrefixTaken (Err e) bytes rest = FailsAs is_memory e (rest_after_prefix bytes)

-- the group length
abbrev pub CountTaken : Result ℕ FileFault → List ℕ → List ℕ → Type 0
CountTaken (Ok n) bytes rest = after_length bytes ≡ split_at n rest
CountTaken (Err e) bytes rest = FailsAs is_memory e (after_length bytes)

-- the group length is there, and reading the bytes that it counts allocates
pub record MetaWants (bytes : List ℕ) : Type 0 where
  pub group : List ℕ
  pub set : List ℕ
  pub parts : after_length bytes ≡ Ok (group, set)
  pub wants : WantsMemory Explicit group

-- the group length, and the meta information in the bytes that it counts
abbrev pub MetaTaken : Result Meta FileFault → List ℕ → List ℕ → Type 0
MetaTaken (Ok meta) bytes rest = (group : List ℕ) × (after_length bytes ≡ Ok (group, rest)) × (meta_in group ≡ Ok meta)
MetaTaken (Err e) bytes rest = FailsAs is_memory e (after_length bytes >>= λ parts. meta_in parts.0)
    × (e ≡ faults.Meta Memory → MetaWants bytes)

-- a number of bytes, of a file whose group length counts them
abbrev pub GroupTaken : ℕ → Result Meta FileFault → List ℕ → List ℕ → Type 0
GroupTaken n result mid rest = (bytes : List ℕ) → after_length bytes ≡ split_at n mid → MetaTaken result bytes rest

-- a file with this head has the data set in the bytes after it
abbrev pub whole_with : Meta → ℕ → Result Elements FileFault → Result FileParts FileFault
whole_with meta set_at set = set >>= λ s. Ok (record { meta = meta; set = s; set_at = set_at })

-- all that stands before the data set: what is read of the file is this, and the data set in the syntax that it names
abbrev pub HeadTaken : Result (Meta × Syntax) FileFault → List ℕ → List ℕ → Type 0
HeadTaken (Ok (meta, syntax)) bytes rest =
    (set_at : ℕ) × (file_in bytes ≡ whole_with meta set_at (set_in syntax rest))
    × (head : HasHead bytes) × (head.syntax ≡ syntax) × (head.set ≡ rest)
HeadTaken (Err e) bytes rest = FailsAs is_memory e (file_in bytes) × (e ≡ faults.Meta Memory → GroupWants bytes)

-- the data set that reading gives, or lack of memory where a wanted element is there
abbrev pub SetTaken : Syntax → List Tag → Result Scan FileFault → List ℕ → Type 0
SetTaken syntax wanted (Ok scan) bytes = (set : Elements) × (set_in syntax bytes ≡ Ok set) × IsScan wanted scan set
SetTaken syntax wanted (Err e) bytes = FailsAs is_memory e (set_in syntax bytes)
    × (e ≡ faults.Set Memory → HasWanted syntax wanted bytes)

-- ---- a file

-- a scan is of this file: it has its meta information, and the wanted elements of its data set
pub record IsScanned (wanted : List Tag) (scanned : Scanned) (file : FileParts) : Type 0 where
  pub meta : scanned.meta ≡ file.meta
  pub found : map found_hit scanned.found.items ≡ hits_of wanted file.set

-- a returned scan is of the file that reading the bytes gives
abbrev pub FileTaken : List Tag → Result Scanned FileFault → List ℕ → Type 0
FileTaken wanted (Ok scanned) bytes = (file : FileParts) × (file_in bytes ≡ Ok file) × IsScanned wanted scanned file
FileTaken wanted (Err e) bytes = IsRefused wanted e bytes
