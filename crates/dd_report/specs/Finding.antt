-- What a check of a record finds of the file that it names (PS3.3 section F.3.2.2, Referenced File ID).
use Rattle.std.proofs.Common.{inl, inr}
use Rattle.std.specs.Prelude.{◌≡◌, ◌≢◌, ◌⊎◌, ◌&&◌, not, ℕ, Bool, List, [], Option, None}
use Rattle.std.specs.Prelude.{Some, is_some, true, if◌then◌else◌}
use Rattle.std.specs.Borrow.{MutBor}
use Rattle.std.specs.Str.{bytes_eq}
use Rattle.sha2.specs.Sha256.{sha256}
use Rattle.dd_elem.specs.declared.device.Read.{Ghosts as ReadOf}
use Rattle.dd_elem.specs.FileIdForm.{IsFileId}
use Rattle.dd_stream.specs.Reads.{ReadsUpTo}
use Rattle.dd_stream.specs.Streams.{Ends}
use Rattle.dd_stream.specs.declared.end.End.TheVariants.{Ended}
use Rattle.dd_records.specs.ElementForms.{tag}
use Rattle.dd_walk.specs.Trees.{Node}
use Rattle.dd_walk.specs.Saying.{digest_in, key_of}
use Rattle.dd_files.specs.ReadToEnd.{ReadAmiss}
use Rattle.dd_report.specs.declared.findings.Finding.{Finding}
use Rattle.dd_report.specs.declared.findings.Finding.TheVariants.{Differs, Missing, NoDigest, Unreadable}

-- the File ID of a record, without its padding: no bytes where it has none
abbrev pub file_in : Node → List ℕ
file_in node = key_of (tag 0x0004 0x1500) node.set

-- it is in use, and names a file
abbrev pub NamesFile : Node → Type 0
NamesFile node = (node.in_use ≡ true) × (file_in node ≢ [])

-- it names one by a File ID
abbrev pub HasFileId : Node → Type 0
HasFileId node = NamesFile node × IsFileId (file_in node)

-- ---- a file that is read

-- it differs where the record has another digest than it has
abbrev pub compared : Option (List ℕ) → List ℕ → Option Finding
compared None found = None
compared (Some recorded) found = if bytes_eq recorded found then None else Some (Differs recorded found)

-- what is found of bytes that were read whole, by the digest that the record has
abbrev pub by_digest : Node → List ℕ → Option Finding
by_digest node given = compared (digest_in node.set) (sha256 given)

-- a record has no digest, which is found where `strict` asks for it
abbrev pub without_digest : Bool → Node → Option Finding
without_digest strict node = if strict && not (is_some (digest_in node.set)) then Some NoDigest else None

-- what is found of it, where `whole` says what is found of bytes that were read whole
abbrev pub IsFound : Option Finding → (List ℕ → Option Finding) → ℕ → List ℕ → Option (List ℕ) → ℕ → ℕ → Type 0
IsFound finding whole limit given left failures after =
    ((finding ≡ whole given) × Ends Ended limit given left failures after)
    ⊎ ((finding ≡ Some Unreadable) × ReadAmiss limit given left failures after)

-- what is found of it by reading it once, to its end, to a failure or to a byte more than the limit
abbrev pub FindsBy : {R : Type 0} → ReadOf R → ℕ → (List ℕ → Option Finding) → Option Finding → R → R → Type 0
FindsBy reader limit whole finding old new = ReadsUpTo reader limit old new (IsFound finding whole limit)

-- the same of a file that may be missing, as its reader comes in and as it is left
abbrev pub FindsIn : {R : Type 0} → ReadOf R → ℕ → Node → Option Finding → Option (MutBor R)
    → Unit {0} ⊎ ((MutBor R × Unit {0}) ⊎ ⊥) → Type 0
FindsIn reader limit node finding None left = finding ≡ Some Missing
FindsIn reader limit node finding (Some file) (inr (inl left)) =
    FindsBy reader limit (by_digest node) finding file.now left.0.now
FindsIn reader limit node finding (Some file) left = ⊥

-- a file that may be missing is not read: its reader is left as it came in
abbrev pub IsUnread : {R : Type 0} → Option (MutBor R) → Unit {0} ⊎ ((MutBor R × Unit {0}) ⊎ ⊥) → Type 0
IsUnread None left = Unit {0}
IsUnread (Some file) (inr (inl left)) = left.0.now ≡ file.now
IsUnread (Some file) left = ⊥
