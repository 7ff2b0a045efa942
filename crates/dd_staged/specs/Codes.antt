-- Why a source has no version, as numbers with a tag, a UID or the number of the source.
use Rattle.std.specs.Prelude.{ℕ, List, [], ◌∷◌, Some, None}
use Rattle.byteorder.specs.Endian.{little_bytes}
use Rattle.dd_elem.specs.declared.tag.Tag.{Tag}
use Rattle.dd_encoding.specs.Spelling.{tag_text}
use Rattle.dd_grammar.specs.declared.fault.SetFault.{SetFault}
use Rattle.dd_grammar.specs.declared.fault.SetFault.TheVariants as set_faults
use Rattle.dd_part10.specs.declared.fault.FileFault.{FileFault}
use Rattle.dd_part10.specs.declared.fault.FileFault.TheVariants as file_faults
use Rattle.dd_keys.specs.declared.fault.KeyFault.{KeyFault}
use Rattle.dd_keys.specs.declared.fault.KeyFault.TheVariants as key_faults
use Rattle.dd_staged.specs.declared.code.Code.{Code}
use Rattle.dd_staged.specs.declared.source_fault.SourceFault.{SourceFault}
use Rattle.dd_staged.specs.declared.source_fault.SourceFault.TheVariants as source_faults

-- A fault as four numbers: its own, the one of its cause, the one of what caused that, and a 0 that makes the length
-- even. Where there is no cause the number is 0.
abbrev pub plain : ℕ → ℕ → ℕ → Code
plain number cause deeper = record {
  numbers = number ∷ cause ∷ deeper ∷ 0 ∷ [];
  tag = 0 ∷ 0 ∷ 0 ∷ 0 ∷ [];
  uid = None;
  place = 0 ∷ 0 ∷ 0 ∷ 0 ∷ [];
}

-- with a tag, and with a UID
abbrev pub at_tag : ℕ → ℕ → Tag → Code
at_tag number cause tag = record (plain number cause 0) { tag = tag_text tag }

abbrev pub at_uid : ℕ → ℕ → List ℕ → Code
at_uid number cause uid = record (plain number cause 0) { uid = Some uid }

abbrev pub set_number : SetFault → ℕ
set_number set_faults.Truncated = 1
set_number set_faults.Order = 2
set_number set_faults.BadVr = 3
set_number set_faults.Reserved = 4
set_number set_faults.OddLength = 5
set_number set_faults.UndefinedLength = 6
set_number set_faults.UnexpectedTag = 7
set_number set_faults.BadDelimiter = 8
set_number set_faults.Overrun = 9
set_number set_faults.TooDeep = 10
set_number set_faults.Memory = 91

abbrev pub file_code : FileFault → Code
file_code file_faults.NotPart10 = plain 31 21 0
file_code file_faults.GroupLength = plain 31 22 0
file_code (file_faults.MetaMissing tag) = at_tag 31 23 tag
file_code (file_faults.MetaUid tag) = at_tag 31 24 tag
file_code (file_faults.OtherSyntax uid) = at_uid 31 25 uid
file_code (file_faults.Meta fault) = plain 31 26 (set_number fault)
file_code (file_faults.Set fault) = plain 31 27 (set_number fault)

abbrev pub key_code : KeyFault → Code
key_code (key_faults.File fault) = file_code fault
key_code (key_faults.NotImage uid) = at_uid 32 0 uid
key_code (key_faults.MissingKey tag) = at_tag 33 0 tag
key_code (key_faults.BadKeyUid tag) = at_tag 34 0 tag
key_code (key_faults.KeyTooLong tag) = at_tag 35 0 tag
key_code (key_faults.KeyIsSequence tag) = at_tag 36 0 tag
key_code (key_faults.MetaMismatch tag) = at_tag 37 0 tag
key_code key_faults.Read = plain 38 0 0
key_code key_faults.FileTooLong = plain 39 0 0
key_code key_faults.Memory = plain 91 0 0

abbrev pub code_of : SourceFault → Code
code_of (source_faults.Key fault) = key_code fault
code_of source_faults.Absent = plain 92 0 0
code_of source_faults.Unread = plain 93 0 0
code_of (source_faults.BadName number) = record (plain 99 0 0) { place = little_bytes 4 number }
