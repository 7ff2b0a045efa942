-- The numbers of faults, as the program prints them and programs in other languages get them.
use Rattle.std.specs.Prelude.{ℕ}
use Rattle.dd_elem.specs.Tag.{number_of}
use Rattle.dd_grammar.specs.declared.fault.SetFault.{SetFault}
use Rattle.dd_grammar.specs.declared.fault.SetFault.TheVariants as set_faults
use Rattle.dd_part10.specs.declared.fault.FileFault.{FileFault}
use Rattle.dd_part10.specs.declared.fault.FileFault.TheVariants as file_faults
use Rattle.dd_walk.specs.declared.fault.DirFault.{DirFault}
use Rattle.dd_walk.specs.declared.fault.DirFault.TheVariants as faults
use Rattle.dd_calls.specs.declared.answer.Answer.{Answer}

-- the number of the fault of a data set
abbrev pub set_cause : SetFault → ℕ
set_cause set_faults.Truncated = 1
set_cause set_faults.Order = 2
set_cause set_faults.BadVr = 3
set_cause set_faults.Reserved = 4
set_cause set_faults.OddLength = 5
set_cause set_faults.UndefinedLength = 6
set_cause set_faults.UnexpectedTag = 7
set_cause set_faults.BadDelimiter = 8
set_cause set_faults.Overrun = 9
set_cause set_faults.TooDeep = 10
set_cause set_faults.Memory = 91

-- the number of the fault of a file, which is 91 where an allocation was refused
abbrev pub file_fault_of : FileFault → ℕ
file_fault_of (file_faults.Meta set_faults.Memory) = 91
file_fault_of (file_faults.Set set_faults.Memory) = 91
file_fault_of _ = 51

abbrev pub fault_of : DirFault → ℕ
fault_of (faults.File fault) = file_fault_of fault
fault_of faults.NotDirectory = 52
fault_of (faults.RecordShape at) = 53
fault_of (faults.Dangling at) = 54
fault_of (faults.Twice at) = 55
fault_of faults.LastRoot = 56
fault_of faults.Memory = 91
fault_of (faults.TooDeep at) = 58

abbrev pub file_within : FileFault → ℕ
file_within file_faults.NotPart10 = 21
file_within file_faults.GroupLength = 22
file_within (file_faults.MetaMissing tag) = 23
file_within (file_faults.MetaUid tag) = 24
file_within (file_faults.OtherSyntax uid) = 25
file_within (file_faults.Meta fault) = 26
file_within (file_faults.Set fault) = 27

abbrev pub file_cause : FileFault → ℕ
file_cause (file_faults.Meta fault) = set_cause fault
file_cause (file_faults.Set fault) = set_cause fault
file_cause _ = 0

abbrev pub file_tag : FileFault → ℕ
file_tag (file_faults.MetaMissing tag) = number_of tag
file_tag (file_faults.MetaUid tag) = number_of tag
file_tag _ = 0

-- of a fault of the file its number there, the number of its cause and its tag, else 0
abbrev pub within_of : DirFault → ℕ
within_of (faults.File fault) = file_within fault
within_of _ = 0

abbrev pub cause_of : DirFault → ℕ
cause_of (faults.File fault) = file_cause fault
cause_of _ = 0

abbrev pub tag_of : DirFault → ℕ
tag_of (faults.File fault) = file_tag fault
tag_of _ = 0

-- the offset of the record that is at fault, else 0
abbrev pub place_of : DirFault → ℕ
place_of (faults.RecordShape at) = at
place_of (faults.Dangling at) = at
place_of (faults.Twice at) = at
place_of (faults.TooDeep at) = at
place_of _ = 0

-- the answer where the directory with this number is refused by this fault
abbrev pub refusal_of : DirFault → ℕ → Answer
refusal_of fault source = record {
  text = 0;
  rows = 0;
  files = 0;
  fault = fault_of fault;
  within = within_of fault;
  cause = cause_of fault;
  at = place_of fault;
  tag = tag_of fault;
  source = source;
}
