-- The answer of a call that is refused by each fault.
use Rattle.std.specs.Prelude.{◌<◌, ℕ}
use Rattle.dd_elem.specs.Tag.{number_of}
use Rattle.dd_elem.specs.declared.tag.Tag.{Tag}
use Rattle.dd_grammar.specs.declared.fault.SetFault.TheVariants as set_faults
use Rattle.dd_part10.specs.declared.fault.FileFault.{FileFault}
use Rattle.dd_part10.specs.declared.fault.FileFault.TheVariants as file_faults
use Rattle.dd_dir.specs.declared.own_fault.OwnFault.{OwnFault}
use Rattle.dd_dir.specs.declared.own_fault.OwnFault.TheVariants as own_faults
use Rattle.dd_engine.specs.declared.merge_fault.MergeFault.{MergeFault}
use Rattle.dd_engine.specs.declared.merge_fault.MergeFault.TheVariants as merge_faults
use Rattle.dd_keys.specs.declared.fault.KeyFault.{KeyFault}
use Rattle.dd_keys.specs.declared.fault.KeyFault.TheVariants as key_faults
use Rattle.dd_layout.specs.declared.fault.PlanFault.{PlanFault}
use Rattle.dd_layout.specs.declared.fault.PlanFault.TheVariants as plan_faults
use Rattle.dd_calls.specs.declared.answer.Answer.{Answer}
use Rattle.dd_calls.specs.Faults.{file_cause, file_tag, file_within, refusal_of}
use Rattle.dd_calls.specs.Sizes.{by_number}

-- by a fault at this tag
abbrev pub at_tag : ℕ → Tag → Answer
at_tag fault tag = record (by_number fault) { tag = number_of tag }

-- by a fault of the input with this number
abbrev pub of_input : ℕ → ℕ → Answer
of_input fault source = record (by_number fault) { source = source }

-- by a fault of the record at this offset of that input
abbrev pub of_record : ℕ → ℕ → ℕ → Answer
of_record fault source at = record (of_input fault source) { at = at }

-- the number of the fault of an image file, which is 91 where an allocation was refused
abbrev pub no_file : FileFault → ℕ
no_file (file_faults.Meta set_faults.Memory) = 91
no_file (file_faults.Set set_faults.Memory) = 91
no_file fault = 31

abbrev pub key_refusal : KeyFault → Answer
key_refusal (key_faults.File file) =
    record (by_number (no_file file)) { within = file_within file; cause = file_cause file; tag = file_tag file }
key_refusal (key_faults.NotImage uid) = by_number 32
key_refusal (key_faults.MissingKey tag) = at_tag 33 tag
key_refusal (key_faults.BadKeyUid tag) = at_tag 34 tag
key_refusal (key_faults.KeyTooLong tag) = at_tag 35 tag
key_refusal (key_faults.KeyIsSequence tag) = at_tag 36 tag
key_refusal (key_faults.MetaMismatch tag) = at_tag 37 tag
key_refusal key_faults.Read = by_number 38
key_refusal key_faults.FileTooLong = by_number 39
key_refusal key_faults.Memory = by_number 91

abbrev pub plan_refusal : PlanFault → Answer
plan_refusal (plan_faults.Conflict one other) = by_number 41
plan_refusal (plan_faults.TooMany level) = by_number 42
plan_refusal plan_faults.TooLarge = by_number 43
plan_refusal plan_faults.Memory = by_number 91

abbrev pub own_refusal : ℕ → OwnFault → Answer
own_refusal source (own_faults.NoDigest at) = of_record 61 source at
own_refusal source (own_faults.ForeignRecord at) = of_record 62 source at
own_refusal source (own_faults.RecordKey at tag) = record (of_record 63 source at) { tag = number_of tag }
own_refusal source own_faults.BadWithdrawal = of_input 65 source
own_refusal source own_faults.Memory = of_input 91 source

abbrev pub merge_refusal : MergeFault → Answer
merge_refusal (merge_faults.Dir at fault) = refusal_of fault at
merge_refusal (merge_faults.Own at fault) = own_refusal at fault
merge_refusal (merge_faults.Plan fault) = plan_refusal fault
merge_refusal merge_faults.Memory = by_number 91

-- a status that is the number of a fault
abbrev pub IsFault : ℕ → Type 0
IsFault status = 1 < status
