-- What a reader gave to its end is answered as the bytes of a file are.
use Rattle.std.proofs.Common.{◌≡◌, inr, ℕ, Bool, true, false, List, [], ◌∷◌, length, map}
use Rattle.std.proofs.Common.{Option, Some, None, Result, Ok, Err, if◌then◌else◌, nat_lt}
use Rattle.std.proofs.Common.{refl, sym, ap, subst, ⊎_elim, ◌∙◌}
use Rattle.std.specs.Prelude.{IfSome}
use Rattle.dd_elem.specs.Uid.{is_uid}
use Rattle.dd_elem.specs.declared.tag.Tag.{Tag}
use Rattle.dd_stream.specs.Streams.{Ends}
use Rattle.dd_stream.specs.declared.end.End.TheVariants.{Ended}
use Rattle.dd_grammar.specs.declared.fault.SetFault.TheVariants as parsing
use Rattle.dd_part10.specs.Memory.{ScanWants, IsRefused}
use Rattle.dd_part10.specs.Reading.{FileParts, file_in}
use Rattle.dd_part10.specs.Streaming.{IsFileAnswer}
use Rattle.dd_part10.specs.declared.stream_fault.StreamFault.{StreamFault}
use Rattle.dd_part10.specs.declared.stream_fault.StreamFault.TheVariants as faults
use Rattle.dd_part10.specs.declared.fault.FileFault.{FileFault}
use Rattle.dd_part10.specs.declared.fault.FileFault.TheVariants.{Meta, Set}
use Rattle.dd_keys.specs.Answers.{Answers, AnswersReader, refusal_of}
use Rattle.dd_version.specs.Classes.{is_image_class}
use Rattle.dd_keys.specs.declared.fault.KeyFault.{KeyFault}
use Rattle.dd_keys.specs.declared.fault.KeyFault.TheVariants.{File, Read, FileTooLong, MetaMismatch, Memory}
use Rattle.dd_version.specs.declared.parts.Parts.{Parts}
use Rattle.dd_keys.specs.Faults.{key_fault_of, wanted_uid, mismatch_of, uid_fault_of, row_fault, table_fault, first}
use Rattle.dd_keys.specs.Faults.{fault_of, IsWantOfMemory, SaysMemory}
use Rattle.dd_keys.specs.Table.{Row, key, uid, rows, wanted_tags}
use Rattle.dd_keys.specs.Summaries.{IsJudged}
use Rattle.dd_keys.specs.Values.{value_at}
use Rattle.dd_keys.proofs.FoundVersions.{refusal_answers}

-- ---- each check of a file that was read is one of its class or keys

-- the fault is of a class or a key
abbrev IsOfKeys : KeyFault → Type 0
IsOfKeys (File fault) = ⊥
IsOfKeys Read = ⊥
IsOfKeys FileTooLong = ⊥
IsOfKeys Memory = ⊥
IsOfKeys fault = Unit {0}

either : (test : Bool) (one other : Option KeyFault) → IfSome one IsOfKeys → IfSome other IsOfKeys
    → IfSome (if test then one else other) IsOfKeys
either true one other h k = h
either false one other h k = k

key_check : (tag : Tag) (value : Option (List ℕ)) → IfSome (key_fault_of tag value) IsOfKeys
key_check tag None = tt
key_check tag (Some value) = either (nat_lt 1024 (length value)) _ _ tt tt

mismatch_check : (tag : Tag) (wanted : Option (List ℕ)) (value : List ℕ)
    → IfSome (mismatch_of tag wanted value) IsOfKeys
mismatch_check tag None value = tt
mismatch_check tag (Some wanted) value = either _ None (Some (MetaMismatch tag)) tt tt

uid_check : (tag : Tag) (wanted value : Option (List ℕ)) → IfSome (uid_fault_of tag wanted value) IsOfKeys
uid_check tag wanted None = tt
uid_check tag wanted (Some []) = tt
uid_check tag wanted (Some (byte ∷ value)) =
    let same = mismatch_check tag wanted (byte ∷ value) in
    either (is_uid (byte ∷ value)) (mismatch_of tag wanted (byte ∷ value)) _ same tt

row_check : (file : FileParts) (row : Row) → IfSome (row_fault file row) IsOfKeys
row_check file (key row) = key_check row.tag (value_at row.tag file.set)
row_check file (uid row) = uid_check row.tag (wanted_uid file.meta row.same_as) (value_at row.tag file.set)

first_check : (fault : Option KeyFault) (faults : List (Option KeyFault)) → IfSome fault IsOfKeys
    → IfSome (first faults) IsOfKeys → IfSome (first (fault ∷ faults)) IsOfKeys
first_check None faults here rest = rest
first_check (Some fault) faults here rest = here

rows_check : (file : FileParts) (some : List Row) → IfSome (first (map (row_fault file) some)) IsOfKeys
rows_check file [] = tt
rows_check file (row ∷ some) = first_check (row_fault file row) _ (row_check file row) (rows_check file some)

table_check : (file : FileParts) → IfSome (table_fault file) IsOfKeys
unfolding table_fault
table_check file = rows_check file rows

file_check : (file : FileParts) → IfSome (fault_of (Ok file)) IsOfKeys
file_check file = either (is_image_class file.meta.class) (table_fault file) _ (table_check file) tt

-- it is no fault of a reader
abbrev IsOfFile : KeyFault → Type 0
IsOfFile Read = ⊥
IsOfFile FileTooLong = ⊥
IsOfFile fault = Unit {0}

no_reader : (fault : KeyFault) → IsOfKeys fault → IsOfFile fault
no_reader Read check = check
no_reader FileTooLong check = check
no_reader fault check = tt

no_want : (fault : KeyFault) → IsOfKeys fault → SaysMemory fault → ⊥
no_want Memory check says = check
no_want (File fault) check says = check
no_want fault check says = says

-- ---- the answer

wanting_reader : (limit : ℕ) (given : List ℕ) (left : Option (List ℕ)) (old new : ℕ) (e : FileFault)
    → Ends Ended limit given left old new → SaysMemory (File e)
    → IsWantOfMemory (ScanWants wanted_tags) given (File e)
    → AnswersReader limit given left old new (Err (File e))
wanting_reader limit given left old new e read says want = record {
  read = λ e. absurd (cc);
  long = λ e. absurd (cc);
  ended = λ _ _. read;
  whole = λ _ _ no. absurd (no says);
  memory = λ _. want;
}

-- a file was read, and this is the answer for it, by its first check that fails
pub answers_reader : (limit : ℕ) (given : List ℕ) (left : Option (List ℕ)) (old new : ℕ) (f : FileParts)
    (check : Option KeyFault) (parts : Parts) (answer : Result Parts KeyFault)
    → Ends Ended limit given left old new → file_in given ≡ Ok f → check ≡ fault_of (Ok f)
    → IsJudged check parts answer → Answers given answer → AnswersReader limit given left old new answer
answers_reader limit given left old new f check parts (Ok version) whole read same judged h = record {
  read = λ e. absurd (cc);
  long = λ e. absurd (cc);
  ended = λ _ _. whole;
  whole = λ _ _ _. h;
  memory = tt;
}
answers_reader limit given left old new f check parts (Err fault) whole read same judged h =
    let of_keys : check ≡ Some fault → IsOfKeys fault =
    λ fails. subst (λ (first : Option KeyFault). IfSome first IsOfKeys) (sym same ∙ fails) (file_check f) in
    let of_file : IsOfFile fault =
    ⊎_elim (λ memory. subst IsOfFile (sym memory.1) tt) (λ fails. no_reader fault (of_keys fails)) judged in
    record {
      read = λ e. let same : fault ≡ Read = cc in absurd (subst IsOfFile same of_file);
      long = λ e. let same : fault ≡ FileTooLong = cc in absurd (subst IsOfFile same of_file);
      ended = λ _ _. whole;
      whole = λ _ _ _. h;
      memory = λ says. ⊎_elim
          (λ memory. subst (IsWantOfMemory (ScanWants wanted_tags) given) (sym memory.1)
          (ap fault_of read ∙ sym same ∙ memory.0))
          (λ fails. absurd (no_want fault (of_keys fails) says)) judged;
    }

-- the bytes are no file
failing_reader : (limit : ℕ) (given : List ℕ) (left : Option (List ℕ)) (old new : ℕ) (e : FileFault)
    → Ends Ended limit given left old new → file_in given ≡ Err e → ¬ SaysMemory (File e)
    → AnswersReader limit given left old new (Err (File e))
failing_reader limit given left old new e whole read silent = record {
  read = λ e. absurd (cc);
  long = λ e. absurd (cc);
  ended = λ _ _. whole;
  whole = λ _ _ _. refusal_answers given (File e) (inr (ap fault_of read));
  memory = λ says. absurd (silent says);
}

-- the bytes are no file, or memory ran out
file_refused : (limit : ℕ) (given : List ℕ) (left : Option (List ℕ)) (old new : ℕ) (e : FileFault)
    → Ends Ended limit given left old new → IsRefused wanted_tags e given
    → AnswersReader limit given left old new (Err (File e))
file_refused limit given left old new (Meta parsing.Memory) whole h =
    wanting_reader limit given left old new (Meta parsing.Memory) whole tt h
file_refused limit given left old new (Set parsing.Memory) whole h =
    wanting_reader limit given left old new (Set parsing.Memory) whole tt h
file_refused limit given left old new e whole h = failing_reader limit given left old new e whole h (λ says. says)

-- a refusal of the file that a reader gives
pub refused_reader : (limit : ℕ) (given : List ℕ) (left : Option (List ℕ)) (old new : ℕ)
    (e : StreamFault) → IsFileAnswer (Err e) wanted_tags limit given left old new
    → AnswersReader limit given left old new (Err (refusal_of e))
refused_reader limit given left old new faults.Read h = record {
  read = λ e. h;
  long = λ e. absurd (cc);
  ended = λ no _. absurd (no refl);
  whole = λ no _ _. absurd (no refl);
  memory = λ says. absurd says;
}
refused_reader limit given left old new faults.TooLong h = record {
  read = λ e. absurd (cc);
  long = λ e. h;
  ended = λ _ no. absurd (no refl);
  whole = λ _ no _. absurd (no refl);
  memory = λ says. absurd says;
}
refused_reader limit given left old new (faults.File e) h =
    file_refused limit given left old new e h.0 h.1
