-- A fault that was handed on.
use Rattle.std.proofs.Common.{◌≡◌, ℕ, List, Result, Err, refl}
use Rattle.dd_elem.specs.declared.tag.Tag.{Tag}
use Rattle.dd_grammar.specs.declared.fault.SetFault.{SetFault}
use Rattle.dd_grammar.specs.declared.fault.SetFault.TheVariants.{Memory}
use Rattle.dd_grammar.specs.Faults as sets
use Rattle.dd_part10.specs.declared.fault.FileFault.{FileFault}
use Rattle.dd_part10.specs.declared.fault.FileFault.TheVariants as faults
use Rattle.dd_grammar.specs.AnswersAs.{FailsAs}
use Rattle.dd_part10.specs.Faults.{is_memory}
use Rattle.dd_part10.specs.Memory.{GroupWants, ScanWants, IsRefused}
use Rattle.dd_grammar.specs.Reading.{◌>>=◌}
use Rattle.dd_part10.specs.Reading.{with_fault, file_in}
use Rattle.dd_grammar.proofs.Failing.{else_then, else_holds}

-- a reading that fails as another does
pub fails_along : {A B : Type 0} (e : FileFault) (r : Result A FileFault) (s : Result B FileFault)
    → FailsAs is_memory e r
    → ((f : FileFault) → r ≡ Err f → s ≡ Err f) → FailsAs is_memory e s
fails_along e r s h k = else_then (is_memory e) h (k e)

-- a fault that reading gives
pub fails_is : {A : Type 0} (e : FileFault) (r : Result A FileFault) → r ≡ Err e → FailsAs is_memory e r
fails_is e r h = else_holds (is_memory e) h

-- a file that is refused, with what is known of it where memory is wanted
pub refused : (wanted : List Tag) (e : FileFault) (file : List ℕ) → FailsAs is_memory e (file_in file)
    → (e ≡ faults.Meta Memory → GroupWants file)
    → (e ≡ faults.Set Memory → ScanWants wanted file) → IsRefused wanted e file
refused wanted (faults.Meta Memory) file h group set = group refl
refused wanted (faults.Set Memory) file h group set = set refl
refused wanted (faults.Meta _) file h group set = h
refused wanted (faults.Set _) file h group set = h
refused wanted _ file h group set = h

-- a data set that is refused
pub set_fails : {A B : Type 0} (e : SetFault) (r : Result A SetFault) (f : A → Result B FileFault)
    → FailsAs sets.is_memory e r
    → FailsAs is_memory (faults.Set e) (with_fault faults.Set r >>= f)
set_fails e r f h = else_then (sets.is_memory e) h (λ is. rw is refl)

-- a step that fails, and what would have followed
pub bind_fails : {A B : Type 0} (r : Result A FileFault) (f : A → Result B FileFault) (e : FileFault) → r ≡ Err e
    → (r >>= f) ≡ Err e
bind_fails r f e h = rw h refl
