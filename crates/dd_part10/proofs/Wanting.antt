-- Where reading a file allocates.
use Rattle.std.proofs.Common.{◌≡◌, List, ℕ, Result, Ok, Err, ◌∙◌}
use Rattle.dd_encoding.specs.declared.syntax.Syntax.{Syntax}
use Rattle.dd_encoding.specs.declared.syntax.Syntax.TheVariants.{Explicit}
use Rattle.dd_set.specs.Memory.{WantsMemory}
use Rattle.dd_part10.specs.declared.fault.FileFault.{FileFault}
use Rattle.dd_part10.specs.declared.fault.FileFault.TheVariants.{OtherSyntax}
use Rattle.dd_encoding.specs.declared.meta.Meta.{Meta}
use Rattle.dd_part10.specs.Memory.{GroupWants, HasHead, SetWants}
use Rattle.dd_part10.specs.Reading.{rest_after_prefix, after_length, syntax_in, meta_in}
use Rattle.dd_encoding.specs.Syntaxes.{syntax_of}
use Rattle.dd_part10.proofs.Steps.{onward, there}

-- the fault that was handed on is the fault of the answer
pub fault_is : {X : Type 0} (r : Result X FileFault) (y e fault : FileFault) → r ≡ Err y → y ≡ e → r ≡ Err fault
    → e ≡ fault
fault_is r y e fault is same answer = cc

pub group_wants : (file rest group set : List ℕ) → rest_after_prefix file ≡ Ok rest
    → after_length rest ≡ Ok (group, set) → WantsMemory Explicit group → GroupWants file
group_wants file rest group set front split wants =
    record {
      group = group;
      set = set;
      parts = onward (rest_after_prefix file) rest after_length front
          ∙ split;
      wants = wants;
    }

unfoldable pub has_head : (file rest group set : List ℕ) (meta : Meta) (syntax : Syntax) → rest_after_prefix file ≡ Ok rest
    → after_length rest ≡ Ok (group, set) → meta_in group ≡ Ok meta → syntax_in meta ≡ Ok syntax
    → HasHead file
has_head file rest group set meta syntax front split holds named =
    record {
      group = group;
      set = set;
      meta = meta;
      syntax = syntax;
      parts = onward (rest_after_prefix file) rest after_length front ∙ split;
      holds = holds;
      known = there (syntax_of meta.transfer) (OtherSyntax meta.transfer) syntax named;
    }

pub set_wants : (file rest group set : List ℕ) (meta : Meta) (syntax : Syntax) → rest_after_prefix file ≡ Ok rest
    → after_length rest ≡ Ok (group, set) → meta_in group ≡ Ok meta → syntax_in meta ≡ Ok syntax
    → WantsMemory syntax set → SetWants file
unfolding has_head
set_wants file rest group set meta syntax front split holds named wants =
    record { head = has_head file rest group set meta syntax front split holds named; wants = wants }
