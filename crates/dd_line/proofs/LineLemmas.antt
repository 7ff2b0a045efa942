-- What the fault of a parser's error says, and the app of a command with its subcommands.
use Rattle.std.proofs.Common.{◌≡◌, IfErr, refl, Ok, Err, Result, inl, inr, ap, ap₂}
use Rattle.std.proofs.Common.{true, ◌||◌, ◌∙◌}
use Rattle.std.specs.Prelude.{IsErrAnd, MatchResult}
use Rattle.clap.specs.Simple.{app_of_fields}
use Rattle.clap.specs.Words.{AddsArg, AddsSubcommand, App, HasKind, Kinds, Rule, is_simple, is_simple_and_free}
use Rattle.clap.specs.Words.{kind_of, with_rule, with_subcommand}
use Rattle.clap.specs.declared.builder.arg.Arg.{Arg}
use Rattle.clap.specs.declared.builder.command.Command.{Command, Command-F}
use Rattle.clap.specs.declared.builder.command.Command.TheViews.{out-Command as fields_of}
use Rattle.clap.specs.declared.error.Error.{Error}
use Rattle.clap.specs.declared.error.kind.ErrorKind.TheVariants.{OutOfMemory}
use Rattle.dd_line.specs.Line.{HasApp, HasRule, IsFaultOf, IsRefusedFor, dicomdir_app}
use Rattle.dd_line.specs.declared.line.LineFault.{LineFault}
use Rattle.dd_line.specs.declared.line.LineFault.TheVariants.{Refused, Memory}

-- the parser's lack of memory is the fault Memory
memory_of_kind : (e : Error) (fault : LineFault) → IsFaultOf e fault → kind_of e ≡ OutOfMemory → fault ≡ Memory
memory_of_kind e (Refused x) h memory = absurd (h.0 memory)
memory_of_kind e Memory h memory = cc

-- where an error of the parser can only be lack of memory, so can the fault that it becomes
pub memory_alone : {T : Type 0} (r : Result T LineFault) (e : Error) (Taken : Type 0) → IsErrAnd r (IsFaultOf e)
    → (Taken → kind_of e ≡ OutOfMemory) → IfErr r (λ fault. Taken → fault ≡ Memory)
memory_alone (Ok x) e Taken is memory = tt
memory_alone (Err fault) e Taken is memory = λ taken. memory_of_kind e fault is (memory taken)

-- the fault that an error becomes has one of the kinds that the error has
kind_of_fault : (kinds : Kinds) (e : Error) (fault : LineFault) → IsFaultOf e fault → HasKind kinds e
    → IsRefusedFor kinds fault
kind_of_fault kinds e (Refused x) h (inl memory) = absurd (h.0 memory)
kind_of_fault kinds e (Refused x) h (inr among) = rw h.1 (h.0, among)
kind_of_fault kinds e Memory h has = tt

-- so has the fault of a result, where it can only be such a fault
pub refused_for : {T : Type 0} (r : Result T LineFault) (e : Error) (kinds : Kinds) (Right : T → Type 0)
    → IsErrAnd r (IsFaultOf e) → HasKind kinds e → MatchResult r Right (IsRefusedFor kinds)
refused_for (Ok x) e kinds Right is has = absurd is
refused_for (Err fault) e kinds Right is has = kind_of_fault kinds e fault is has

-- the parser's definitions cover the program
pub app_is_simple : is_simple dicomdir_app ≡ true
app_is_simple = refl

pub app_is_free : is_simple_and_free dicomdir_app ≡ true
app_is_free = refl

-- a command that differs in no field that its app shows
pub shows_same : (x : App) (old new : Command) (fields : Command-F Command) → fields_of new ≡ fields
    → app_of_fields fields ≡ app_of_fields (fields_of old) → fields.has_globals ≡ (fields_of old).has_globals
    → HasApp x old → HasApp x new
shows_same x old new fields is shown globals h = record {
  app = ap app_of_fields is ∙ shown ∙ h.app;
  local = ap (λ (f : Command-F Command). f.has_globals) is ∙ globals ∙ h.local;
}

-- the app of a command with one argument more
pub with_arg : (x : App) (rule : Rule) (old new : Command) (arg : Arg) → HasApp x old → HasRule rule arg
    → AddsArg old arg new → HasApp (with_rule x rule) new
with_arg x rule old new arg h has adds = record {
  app = adds.shape has.local ∙ ap₂ with_rule h.app has.rule;
  local = adds.globals ∙ ap₂ ◌||◌ h.local has.local;
}

-- the app of a command with one subcommand more
pub with_sub : (x y : App) (old sub new : Command) → HasApp x old → HasApp y sub → AddsSubcommand old sub new
    → HasApp (with_subcommand x y.top) new
with_sub x y old sub new h k adds = record {
  app = adds.shape k.local ∙ ap₂ with_subcommand h.app (ap (λ (a : App). a.top) k.app);
  local = adds.globals ∙ ap₂ ◌||◌ h.local k.local;
}
