-- Facts of a fault that is not lack of memory, and of a step that fails.
use Rattle.std.proofs.Common.{◌≡◌, Bool, true, false, Result, Err, refl}
use Rattle.std.specs.Prelude.{MatchBool, ⊤}
use Rattle.dd_grammar.specs.declared.fault.SetFault.{SetFault}
use Rattle.dd_grammar.specs.AnswersAs.{FailsAs}
use Rattle.dd_grammar.specs.Faults.{is_memory}
use Rattle.dd_grammar.specs.Reading.{◌>>=◌}

-- what follows from such a fact
pub else_then : {P Q : Type 0} (memory : Bool) → MatchBool memory ⊤ P → (P → Q) → MatchBool memory ⊤ Q
else_then true h k = tt
else_then false h k = k h

-- a fact that holds anyhow
pub else_holds : {P : Type 0} (memory : Bool) → P → MatchBool memory ⊤ P
else_holds true h = tt
else_holds false h = h

-- a step that is refused
pub bind_fails : {A B E : Type 0} (r : Result A E) (f : A → Result B E) (e : E) → r ≡ Err e → (r >>= f) ≡ Err e
bind_fails r f e h = rw h refl

-- a fault that reading gives
pub fails_is : {Y : Type 0} (e : SetFault) (read : Result Y SetFault) → read ≡ Err e → FailsAs is_memory e read
fails_is e read h = else_holds (is_memory e) h
