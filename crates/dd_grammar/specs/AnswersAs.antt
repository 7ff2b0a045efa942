-- What a function that reads returned, against the definition of reading: it is the same, and only lack of memory says
-- nothing of the bytes. `is_memory` says which faults are lack of memory.
use Rattle.std.specs.Prelude.{◌≡◌, Bool, Result, Ok, Err, MatchBool, ⊤}

-- a returned fault is the one that reading gives, unless it is lack of memory
abbrev pub FailsAs : {Y E : Type 0} → (E → Bool) → E → Result Y E → Type 0
FailsAs is_memory e read = MatchBool (is_memory e) ⊤ (read ≡ Err e)

-- a returned value, seen by `view`, is the one that reading gives, and so is a returned fault
abbrev pub AnswersAs : {X Y E : Type 0} → (E → Bool) → (X → Y) → Result X E → Result Y E → Type 0
AnswersAs is_memory view (Ok x) read = read ≡ Ok (view x)
AnswersAs is_memory view (Err e) read = FailsAs is_memory e read
