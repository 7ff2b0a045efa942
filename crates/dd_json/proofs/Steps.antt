-- Texts that go on their way in two or three steps.
use Rattle.std.proofs.Common.{◌≡◌, ℕ, List, ◌++◌, Result, subst}
use Rattle.std.specs.Prelude.{IsErr, OnErr, OnOk}
use Rattle.dd_lines.specs.Telling.{Fails, GoesOn, Tells, Way}
use Rattle.dd_lines.proofs.GoingOn.{fails_front, fails_next, tells_both, tells_err, tells_then}

-- bytes that are a text went, or the writer failed in them
pub tells_same : {T E : Type 0} (r : Result T E) (bytes text : List ℕ) (a b : Way) → bytes ≡ text
    → OnOk r (GoesOn bytes a b) → OnErr r (Fails bytes a b) → Tells r text a b
tells_same r bytes text a b is sent unsent =
    subst (λ (all : List ℕ). Tells r all a b) is (tells_both r bytes a b sent unsent)

-- the same of a text of them
pub tells_of : {T E : Type 0} (r : Result T E) (f : List ℕ → List ℕ) (bytes text : List ℕ) (a b : Way) → bytes ≡ text
    → Tells r (f bytes) a b → Tells r (f text) a b
tells_of r f bytes text a b is tells = subst (λ (all : List ℕ). Tells r (f all) a b) is tells

-- the writer failed in the first part
pub first_fails : {T E : Type 0} (r : Result T E) (one two : List ℕ) (a b : Way) → IsErr r → Fails one a b
    → Tells r (one ++ two) a b
first_fails r one two a b err failed = tells_err r (one ++ two) a b err (fails_front one two a b failed)

-- it failed in a part that has one before it and one after it
pub middle_fails : {T E : Type 0} (r : Result T E) (one two three : List ℕ) (a b c : Way) → IsErr r
    → GoesOn one a b → Fails two b c → Tells r (one ++ (two ++ three)) a c
middle_fails r one two three a b c err first failed =
    tells_err r (one ++ (two ++ three)) a c err
    (fails_next one (two ++ three) a b c first (fails_front two three b c failed))

-- the answer for the last part is the answer for all three
pub third_tells : {T E : Type 0} (r : Result T E) (one two three : List ℕ) (a b c d : Way)
    → GoesOn one a b → GoesOn two b c → Tells r three c d → Tells r (one ++ (two ++ three)) a d
third_tells r one two three a b c d first second third =
    tells_then r one (two ++ three) a b d first (tells_then r two three b c d second third)
