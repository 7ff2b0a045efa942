-- The laws of spelling and reading: what is read is spelled so and what is spelled so is read; what the results of code
-- that reads say of them.
use Rattle.std.proofs.Common.{◌≡◌, ◌≢◌, ℕ, ◌%◌, ◌^◌, ◌<◌, ◌↔◌, List, ◌++◌, length, Some, None, Result, Ok, Err, IfOk}
use Rattle.std.proofs.Common.{IfErr, refl, sym, ap, subst, ◌∙◌, arith, length-append}
use Rattle.dd_grammar.specs.declared.fault.SetFault.{SetFault}
use Rattle.dd_grammar.specs.declared.fault.SetFault.TheVariants.{Truncated, Memory}
use Rattle.dd_encoding.specs.declared.syntax.Syntax.{Syntax}
use Rattle.dd_stream.specs.Bytes.{AreBytes}
use Rattle.dd_encoding.specs.Elements.{Elements}
use Rattle.dd_encoding.specs.Spelling.{max_levels, Spells}
use Rattle.dd_grammar.specs.Reading.{read_all, fault_of, first_fault}
use Rattle.dd_grammar.specs.AnswersAs.{FailsAs, AnswersAs}
use Rattle.dd_grammar.specs.Faults.{is_memory}
use Rattle.dd_grammar.proofs.Steps.{ok_is}
use Rattle.dd_grammar.proofs.SoundItems.{all_takes}
use Rattle.dd_grammar.proofs.Again.{all_again}
use Rattle.dd_encoding.proofs.Even.{even_elements}
use Rattle.dd_grammar.proofs.FrontItems.{front_fails}

-- ---- spelling and reading

-- the set that the bytes spell is read
pub spelled_is_read : (syntax : Syntax) (set : Elements) (bs : List ℕ) → Spells syntax set bs
    → read_all syntax bs ≡ Ok set
spelled_is_read syntax set bs s = ap (λ (b : List ℕ). read_all syntax b) s.whole ∙ all_again syntax set s.valid

-- the set that is read is spelled by the bytes
pub read_is_spelled : (syntax : Syntax) (bs : List ℕ) (set : Elements) → AreBytes bs → length bs < 2 ^ 64
    → read_all syntax bs ≡ Ok set → Spells syntax set bs
read_is_spelled syntax bs set fits long e =
    let t = all_takes syntax bs set e fits in
    record { valid = t.0; whole = t.1; fits = long }

-- a set has one spelling at most
pub one_spelling : (syntax : Syntax) (set : Elements) (a b : List ℕ) → Spells syntax set a → Spells syntax set b → a ≡ b
one_spelling syntax set a b s t = s.whole ∙ sym t.whole

-- bytes spell one set at most
pub one_set : (syntax : Syntax) (a b : Elements) (bs : List ℕ) → Spells syntax a bs → Spells syntax b bs → a ≡ b
one_set syntax a b bs s t = ok_is a b (sym (spelled_is_read syntax a bs s) ∙ spelled_is_read syntax b bs t)

-- a spelling has an even length
pub spelling_even : (syntax : Syntax) (set : Elements) (bs : List ℕ) → Spells syntax set bs → length bs % 2 ≡ 0
spelling_even syntax set bs s = ap (λ (b : List ℕ). length b % 2) s.whole
    ∙ even_elements syntax max_levels 0 set s.valid

-- bytes that are refused spell none
pub refused_spells_none : (syntax : Syntax) (bs : List ℕ) (e : SetFault) → read_all syntax bs ≡ Err e → (set : Elements)
    → Spells syntax set bs → ⊥
refused_spells_none syntax bs e r set s = let both : read_all syntax bs ≡ Ok set = spelled_is_read syntax set bs s in
    absurd cc

-- a result without a fault is a set
read_of : (r : Result Elements SetFault) → fault_of r ≡ None → (set : Elements) × (r ≡ Ok set)
read_of (Ok set) e = (set, refl)
read_of (Err d) e = absurd cc

-- bytes have no fault just where they spell a set
pub no_fault : (syntax : Syntax) (bs : List ℕ) → AreBytes bs → length bs < 2 ^ 64
    → (first_fault syntax bs ≡ None) ↔ ((set : Elements) × Spells syntax set bs)
no_fault syntax bs fits long = (
  λ e. let r = read_of (read_all syntax bs) e in (r.0, read_is_spelled syntax bs r.0 fits long r.1),
  λ s. ap fault_of (spelled_is_read syntax s.0 bs s.1),
)

-- ---- fronts

-- the front of a spelling that spells no set itself ends too early
pub front_too_short : (syntax : Syntax) (set : Elements) (front more : List ℕ) → AreBytes front
    → Spells syntax set (front ++ more) → ((other : Elements) → Spells syntax other front → ⊥)
    → first_fault syntax front ≡ Some Truncated
front_too_short syntax set front more fits s none = go (read_all syntax front) refl
  where
    whole : read_all syntax (front ++ more) ≡ Ok set
    whole = spelled_is_read syntax set (front ++ more) s

    long : length front < 2 ^ 64
    long = let all : length (front ++ more) < 2 ^ 64 = s.fits in omega (arith, length-append front more)

    differs : (e : SetFault) → read_all syntax front ≡ Err e → (e ≢ Truncated) → ⊥
    differs e r ne = let read : read_all syntax (front ++ more) ≡ Ok set = whole in
        let other : read_all syntax (front ++ more) ≡ Err e = front_fails syntax front more e r ne in absurd cc

    fault : (e : SetFault) → read_all syntax front ≡ Err e → Some e ≡ Some Truncated
    fault Truncated r = refl
    fault e r = absurd (differs e r (λ same. cc))

    go : (r : Result Elements SetFault) → read_all syntax front ≡ r → fault_of r ≡ Some Truncated
    go (Ok other) r = absurd (none other (read_is_spelled syntax front other fits long r))
    go (Err e) r = fault e r

-- ---- what code that reads returns

-- a value that was returned is the set that the bytes spell
pub is_found : {X : Type 0} (view : X → Elements) (syntax : Syntax) (bs : List ℕ) (r : Result X SetFault) → AreBytes bs
    → length bs < 2 ^ 64 → AnswersAs is_memory view r (read_all syntax bs) → IfOk r (λ x. Spells syntax (view x) bs)
is_found view syntax bs (Ok x) fits long given = read_is_spelled syntax bs (view x) fits long given
is_found view syntax bs (Err e) fits long given = tt

-- where the bytes spell a set, it was returned, unless memory ran out
pub is_only : {X : Type 0} (view : X → Elements) (syntax : Syntax) (bs : List ℕ) (r : Result X SetFault)
    → AnswersAs is_memory view r (read_all syntax bs) → (set : Elements) → Spells syntax set bs
    → AnswersAs is_memory view r (Ok set)
is_only view syntax bs r given set s = subst (λ (q : Result Elements SetFault). AnswersAs is_memory view r q)
    (spelled_is_read syntax set bs s) given

-- a fault that was returned is the fault of reading
fails_so : (read : Result Elements SetFault) (e : SetFault) → FailsAs is_memory e read → e ≢ Memory
    → fault_of read ≡ Some e
fails_so read Memory h ne = absurd (ne refl)
fails_so read _ h ne = ap fault_of h

-- a fault that was returned is the first that the bytes have, unless memory ran out
pub is_fault : {X : Type 0} (view : X → Elements) (syntax : Syntax) (bs : List ℕ) (r : Result X SetFault)
    → AnswersAs is_memory view r (read_all syntax bs) → IfErr r (λ e. e ≢ Memory → first_fault syntax bs ≡ Some e)
is_fault view syntax bs (Ok x) given = tt
is_fault view syntax bs (Err e) given = λ ne. fails_so (read_all syntax bs) e given ne
