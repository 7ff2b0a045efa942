-- A stream that was read to its end.
use Rattle.std.proofs.Common.{◌≡◌, ◌≤◌, ℕ, ◌+◌, List, [], ◌∷◌, ◌++◌, length, Option, Some, None, refl, sym, ap, ◌∙◌}
use Rattle.std.proofs.Common.{subst, arith, append-nil}
use Rattle.std.specs.Prelude.{IsSome}
use Rattle.std.proofs.lemmas.List.{length-append}
use Rattle.dd_elem.specs.declared.device.Read.{Ghosts as ReadOf}
use Rattle.dd_stream.specs.declared.end.End.{End}
use Rattle.dd_stream.specs.Bytes.{AreBytes}
use Rattle.dd_stream.specs.Reads.{ReadsUpTo}
use Rattle.dd_stream.specs.StreamLaws.{moves_then, tells_then}
use Rattle.dd_stream.specs.Streams.{Position, MayCome, Ends, Turns, Moves}

not_some : IsSome {T = End} None → ⊥
not_some h = absurd cc

-- a stream that is open may still have bytes
pub open_not_over : (held : List ℕ) (left : ℕ) (end : Option End) → end ≡ None
    → ((rest : List ℕ) → MayCome (record { held = held; left = left; end = end }) rest → rest ≡ []) → ⊥
open_not_over held left end opened none =
    let empty = none (held ++ 0 ∷ []) (record {
      more = 0 ∷ [];
      parts = refl;
      shut =
          λ h. absurd (not_some (rw opened at h));
    }) in
    absurd (omega (arith, ap length empty, length-append held (0 ∷ [])))

-- a stream of which nothing may come holds nothing
pub over_empty : (held : List ℕ) (left : ℕ) (end : Option End)
    → ((rest : List ℕ) → MayCome (record { held = held; left = left; end = end }) rest → rest ≡ []) → held ≡ []
over_empty held left end none = none held (record { more = []; parts = sym (append-nil held); shut = λ h. refl })

-- where nothing is held and nothing came, nothing may come
pub tells_none : (p : Position) → p.held ≡ [] → MayCome p []
tells_none p empty = record { more = []; parts = rw empty refl; shut = λ h. refl }

module _ {R : Type 0} (reader : ReadOf R) where
  turned : (first last : R) (given : List ℕ) (left now : ℕ) (before after : Option End) (end : End) → before ≡ None
      → after ≡ Some end → Turns reader first last given left now before after
      → Ends end left given (reader.remaining last) (reader.failures first) (reader.failures last)
      × (reader.calls last ≤ reader.calls first + left + 1)
  turned first last given left now before after end opened shut t = rw shut at (rw opened at t)

  -- what was taken is what the reader gave, and the reader says how it ended
  pub stream_ends : (first last : R) (p r : Position) (taken : List ℕ) (end : End)
      → (m : Moves reader first last p r taken)
      → p.held ≡ [] → p.end ≡ None → r.held ≡ [] → r.end ≡ Some end
      → (m.given ≡ taken)
      × (Ends end p.left m.given (reader.remaining last) (reader.failures first) (reader.failures last)
      × (reader.calls last ≤ reader.calls first + p.left + 1))
  stream_ends first last p r taken end m empty opened none shut = (
    sym (ap (λ (z : List ℕ). z ++ m.given) empty) ∙ m.parts ∙ ap (λ (z : List ℕ). taken ++ z) none ∙ append-nil taken,
    turned first last m.given p.left r.left p.end r.end end opened shut m.turns,
  )

-- A stretch of which this is said whatever comes after it, and then one to the end of the stream. The answer is what is
-- said of all that the reader gave, and how it ended.
pub reads_to_end : {R : Type 0} (reader : ReadOf R) (first then last : R) (p q r : Position) (xs ys : List ℕ)
    (end : End)
    (said : List ℕ → Type 0) (answers : List ℕ → Option (List ℕ) → ℕ → ℕ → Type 0)
    → Moves reader first then p q xs → Moves reader then last q r ys
    → ((rest : List ℕ) → MayCome q rest → said (xs ++ rest))
    → p.held ≡ [] → p.end ≡ None → r.held ≡ [] → r.end ≡ Some end
    → ((given : List ℕ) (left : Option (List ℕ)) (old new : ℕ) → AreBytes given → said given
    → Ends end p.left given left old new → answers given left old new)
    → ReadsUpTo reader p.left first last answers
reads_to_end reader first then last p q r xs ys end said answers m n says empty opened none shut answer =
    let whole = moves_then reader first then last p q r xs ys m n in
    let done = stream_ends reader first last p r (xs ++ ys) end whole empty opened none shut in
    let last_tells = tells_then reader then last q r ys [] n (tells_none r none) in
    let same : xs ++ (ys ++ []) ≡ whole.given = ap (λ (z : List ℕ). xs ++ z) (append-nil ys) ∙ sym done.0 in
    record {
      given = whole.given;
      gave = whole.gave;
      known = whole.known;
      few = done.1.1;
      answered = answer whole.given _ _ _ whole.bytes (subst said same (says (ys ++ []) last_tells)) done.1.0;
    }
