-- What a stream takes in two stretches it takes in one.
use Rattle.std.specs.Prelude.{◌≡◌, ℕ, ◌+◌, List, [], ◌++◌, length, Option, Some, None, IsSome}
use Rattle.std.proofs.Common.{refl, sym, ap, ◌∙◌, arith, append_assoc, append-nil, inl, inr, ◌-◌}
use Rattle.std.proofs.lemmas.Bool.{cases_lt}
use Rattle.std.proofs.lemmas.List.{length-append, get_or_append_left, get_or-append_right}
use Rattle.dd_elem.proofs.Known.{gives_none, gives_more, consumes_none, consumes_more}
use Rattle.dd_elem.specs.declared.device.Read.{Ghosts as ReadOf}
use Rattle.dd_stream.specs.declared.end.End.{End}
use Rattle.dd_stream.specs.declared.end.End.TheVariants.{Ended, Failed, TooLong}
use Rattle.dd_stream.specs.Bytes.{AreBytes}
use Rattle.dd_stream.specs.Streams.{Position, MayCome, Ends, Turns, Moves}

module _ {R : Type 0} (reader : ReadOf R) where
  turns_none : (state : R) (left : ℕ) (end : Option End) → Turns reader state state [] left left end end
  turns_none state left None = (refl, omega arith, omega arith)
  turns_none state left (Some end) = (refl, refl, refl)

  -- a stretch while it was open, and then one in which it ended
  ends_then : (first then last : R) (g h : List ℕ) (left now : ℕ) (end : End)
      → reader.failures then ≡ reader.failures first → now + length g ≡ left
      → Ends end now h (reader.remaining last) (reader.failures then) (reader.failures last)
      → Ends end left (g ++ h) (reader.remaining last) (reader.failures first) (reader.failures last)
  ends_then first then last g h left now Ended same count e = (omega (arith, length-append g h), e.1, rw same at e.2)
  ends_then first then last g h left now Failed same count e = (omega (arith, length-append g h), rw same at e.1)
  ends_then first then last g h left now TooLong same count e = (omega (arith, length-append g h), rw same at e.1)

  turns_then : (first then last : R) (g h : List ℕ) (a b c : ℕ) (one two three : Option End)
      → Turns reader first then g a b one two
      → Turns reader then last h b c two three
      → Turns reader first last (g ++ h) a c one three
  turns_then first then last g h a b c None None None t u =
      (u.0 ∙ t.0, omega (arith, length-append g h), omega (arith, length-append g h))
  turns_then first then last g h a b c None None (Some end) t u =
      (ends_then first then last g h a b end t.0 t.1 u.0, omega arith)
  turns_then first then last g h a b c None (Some end) three t u = rw (u.0, u.1, u.2, append-nil) t
  turns_then first then last g h a b c (Some end) two three t u =
      let v = rw t.0 at u in
      (v.0, v.1 ∙ t.1, rw (t.2, v.2) refl)

  bytes_then : (g h : List ℕ) → AreBytes g → AreBytes h → AreBytes (g ++ h)
  bytes_then g h p q i =
      elim (cases_lt i (length g)) [
        | inl lt ↦ rw (get_or_append_left g h 0 i lt) (p i)
        | inr le ↦ rw (get_or-append_right g h (length g) i 0 refl le) (q (i - length g))
      ]

  pub moves_none : (state : R) (p : Position) → Moves reader state state p p []
  moves_none state p = record {
    given = [];
    gave = gives_none reader.has_given state;
    known = consumes_none (reader.remaining state);
    bytes = λ i. omega arith;
    parts = append-nil p.held;
    turns = turns_none state p.left p.end;
  }

  pub moves_then : (first then last : R) (p q r : Position) (xs ys : List ℕ)
      → Moves reader first then p q xs
      → Moves reader then last q r ys
      → Moves reader first last p r (xs ++ ys)
  moves_then first then last p q r xs ys m n = record {
    given = m.given ++ n.given;
    gave = gives_more reader.has_given first then last m.given n.given m.gave n.gave;
    known = consumes_more (reader.remaining first) (reader.remaining then) (reader.remaining last)
        m.given n.given m.known n.known;
    bytes = bytes_then m.given n.given m.bytes n.bytes;
    parts = sym (append_assoc p.held m.given n.given) ∙ ap (λ (z : List ℕ). z ++ n.given) m.parts
        ∙ append_assoc xs q.held n.given ∙ ap (λ (z : List ℕ). xs ++ z) n.parts ∙ sym (append_assoc xs ys r.held);
    turns = turns_then first then last m.given n.given p.left q.left r.left p.end q.end r.end m.turns n.turns;
  }

  shut_then : (first then : R) (given more : List ℕ) (a b : ℕ) (one two : Option End)
      → Turns reader first then given a b one two → (IsSome two → more ≡ [])
      → IsSome one → given ++ more ≡ []
  shut_then first then given more a b None two t shut h = absurd cc
  shut_then first then given more a b (Some end) two t shut h =
      let none = (rw t.0 at shut) refl in
      rw (t.2, none) refl

  pub tells_then : (first then : R) (p q : Position) (xs ys : List ℕ)
      → Moves reader first then p q xs → MayCome q ys → MayCome p (xs ++ ys)
  tells_then first then p q xs ys m t = record {
    more = m.given ++ t.more;
    parts = ap (λ (z : List ℕ). xs ++ z) t.parts ∙ sym (append_assoc xs q.held t.more)
        ∙ ap (λ (z : List ℕ). z ++ t.more) (sym m.parts) ∙ append_assoc p.held m.given t.more;
    shut = shut_then first then m.given t.more p.left q.left p.end q.end m.turns t.shut;
  }
