-- Reading on where nothing is kept of what was read before.
use Rattle.std.proofs.Common.{◌≡◌, ℕ, suc, Some, None, Ok, Err, refl}
use Rattle.dd_grammar.specs.declared.fault.SetFault.{SetFault}
use Rattle.dd_encoding.specs.declared.syntax.Length.{Length}
use Rattle.dd_encoding.specs.declared.syntax.Syntax.{Syntax}
use Rattle.dd_encoding.specs.Elements.{Content, Item}
use Rattle.dd_grammar.specs.AnswersAs.{FailsAs}
use Rattle.dd_grammar.specs.Faults.{is_memory}
use Rattle.dd_grammar.specs.Reading.{Header, front_at, element_after, item_front_at, item_after, At, Reads, ◌>>=◌}
use Rattle.dd_grammar.specs.Reading.{SequenceReader, ItemReader, content_at, element_at, item_at, set_with, within}
use Rattle.dd_grammar.specs.Reading.{left_after, part_at, item_reader}
use Rattle.dd_grammar.proofs.Failing.{bind_fails}
use Rattle.dd_grammar.proofs.Loops.{fails_along}

-- ---- one element, one item

module _ (sequence : SequenceReader) (syntax : Syntax) (form : Length) (low : ℕ) (at : At) where
  -- the set ends
  pub element_none : (end : At) → front_at syntax form low at ≡ Ok (None, end)
      → element_at sequence syntax form low at ≡ Ok (None, end)
  unfolding element_at
  element_none end h = rw h refl

  -- a header and its value
  pub element_found : (header : Header) (mid end : At) (content : Content)
      → front_at syntax form low at ≡ Ok (Some header, mid) → content_at sequence syntax header mid ≡ Ok
      (content, end)
      → element_at sequence syntax form low at ≡ Ok (
        Some (record
            { tag = header.tag; vr = header.shape.vr; content = content }),
        end,
      )
  unfolding element_at
  element_found header mid end content h k = rw (h, k) refl

  -- a header that is refused
  pub front_refused : (e : SetFault) → front_at syntax form low at ≡ Err e
      → element_at sequence syntax form low at ≡ Err e
  unfolding element_at
  front_refused e h = bind_fails _ (element_after sequence syntax) e h

  pub front_stops : (e : SetFault) → FailsAs is_memory e (front_at syntax form low at)
      → FailsAs is_memory e (element_at sequence syntax form low at)
  front_stops e h = fails_along e _ _ h front_refused

  -- a value that is refused
  pub content_refused : (header : Header) (mid : At) (e : SetFault)
      → front_at syntax form low at ≡ Ok (Some header, mid) → content_at sequence syntax header mid ≡ Err e
      → element_at sequence syntax form low at ≡ Err e
  unfolding element_at
  content_refused header mid e h k = rw h (bind_fails _ _ e k)

  pub content_stops : (header : Header) (mid : At) (e : SetFault) → front_at syntax form low at ≡ Ok (Some header, mid)
      → FailsAs is_memory e (content_at sequence syntax header mid)
      → FailsAs is_memory e (element_at sequence syntax form low at)
  content_stops header mid e h k = fails_along e _ _ k (λ f m. content_refused header mid f h m)

module _ (part : ItemReader) (syntax : Syntax) (form : Length) (at : At) where
  pub item_none : (end : At) → item_front_at form at ≡ Ok (None, end) → item_at part syntax form at ≡ Ok (None, end)
  unfolding item_at
  item_none end h = rw h refl

  pub item_found : (n : ℕ) (mid end : At) (p : Item) → item_front_at form at ≡ Ok (Some n, mid)
      → part syntax n mid ≡ Ok (p, end) → item_at part syntax form at ≡ Ok (Some p, end)
  unfolding item_at
  item_found n mid end p h k = rw (h, k) refl

  pub item_front_refused : (e : SetFault) → item_front_at form at ≡ Err e → item_at part syntax form at ≡ Err e
  unfolding item_at
  item_front_refused e h = bind_fails _ (item_after part syntax) e h

  pub item_front_stops : (e : SetFault) → FailsAs is_memory e (item_front_at form at)
      → FailsAs is_memory e (item_at part syntax form at)
  item_front_stops e h = fails_along e _ _ h item_front_refused

  pub part_refused : (n : ℕ) (mid : At) (e : SetFault) → item_front_at form at ≡ Ok (Some n, mid)
      → part syntax n mid ≡ Err e → item_at part syntax form at ≡ Err e
  unfolding item_at
  part_refused n mid e h k = rw h (bind_fails _ _ e k)

  pub part_stops : (n : ℕ) (mid : At) (e : SetFault) → item_front_at form at ≡ Ok (Some n, mid)
      → FailsAs is_memory e (part syntax n mid) → FailsAs is_memory e (item_at part syntax form at)
  part_stops n mid e h k = fails_along e _ _ k (λ f m. part_refused n mid f h m)

-- ---- parts of a step

-- what a length encloses
pub within_found : {X Y : Type 0} (n : ℕ) (at : At) (read : At → Reads X) (f : X × At → Reads Y) (x : X) (end : At)
    → read (record { left = Some n; bytes = at.bytes }) ≡ Ok (x, end)
    → (within n at read >>= f) ≡ f (x, record { left = left_after at.left n; bytes = end.bytes })
within_found n at read f x end h = rw h refl

pub within_fails : {X Y : Type 0} (n : ℕ) (at : At) (read : At → Reads X) (f : X × At → Reads Y) (e : SetFault)
    → read (record { left = Some n; bytes = at.bytes }) ≡ Err e
    → (within n at read >>= f) ≡ Err e
within_fails n at read f e h = rw h refl

-- an item is one level further in
pub deeper_is : (levels inner n : ℕ) (syntax : Syntax) (at : At) → levels ≡ suc inner
    → item_reader levels syntax n at ≡ part_at (set_with (item_reader inner)) syntax n at
deeper_is levels inner n syntax at e = rw e refl
