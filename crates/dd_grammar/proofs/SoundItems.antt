-- The same of items, of sets at any level, and of the whole: what is read is spelled so.
use Rattle.std.proofs.Common.{◌≡◌, ℕ, zero, suc, ◌%◌, ◌<◌, true, ◌==◌, if◌then◌else◌, List, [], ◌++◌, length, drop}
use Rattle.std.proofs.Common.{Option, Some, None, Ok, Err, sym, ap, subst, ◌∙◌, append_assoc, append-nil, arith, inl}
use Rattle.std.proofs.Common.{inr}
use Rattle.std.proofs.lemmas.Bool.{eqb-true, eqb-false}
use Rattle.std.proofs.lemmas.List.{nil_from_length}
use Rattle.byteorder.specs.Endian.{little_bytes}
use Rattle.dd_grammar.specs.declared.fault.SetFault.TheVariants.{OddLength, UnexpectedTag, BadDelimiter, Overrun}
use Rattle.dd_encoding.specs.declared.syntax.Length.{Length}
use Rattle.dd_encoding.specs.declared.syntax.Length.TheVariants.{Defined, Undefined}
use Rattle.dd_encoding.specs.declared.syntax.Syntax.{Syntax}
use Rattle.dd_stream.specs.Bytes.{AreBytes}
use Rattle.dd_encoding.specs.Elements.{Elements, Items, no_items, item, Item}
use Rattle.dd_encoding.specs.Spelling.{undefined_length, header_text, item_tag, item_tag_text, sequence_end_text}
use Rattle.dd_encoding.specs.Spelling.{closed, elements_text, items_text, max_levels, AreElements, AreItems}
use Rattle.dd_grammar.specs.Reading.{◌>>=◌, At, Reads, leaves_fewer, take_at, long_of, is_item, no_byte_left, is_over}
use Rattle.dd_grammar.specs.Reading.{SetReader, ItemReader, within, ends_sequence, item_at, next_items, items_at}
use Rattle.dd_grammar.specs.Reading.{part_at, sequence_with, set_with, item_reader, read_all}
use Rattle.dd_grammar.proofs.Cut.{whole_item, item_is}
use Rattle.dd_grammar.proofs.Steps.{bind_ok, passes, allowed, chosen, ok_is, long_below, AreBytes-drop}
use Rattle.dd_grammar.proofs.Taken.{Leaves, Takes, Takes-then, taken, Ends, closed-append, within_takes}
use Rattle.dd_grammar.proofs.HeaderLaws.{head_is}
use Rattle.dd_grammar.proofs.Sound.{item_body, part_length, item_text, IsItem, AreItems-more, SequenceTaken}
use Rattle.dd_grammar.proofs.Sound.{SequenceLaw, SetLaw, PartTaken, PartLaw, over_ends, sequence_mark, ends_undefined}
use Rattle.dd_grammar.proofs.Sound.{elements_take}

-- ---- an item

-- an item that was read, or the end of its sequence
abbrev pub ItemTaken : ℕ → Syntax → Length → At → Option Item → At → Type 0
ItemTaken d syntax form at None next = Takes at (closed form sequence_end_text []) next × Ends form next
ItemTaken d syntax form at (Some p) next = Takes at (item_text p) next × IsItem syntax d p

module _ (d : ℕ) (part : ItemReader) (law : PartLaw d part) where
  -- the next item, or the end of the sequence
  pub item_takes : (syntax : Syntax) (form : Length) (at : At) (x : Option Item × At) → AreBytes at.bytes
      → item_at part syntax form at ≡ Ok x → ItemTaken d syntax form at x.0 x.1
  unfolding whole_item
  item_takes syntax form at x fits e =
      elim (chosen (is_over form at) (Ok (None, at)) _ (Ok x) (sym (item_is part syntax form at) ∙ e)) [
        | inl over ↦ subst (λ (y : Option Item × At). ItemTaken d syntax form at y.0 y.1) (ok_is (None, at) x over.1)
            (over_ends form sequence_end_text at fits over.0)
        | inr on ↦
            let h = bind_ok (take_at 8 at) (λ head. if ends_sequence form head.0
            then (if long_of head.0 == 0 then Ok (None, head.1) else Err BadDelimiter)
            else (if is_item head.0 then (part syntax (long_of head.0) head.1 >>= λ y. Ok (Some y.0, y.1)) else Err
            UnexpectedTag)) x on.1 in
            let head : List ℕ = h.0.0 in
            let after : At = h.0.1 in
            let t = taken 8 at h.0 fits h.1 in
            elim (chosen (ends_sequence form head) (if long_of head == 0 then Ok (None, after) else Err BadDelimiter)
            (if is_item head then (part syntax (long_of head) after >>= λ y. Ok (Some y.0, y.1)) else Err
            UnexpectedTag) (Ok x) h.2) [
              | inl ends ↦
                  let none = allowed (long_of head == 0) BadDelimiter (Ok (None, after)) x ends.1 in
                  let mark = sequence_mark form head t.1 t.2 ends.0 none.0 in
                  let took : Takes at (closed form sequence_end_text []) after =
                  subst (λ (y : List ℕ). Takes at y after) mark.0 t.0 in
                  subst (λ (y : Option Item × At). ItemTaken d syntax form at y.0 y.1) (ok_is (None, after) x none.1)
                  (took, ends_undefined form after mark.1)
              | inr more ↦
                  let is = allowed (is_item head) UnexpectedTag
                  (part syntax (long_of head) after >>= λ y. Ok (Some y.0, y.1)) x more.1 in
                  let b = bind_ok (part syntax (long_of head) after) (λ y. Ok (Some y.0, y.1)) x is.1 in
                  let p : Item = b.0.0 in
                  let l = law syntax (long_of head) after b.0 t.0.fits
                  (long_below (drop 4 head) (AreBytes-drop 4 head t.2)) b.1 in
                  let front : head ≡ item_tag_text ++ little_bytes 4 (part_length p) =
                  head_is head item_tag t.1 t.2 is.0 ∙ ap (λ (n : ℕ). header_text item_tag None n) l.1 in
                  let both : Takes at (head ++ item_body p) b.0.1 =
                  Takes-then at after b.0.1 head (item_body p) t.0 l.0 in
                  let whole : head ++ item_body p ≡ item_text p = ap (λ (y : List ℕ). y ++ item_body p) front
                  ∙ append_assoc item_tag_text (little_bytes 4 (part_length p)) (item_body p) in
                  let took : Takes at (item_text p) b.0.1 = subst (λ (y : List ℕ). Takes at y b.0.1) whole both in
                  subst (λ (y : Option Item × At). ItemTaken d syntax form at y.0 y.1) (ok_is (Some p, b.0.1) x b.2)
                  (took, l.2)
            ]
      ]

  -- the text of a sequence by its first item
  items_text_more : (form : Length) (mark t n b r : List ℕ) → (t ++ (n ++ b))
      ++ closed form mark r ≡ closed form mark (t ++ (n ++ (b ++ r)))
  items_text_more form mark t n b r =
      sym (closed-append form mark (t ++ (n ++ b)) r) ∙ ap (λ (y : List ℕ). closed form mark y)
      (append_assoc t (n ++ b) r ∙ ap (λ (y : List ℕ). t ++ y) (append_assoc n b r))

  -- the items after one, or none
  next_item_takes : (syntax : Syntax) (form : Length) (at : At) (others : At → Reads Items)
      → ((a : At) (y : Items × At) → AreBytes a.bytes → others a ≡ Ok y → SequenceTaken syntax d form a y.0 y.1)
      → (o : Option Item) (next : At) (x : Items × At) → AreBytes next.bytes → ItemTaken d syntax form at o next
      → next_items others (o, next) ≡ Ok x → SequenceTaken syntax d form at x.0 x.1
  next_item_takes syntax form at others ih None next x fits h e =
      subst (λ (y : Items × At). SequenceTaken syntax d form at y.0 y.1) (ok_is (no_items, next) x e) (h.0, tt, h.1)
  next_item_takes syntax form at others ih (Some p) next x fits h e =
      let a = bind_ok (others next) (λ y. Ok (item p.length p.set y.0, y.1)) x e in
      let r = ih next a.0 fits a.1 in
      let made : Items = item p.length p.set a.0.0 in
      let both : Takes at (item_text p ++ closed form sequence_end_text (items_text a.0.0)) a.0.1 =
      Takes-then at next a.0.1 (item_text p) (closed form sequence_end_text (items_text a.0.0)) h.0 r.0 in
      let took : Takes at (closed form sequence_end_text (items_text made)) a.0.1 =
      subst (λ (y : List ℕ). Takes at y a.0.1) (items_text_more form sequence_end_text item_tag_text
      (little_bytes 4 (part_length p)) (item_body p) (items_text a.0.0)) both in
      let valid : AreItems syntax d made = AreItems-more syntax d p a.0.0 h.1 r.1 in
      subst (λ (y : Items × At). SequenceTaken syntax d form at y.0 y.1) (ok_is (made, a.0.1) x a.2) (took, valid, r.2)

  -- bytes are left
  item_taken_fits : (syntax : Syntax) (form : Length) (at : At) (o : Option Item) (next : At)
      → ItemTaken d syntax form at o next → AreBytes next.bytes
  item_taken_fits syntax form at None next h = h.0.fits
  item_taken_fits syntax form at (Some p) next h = h.0.fits

  -- items up to the end of their sequence
  pub items_take : (most : ℕ) (syntax : Syntax) (form : Length) (at : At) (x : Items × At) → AreBytes at.bytes
      → items_at part syntax form most at ≡ Ok x → SequenceTaken syntax d form at x.0 x.1
  unfolding items_at
  items_take zero syntax form at x fits e = absurd cc
  items_take (suc most) syntax form at x fits e =
      let a = bind_ok (item_at part syntax form at) (next_items (items_at part syntax form most)) x e in
      let h = item_takes syntax form at a.0 fits a.1 in
      next_item_takes syntax form at (items_at part syntax form most) (λ b y k r. items_take most syntax form b y k r)
      a.0.0 a.0.1 x (item_taken_fits syntax form at a.0.0 a.0.1 h) h a.2

  -- a whole sequence
  pub sequence_takes : SequenceLaw d (sequence_with part)
  sequence_takes syntax form at x fits e = items_take (suc (length at.bytes)) syntax form at x fits e

-- a whole set
pub set_takes : (d : ℕ) (part : ItemReader) → PartLaw d part → SetLaw d (set_with part)
set_takes d part law syntax form at x fits e = elements_take d (sequence_with part) (sequence_takes d part law)
    (suc (length at.bytes)) syntax form 0 at x fits e

-- an item one level further out
pub part_takes : (d : ℕ) (set : SetReader) → SetLaw d set → PartLaw (suc d) (part_at set)
unfolding part_at
part_takes d set law syntax n at x fits below e =
    elim (chosen (n == undefined_length) (set syntax Undefined at >>= λ y. Ok
    (record { length = Undefined; set = y.0 }, y.1)) _ (Ok x) e) [
      | inl a ↦
          let len : n ≡ undefined_length = eqb-true _ _ a.0 in
          let s = bind_ok (set syntax Undefined at) (λ y. Ok (record { length = Undefined; set = y.0 }, y.1)) x a.1 in
          let l = law syntax Undefined at s.0 fits s.1 in
          let made : Item × At = (record { length = Undefined; set = s.0.0 }, s.0.1) in
          subst (λ (y : Item × At). PartTaken syntax (suc d) n at y.0 y.1) (ok_is made x s.2) (l.0, len, (l.1, tt))
      | inr b ↦
          let odd = passes (n % 2 == 1) OddLength _ x b.1 in
          let room = passes (leaves_fewer at.left n) Overrun _ x odd.1 in
          let s = bind_ok (within n at (set syntax Defined)) (λ y. Ok (record { length = Defined; set = y.0 }, y.1)) x
          room.1 in
          let t = within_takes n at (set syntax Defined) (λ y. elements_text y) (λ y. AreElements syntax d 0 y)
          (λ y r. law syntax Defined (record { left = Some n; bytes = at.bytes }) y fits r) s.0 room.0 s.1 in
          let ne : n ≡ undefined_length → ⊥ = eqb-false _ _ b.0 in
          let low : n < undefined_length = omega arith in
          let fits' : length (elements_text s.0.0) < undefined_length =
          subst (λ (k : ℕ). k < undefined_length) t.1 low in
          let made : Item × At = (record { length = Defined; set = s.0.0 }, s.0.1) in
          subst (λ (y : Item × At). PartTaken syntax (suc d) n at y.0 y.1) (ok_is made x s.2) (t.0, t.1, (t.2, fits'))
    ]

-- ---- levels

-- an item in which a number of levels may nest, itself included
pub reader_takes : (d : ℕ) → PartLaw d (item_reader d)
reader_takes zero syntax n at x fits below e = absurd cc
reader_takes (suc d) syntax n at x fits below e = part_takes d (set_with (item_reader d))
    (set_takes d (item_reader d) (reader_takes d)) syntax n at x fits below e

-- ---- the whole

-- the end of the whole is the end of the bytes
whole_ends : (n : ℕ) (left : Option ℕ) (bs : List ℕ) → Leaves None n left → no_byte_left left bs ≡ true → bs ≡ []
whole_ends n None bs h over = nil_from_length bs (eqb-true _ _ over)
whole_ends n (Some l) bs h over = absurd h

-- the whole, at any number of levels
pub whole_takes : (d : ℕ) (syntax : Syntax) (bs : List ℕ) (x : Elements × At) → AreBytes bs
    → set_with (item_reader d) syntax Defined (record { left = None; bytes = bs }) ≡ Ok x → AreElements syntax d 0 x.0
    × (bs ≡ elements_text x.0)
whole_takes d syntax bs x fits e =
    let t = set_takes d (item_reader d) (reader_takes d) syntax Defined (record { left = None; bytes = bs }) x fits e in
    let none : x.1.bytes ≡ [] = whole_ends (length (elements_text x.0)) x.1.left x.1.bytes t.0.left t.2 in
    (t.1, t.0.parts ∙ ap (λ (y : List ℕ). elements_text x.0 ++ y) none ∙ append-nil (elements_text x.0))

-- bytes that are read as a set are its spelling, and the set has one
pub all_takes : (syntax : Syntax) (bs : List ℕ) (set : Elements) → read_all syntax bs ≡ Ok set → AreBytes bs
    → AreElements syntax max_levels 0 set × (bs ≡ elements_text set)
unfolding read_all
all_takes syntax bs set e fits =
    let a = bind_ok (set_with (item_reader max_levels) syntax Defined (record { left = None; bytes = bs }))
    (λ x. Ok x.0) set e in
    let w = whole_takes max_levels syntax bs a.0 fits a.1 in
    subst (λ (s : Elements). AreElements syntax max_levels 0 s × (bs ≡ elements_text s)) (ok_is a.0.0 set a.2) w
