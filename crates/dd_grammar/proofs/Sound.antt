-- What is read is spelled so: reading that gives a set took the spelling of that set, level by level.
use Rattle.std.proofs.Common.{◌≡◌, ◌≢◌, ℕ, zero, suc, ◌+◌, ◌%◌, ◌^◌, ◌<◌, ◌≤◌, Bool, true, false, nat_lt, ◌==◌}
use Rattle.std.proofs.Common.{if◌then◌else◌, List, [], ◌++◌, length, drop, Option, Some, None, IsSomeAnd, Ok, Err, refl}
use Rattle.std.proofs.Common.{sym, ap, subst, ◌∙◌, append_assoc, arith, inl, inr}
use Rattle.std.proofs.lemmas.Bool.{eqb-true, eqb-false, ltb-false, and_parts}
use Rattle.std.proofs.lemmas.List.{take-append-drop}
use Rattle.byteorder.specs.Endian.{little_bytes}
use Rattle.dd_elem.specs.declared.tag.Tag.{Tag}
use Rattle.dd_elem.specs.declared.vr.Vr.{Vr}
use Rattle.dd_elem.specs.Tag.{number_of}
use Rattle.dd_grammar.specs.declared.fault.SetFault.TheVariants.{Order, OddLength, UnexpectedTag, BadDelimiter, Overrun}
use Rattle.dd_encoding.specs.declared.syntax.Length.{Length}
use Rattle.dd_encoding.specs.declared.syntax.Length.TheVariants.{Defined, Undefined}
use Rattle.dd_encoding.specs.declared.syntax.Syntax.{Syntax}
use Rattle.dd_stream.specs.Bytes.{AreBytes}
use Rattle.dd_encoding.specs.Elements.{Elements, no_elements, element, Content, bytes, items, fragments, Items, item}
use Rattle.dd_encoding.specs.Elements.{Element, Item}
use Rattle.dd_encoding.specs.Spelling.{undefined_length, delimiter_group, tag_text, shape_text, header_text}
use Rattle.dd_encoding.specs.Spelling.{item_tag_text, item_end_tag, item_end_text, sequence_end_tag, sequence_end_text}
use Rattle.dd_encoding.specs.Spelling.{length_of, closed, elements_text, content_text, items_text, FitsLong}
use Rattle.dd_encoding.specs.Spelling.{length_limit, names_vr, named_item_syntax, item_syntax, item_syntax_where}
use Rattle.dd_encoding.specs.Spelling.{HoldsBytes, HoldsBytesWhere, AreElements, IsContent, AreItems, MayHave}
use Rattle.dd_encoding.specs.Spelling.{encapsulates, is_pixel_data, fragments_text}
use Rattle.dd_grammar.specs.Reading.{◌>>=◌, At, Reads, leaves_fewer, take_at, tag_of, long_of, is_over, Shape, shape_at}
use Rattle.dd_grammar.specs.Reading.{SequenceReader, SetReader, ItemReader, within, undefined_at, opens_fragments}
use Rattle.dd_grammar.specs.Reading.{open_at, fragments_here, defined_at, content_at, ends_set, element_at}
use Rattle.dd_grammar.specs.Reading.{next_elements, elements_at, ends_sequence}
use Rattle.dd_grammar.proofs.Cut.{body_at, whole_element, element_is}
use Rattle.dd_grammar.proofs.Steps.{bind_ok, passes, allowed, chosen, ok_is, short_below, AreBytes-drop}
use Rattle.dd_grammar.proofs.Taken.{Takes, Takes-none, Takes-then, taken, Ends, closed-append, within_takes}
use Rattle.dd_grammar.proofs.HeaderLaws.{head_tag, head_is, HasForm, HasFormWhere, width_limit, width_at_most}
use Rattle.dd_grammar.proofs.HeaderLaws.{within_limit, Shaped, shape_takes}
use Rattle.dd_grammar.proofs.FragmentLaws.{fragments_take}

-- ---- the parts of a spelling

-- a value after its header, and the length that the header gives
abbrev pub content_body : Content → List ℕ
content_body (bytes v) = v
content_body (fragments fs) = fragments_text fs ++ sequence_end_text
content_body (items form parts) = closed form sequence_end_text (items_text parts)

abbrev pub content_length : Content → ℕ
content_length (bytes v) = length v
content_length (fragments fs) = undefined_length
content_length (items form parts) = length_of form (items_text parts)

-- a header's rest and a value are these two
pub content_parts : (vr : Option Vr) (c : Content) → content_text vr c ≡ shape_text vr (content_length c)
    ++ content_body c
content_parts vr (bytes v) = refl
content_parts vr (items form parts) = refl
content_parts vr (fragments fs) = refl

-- an element by itself
abbrev pub element_text : Element → List ℕ
element_text e = tag_text e.tag ++ content_text e.vr e.content

-- an element that a set may have, with a tag not below `low`
abbrev pub IsElement : Syntax → ℕ → ℕ → Element → Type 0
IsElement syntax d low e = (low ≤ number_of e.tag) × (e.tag.group < 2 ^ 16) × (e.tag.element < 2 ^ 16)
    × (e.tag.group ≢ delimiter_group) × IsContent syntax d e.vr e.content × MayHave e.tag e.content

-- an item by itself: after its header, the length that its header gives, and all of it
abbrev pub item_body : Item → List ℕ
item_body p = closed p.length item_end_text (elements_text p.set)

abbrev pub part_length : Item → ℕ
part_length p = length_of p.length (elements_text p.set)

abbrev pub item_text : Item → List ℕ
item_text p = item_tag_text ++ (little_bytes 4 (part_length p) ++ item_body p)

-- an item that a sequence may have, where a number of levels may nest, itself included
abbrev pub IsItem : Syntax → ℕ → Item → Type 0
IsItem syntax zero p = ⊥
IsItem syntax (suc d) p = AreElements syntax d 0 p.set × FitsLong p.length (elements_text p.set)

-- one more item
pub AreItems-more : (syntax : Syntax) (d : ℕ) (p : Item) (rest : Items) → IsItem syntax d p → AreItems syntax d rest
    → AreItems syntax d (item p.length p.set rest)
AreItems-more syntax zero p rest h k = h
AreItems-more syntax (suc d) p rest h k = (h.0, h.1, k)

-- ---- what readers owe: what each gives stands in front of the bytes, spelled so

-- a sequence that was read
abbrev pub SequenceTaken : Syntax → ℕ → Length → At → Items → At → Type 0
SequenceTaken syntax d form at parts next = Takes at (closed form sequence_end_text (items_text parts)) next
    × AreItems syntax d parts × Ends form next

abbrev pub SequenceLaw : ℕ → SequenceReader → Type 0
SequenceLaw d read = (syntax : Syntax) (form : Length) (at : At) (x : Items × At) → AreBytes at.bytes
    → read syntax form at ≡ Ok x → SequenceTaken syntax d form at x.0 x.1

-- a set that was read
abbrev pub SetTaken : Syntax → ℕ → Length → ℕ → At → Elements → At → Type 0
SetTaken syntax d form low at set next = Takes at (closed form item_end_text (elements_text set)) next
    × AreElements syntax d low set × Ends form next

abbrev pub SetLaw : ℕ → SetReader → Type 0
SetLaw d read = (syntax : Syntax) (form : Length) (at : At) (x : Elements × At) → AreBytes at.bytes
    → read syntax form at ≡ Ok x → SetTaken syntax d form 0 at x.0 x.1

-- an item that was read after a header with this length
abbrev pub PartTaken : Syntax → ℕ → ℕ → At → Item → At → Type 0
PartTaken syntax d n at p next = Takes at (item_body p) next × (n ≡ part_length p) × IsItem syntax d p

abbrev pub PartLaw : ℕ → ItemReader → Type 0
PartLaw d read = (syntax : Syntax) (n : ℕ) (at : At) (x : Item × At) → AreBytes at.bytes → n < 2 ^ 32
    → read syntax n at ≡ Ok x → PartTaken syntax d n at x.0 x.1

-- ---- ends

-- a set or a sequence that is over where its length says so
pub over_ends : (form : Length) (mark : List ℕ) (at : At) → AreBytes at.bytes → is_over form at ≡ true
    → Takes at (closed form mark []) at × Ends form at
over_ends Undefined mark at fits over = absurd cc
over_ends Defined mark at fits over = (Takes-none at fits, over)

-- the eight bytes of the delimiter of a set
set_mark : (form : Length) (head : List ℕ) → length head ≡ 8 → AreBytes head → ends_set form head ≡ true
    → (long_of head == 0) ≡ true → (head ≡ closed form item_end_text []) × (form ≡ Undefined)
set_mark Defined head len fits is none = absurd cc
set_mark Undefined head len fits is none = (
  head_is head item_end_tag len fits is ∙ ap (λ (n : ℕ). header_text item_end_tag None n) (eqb-true _ _ none),
  refl,
)

-- the same of a sequence
pub sequence_mark : (form : Length) (head : List ℕ) → length head ≡ 8 → AreBytes head → ends_sequence form head ≡ true
    → (long_of head == 0) ≡ true → (head ≡ closed form sequence_end_text []) × (form ≡ Undefined)
sequence_mark Defined head len fits is none = absurd cc
sequence_mark Undefined head len fits is none = (
  head_is head sequence_end_tag len fits is
      ∙ ap (λ (n : ℕ). header_text sequence_end_tag None n) (eqb-true _ _ none),
  refl,
)

-- a delimiter ends what has no defined length
pub ends_undefined : (form : Length) (at : At) → form ≡ Undefined → Ends form at
ends_undefined form at e = subst (λ (f : Length). Ends f at) (sym e) tt

-- ---- an element

-- where no sequence may follow a header there are bytes
bytes_where : (named : Bool) (syntax : Syntax) (vr : Option Vr) → HasFormWhere named vr
    → item_syntax_where named syntax vr Defined ≡ None → HoldsBytesWhere named vr
bytes_where true syntax None h e = absurd h
bytes_where true syntax (Some vr) h e = λ is. let both : ◌≡◌ {A = Option Syntax} (Some syntax) None =
    sym (ap (λ (v : Vr). named_item_syntax syntax v Defined) is) ∙ e in absurd cc
bytes_where false syntax None h e = tt
bytes_where false syntax (Some vr) h e = absurd h

holds_bytes : (syntax : Syntax) (vr : Option Vr) → HasForm syntax vr → item_syntax syntax vr Defined ≡ None
    → HoldsBytes syntax vr
holds_bytes syntax vr h e = bytes_where (names_vr syntax) syntax vr h e

-- a header in two parts, and the value after it
regroup : (h t r x b s : List ℕ) → h ≡ t ++ r → r ++ x ≡ s → h ++ (x ++ b) ≡ t ++ (s ++ b)
regroup h t r x b s p q =
    ap (λ (y : List ℕ). y ++ (x ++ b)) p ∙ append_assoc t r (x ++ b)
    ∙ ap (λ (y : List ℕ). t ++ y) (sym (append_assoc r x b) ∙ ap (λ (y : List ℕ). y ++ b) q)

-- a length that the check of odd ones passes
even_from : (n : ℕ) → (n % 2 == 1) ≡ false → n % 2 ≡ 0
even_from n e = let ne = eqb-false (n % 2) 1 e in omega arith

-- a value that was read, and the length that its header gave
abbrev pub ContentTaken : ℕ → Syntax → Tag → Option Vr → ℕ → At → Content → At → Type 0
ContentTaken d syntax tag vr n at c next = Takes at (content_body c) next × (n ≡ content_length c)
    × IsContent syntax d vr c × MayHave tag c

module _ (d : ℕ) (sequence : SequenceReader) (law : SequenceLaw d sequence) where
  -- a value of undefined length
  undefined_takes : (o : Option Syntax) (syntax : Syntax) (tag : Tag) (vr : Option Vr) (at : At) (x : Content × At)
      → AreBytes at.bytes → item_syntax syntax vr Undefined ≡ o → undefined_at sequence o at ≡ Ok x
      → ContentTaken d syntax tag vr undefined_length at x.0 x.1
  undefined_takes None syntax tag vr at x fits is e = absurd cc
  undefined_takes (Some inner) syntax tag vr at x fits is e =
      let a = bind_ok (sequence inner Undefined at) (λ y. Ok (items Undefined y.0, y.1)) x e in
      let l = law inner Undefined at a.0 fits a.1 in
      let valid : IsSomeAnd (item_syntax syntax vr Undefined) (λ i. AreItems i d a.0.0) =
      subst (λ (o : Option Syntax). IsSomeAnd o (λ i. AreItems i d a.0.0)) (sym is) l.1 in
      let made : Content × At = (items Undefined a.0.0, a.0.1) in
      subst (λ (y : Content × At). ContentTaken d syntax tag vr undefined_length at y.0 y.1) (ok_is made x a.2)
      (l.0, refl, (valid, tt), tt)

  -- a value of this length
  defined_takes : (o : Option Syntax) (syntax : Syntax) (tag : Tag) (vr : Option Vr) (n : ℕ) (at : At)
      (x : Content × At) → AreBytes at.bytes → item_syntax syntax vr Defined ≡ o → HasForm syntax vr
      → n % 2 ≡ 0 → n < undefined_length
      → n < length_limit vr → leaves_fewer at.left n ≡ false → defined_at sequence o n at ≡ Ok x
      → ContentTaken d syntax tag vr n at x.0 x.1
  defined_takes None syntax tag vr n at x fits is form even low limit enough e =
      let a = bind_ok (take_at n at) (λ y. Ok (bytes y.0, y.1)) x e in
      let t = taken n at a.0 fits a.1 in
      let made : Content × At = (bytes a.0.0, a.0.1) in
      let even' : length a.0.0 % 2 ≡ 0 = ap (λ (k : ℕ). k % 2) t.1 ∙ even in
      let fits' : length a.0.0 < length_limit vr = subst (λ (k : ℕ). k < length_limit vr) (sym t.1) limit in
      let valid : IsContent syntax d vr (bytes a.0.0) = (holds_bytes syntax vr form is, even', fits') in
      subst (λ (y : Content × At). ContentTaken d syntax tag vr n at y.0 y.1) (ok_is made x a.2)
      (t.0, sym t.1, valid, tt)
  defined_takes (Some inner) syntax tag vr n at x fits is form even low limit enough e =
      let a = bind_ok (within n at (sequence inner Defined)) (λ y. Ok (items Defined y.0, y.1)) x e in
      let t = within_takes n at (sequence inner Defined) (λ y. items_text y) (λ y. AreItems inner d y)
      (λ y r. law inner Defined (record { left = Some n; bytes = at.bytes }) y fits r) a.0 enough a.1 in
      let made : Content × At = (items Defined a.0.0, a.0.1) in
      let some_inner : IsSomeAnd (item_syntax syntax vr Defined) (λ i. AreItems i d a.0.0) =
      subst (λ (o : Option Syntax). IsSomeAnd o (λ i. AreItems i d a.0.0)) (sym is) t.2 in
      let fits' : length (items_text a.0.0) < undefined_length = subst (λ (k : ℕ). k < undefined_length) t.1 low in
      let valid : IsContent syntax d vr (items Defined a.0.0) = (some_inner, fits') in
      subst (λ (y : Content × At). ContentTaken d syntax tag vr n at y.0 y.1) (ok_is made x a.2) (t.0, t.1, valid, tt)

  -- a value of undefined length, which may be fragments
  open_takes : (opens : Bool) (o : Option Syntax) (syntax : Syntax) (tag : Tag) (vr : Option Vr) (at : At)
      (x : Content × At) → AreBytes at.bytes
      → (opens ≡ true → (encapsulates syntax vr ≡ true) × (is_pixel_data tag ≡ true))
      → item_syntax syntax vr Undefined ≡ o → open_at sequence opens o at ≡ Ok x
      → ContentTaken d syntax tag vr undefined_length at x.0 x.1
  open_takes false o syntax tag vr at x fits may is e = undefined_takes o syntax tag vr at x fits is e
  open_takes true o syntax tag vr at x fits may is e =
      let a = bind_ok (fragments_here at) (λ y. Ok (fragments y.0, y.1)) x e in
      let t = fragments_take (suc (length at.bytes)) at a.0 fits a.1 in
      let made : Content × At = (fragments a.0.0, a.0.1) in
      let so = may refl in
      subst (λ (y : Content × At). ContentTaken d syntax tag vr undefined_length at y.0 y.1) (ok_is made x a.2)
      (t.0, refl, (so.0, t.1), so.1)

  -- a value after its header
  pub content_takes : (syntax : Syntax) (tag : Tag) (shape : Shape) (at : At) (x : Content × At) → AreBytes at.bytes
      → HasForm syntax shape.vr → shape.length < width_limit shape.vr
      → content_at sequence syntax (record { tag = tag; shape = shape }) at ≡ Ok x
      → ContentTaken d syntax tag shape.vr shape.length at x.0 x.1
  unfolding content_at
  content_takes syntax tag shape at x fits form below e =
      let opens : Bool = opens_fragments syntax (record { tag = tag; shape = shape }) in
      elim (chosen (shape.length == undefined_length)
      (open_at sequence opens (item_syntax syntax shape.vr Undefined) at) _ (Ok x) e) [
        | inl a ↦
            let len : shape.length ≡ undefined_length = eqb-true _ _ a.0 in
            let t = open_takes opens (item_syntax syntax shape.vr Undefined) syntax tag shape.vr at x fits
            (λ o. and_parts (encapsulates syntax shape.vr) (is_pixel_data tag) o) refl a.1 in
            (t.0, len ∙ t.1, t.2, t.3)
        | inr b ↦
            let odd = passes (shape.length % 2 == 1) OddLength _ x b.1 in
            let room = passes (leaves_fewer at.left shape.length) Overrun _ x odd.1 in
            let ne : shape.length ≡ undefined_length → ⊥ = eqb-false _ _ b.0 in
            let most : width_limit shape.vr ≤ 2 ^ 32 = width_at_most shape.vr in
            let low : shape.length < undefined_length = omega arith in
            defined_takes (item_syntax syntax shape.vr Defined) syntax tag shape.vr shape.length at x fits refl form
            (even_from shape.length odd.0) low (within_limit shape.vr shape.length below ne) room.0 room.1
      ]

  -- an element after its first eight bytes
  pub body_takes : (syntax : Syntax) (low : ℕ) (head : List ℕ) (at : At) (x : Element × At) → length head ≡ 8
      → AreBytes head → AreBytes at.bytes → body_at sequence syntax low head at ≡ Ok x → (text : List ℕ)
      × Takes at text x.1 × (head ++ text ≡ element_text x.0) × IsElement syntax d low x.0
  unfolding body_at
  body_takes syntax low head at x len hfits fits e =
      let tag : Tag = tag_of head in
      let a = passes (tag.group == delimiter_group) UnexpectedTag _ x e in
      let b = passes (nat_lt (number_of tag) low) Order _ x a.1 in
      let s = bind_ok (shape_at syntax head at) (λ shape. content_at sequence syntax
      (record { tag = tag_of head; shape = shape.0 }) shape.1 >>= λ y. Ok
      (record { tag = tag_of head; vr = shape.0.vr; content = y.0 }, y.1)) x b.1 in
      let shaped : Shaped (names_vr syntax) head at s.0.0 s.0.1 = shape_takes syntax head at s.0 len hfits fits s.1 in
      let c = bind_ok (content_at sequence syntax (record { tag = tag_of head; shape = s.0.0 }) s.0.1)
      (λ y. Ok (record { tag = tag_of head; vr = s.0.0.vr; content = y.0 }, y.1)) x s.2 in
      let t = content_takes syntax tag s.0.0 s.0.1 c.0 shaped.takes.fits shaped.form shaped.below c.1 in
      let made : Element = record { tag = tag; vr = s.0.0.vr; content = c.0.0 } in
      let both : Takes at (shaped.text ++ content_body c.0.0) c.0.1 =
      Takes-then at s.0.1 c.0.1 shaped.text (content_body c.0.0) shaped.takes t.0 in
      let split : head ≡ tag_text tag ++ drop 4 head = sym (take-append-drop 4 head)
      ∙ ap (λ (y : List ℕ). y ++ drop 4 head) (sym (head_tag head len hfits)) in
      let shape_is : drop 4 head ++ shaped.text ≡ shape_text s.0.0.vr (content_length c.0.0) = shaped.whole
      ∙ ap (λ (n : ℕ). shape_text s.0.0.vr n) t.1 in
      let whole : head ++ (shaped.text ++ content_body c.0.0) ≡ element_text made =
      regroup head (tag_text tag) (drop 4 head) shaped.text (content_body c.0.0)
      (shape_text s.0.0.vr (content_length c.0.0)) split shape_is
      ∙ ap (λ (y : List ℕ). tag_text tag ++ y) (sym (content_parts s.0.0.vr c.0.0)) in
      let low_is : low ≤ number_of tag = ltb-false _ _ b.0 in
      let group_ne : tag.group ≢ delimiter_group = eqb-false _ _ a.0 in
      let valid : IsElement syntax d low made = (
        low_is,
        short_below head hfits,
        short_below (drop 2 head)
            (AreBytes-drop 2 head hfits),
        group_ne,
        t.2,
        t.3,
      ) in
      subst (λ (y : Element × At). (text : List ℕ) × Takes at text y.1 × (head ++ text ≡ element_text y.0)
      × IsElement syntax d low y.0) (ok_is (made, c.0.1) x c.2)
      (shaped.text ++ content_body c.0.0, both, whole, valid)

-- an element that was read, or the end of its set
abbrev pub ElementTaken : ℕ → Syntax → Length → ℕ → At → Option Element → At → Type 0
ElementTaken d syntax form low at None next = Takes at (closed form item_end_text []) next × Ends form next
ElementTaken d syntax form low at (Some e) next = Takes at (element_text e) next × IsElement syntax d low e

module _ (d : ℕ) (sequence : SequenceReader) (law : SequenceLaw d sequence) where
  -- the next element, or the end of the set
  pub element_takes : (syntax : Syntax) (form : Length) (low : ℕ) (at : At) (x : Option Element × At)
      → AreBytes at.bytes
      → element_at sequence syntax form low at ≡ Ok x → ElementTaken d syntax form low at x.0 x.1
  unfolding whole_element
  element_takes syntax form low at x fits e =
      elim (chosen (is_over form at) (Ok (None, at)) _ (Ok x) (sym (element_is sequence syntax form low at) ∙ e)) [
        | inl over ↦ subst (λ (y : Option Element × At). ElementTaken d syntax form low at y.0 y.1)
            (ok_is (None, at) x over.1) (over_ends form item_end_text at fits over.0)
        | inr on ↦
            let h = bind_ok (take_at 8 at) (λ head. if ends_set form head.0
            then (if long_of head.0 == 0 then Ok (None, head.1) else Err BadDelimiter)
            else (body_at sequence syntax low head.0 head.1 >>= λ y. Ok (Some y.0, y.1))) x on.1 in
            let head : List ℕ = h.0.0 in
            let after : At = h.0.1 in
            let t = taken 8 at h.0 fits h.1 in
            elim (chosen (ends_set form head) (if long_of head == 0 then Ok (None, after) else Err BadDelimiter)
            (body_at sequence syntax low head after >>= λ y. Ok (Some y.0, y.1)) (Ok x) h.2) [
              | inl ends ↦
                  let none = allowed (long_of head == 0) BadDelimiter (Ok (None, after)) x ends.1 in
                  let mark = set_mark form head t.1 t.2 ends.0 none.0 in
                  let took : Takes at (closed form item_end_text []) after =
                  subst (λ (y : List ℕ). Takes at y after) mark.0 t.0 in
                  subst (λ (y : Option Element × At). ElementTaken d syntax form low at y.0 y.1)
                  (ok_is (None, after) x none.1) (took, ends_undefined form after mark.1)
              | inr more ↦
                  let b = bind_ok (body_at sequence syntax low head after) (λ y. Ok (Some y.0, y.1)) x more.1 in
                  let body = body_takes d sequence law syntax low head after b.0 t.1 t.2 t.0.fits b.1 in
                  let both : Takes at (head ++ body.0) b.0.1 = Takes-then at after b.0.1 head body.0 t.0 body.1 in
                  let took : Takes at (element_text b.0.0) b.0.1 =
                  subst (λ (y : List ℕ). Takes at y b.0.1) body.2 both in
                  subst (λ (y : Option Element × At). ElementTaken d syntax form low at y.0 y.1)
                  (ok_is (Some b.0.0, b.0.1) x b.2) (took, body.3)
            ]
      ]

  -- the text of a set by its first element
  set_text_more : (form : Length) (mark t c r : List ℕ) → (t ++ c)
      ++ closed form mark r ≡ closed form mark (t ++ (c ++ r))
  set_text_more form mark t c r = append_assoc t c (closed form mark r)
      ∙ ap (λ (y : List ℕ). t ++ y) (sym (closed-append form mark c r)) ∙ sym (closed-append form mark t (c ++ r))

  -- the elements after one, or none
  next_takes : (syntax : Syntax) (form : Length) (low : ℕ) (at : At) (others : ℕ → At → Reads Elements)
      → ((l : ℕ) (a : At) (y : Elements × At) → AreBytes a.bytes → others l a ≡ Ok y
      → SetTaken syntax d form l a y.0 y.1)
      → (o : Option Element) (next : At) (x : Elements × At) → AreBytes next.bytes
      → ElementTaken d syntax form low at o next → next_elements others (o, next) ≡ Ok x
      → SetTaken syntax d form low at x.0 x.1
  next_takes syntax form low at others ih None next x fits h e =
      subst (λ (y : Elements × At). SetTaken syntax d form low at y.0 y.1) (ok_is (no_elements, next) x e)
      (h.0, tt, h.1)
  next_takes syntax form low at others ih (Some f) next x fits h e =
      let a = bind_ok (others (number_of f.tag + 1) next) (λ y. Ok (element f.tag f.vr f.content y.0, y.1)) x e in
      let r = ih (number_of f.tag + 1) next a.0 fits a.1 in
      let made : Elements = element f.tag f.vr f.content a.0.0 in
      let both : Takes at (element_text f ++ closed form item_end_text (elements_text a.0.0)) a.0.1 =
      Takes-then at next a.0.1 (element_text f) (closed form item_end_text (elements_text a.0.0)) h.0 r.0 in
      let took : Takes at (closed form item_end_text (elements_text made)) a.0.1 =
      subst (λ (y : List ℕ). Takes at y a.0.1) (set_text_more form item_end_text (tag_text f.tag)
      (content_text f.vr f.content) (elements_text a.0.0)) both in
      let valid : AreElements syntax d low made = (h.1.0, h.1.1, h.1.2, h.1.3, h.1.4, h.1.5, r.1) in
      subst (λ (y : Elements × At). SetTaken syntax d form low at y.0 y.1) (ok_is (made, a.0.1) x a.2)
      (took, valid, r.2)

  -- bytes are left
  taken_fits : (syntax : Syntax) (form : Length) (low : ℕ) (at : At) (o : Option Element) (next : At)
      → ElementTaken d syntax form low at o next → AreBytes next.bytes
  taken_fits syntax form low at None next h = h.0.fits
  taken_fits syntax form low at (Some e) next h = h.0.fits

  -- elements up to the end of their set
  pub elements_take : (most : ℕ) (syntax : Syntax) (form : Length) (low : ℕ) (at : At) (x : Elements × At)
      → AreBytes at.bytes → elements_at sequence syntax form most low at ≡ Ok x → SetTaken syntax d form low at x.0 x.1
  unfolding elements_at
  elements_take zero syntax form low at x fits e = absurd cc
  elements_take (suc most) syntax form low at x fits e =
      let a = bind_ok (element_at sequence syntax form low at) (next_elements (elements_at sequence syntax form most)) x
      e in
      let h = element_takes syntax form low at a.0 fits a.1 in
      next_takes syntax form low at (elements_at sequence syntax form most)
      (λ l b y k r. elements_take most syntax form l b y k r) a.0.0 a.0.1 x
      (taken_fits syntax form low at a.0.0 a.0.1 h) h a.2
