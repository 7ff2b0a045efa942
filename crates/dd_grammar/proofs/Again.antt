-- What is spelled is read again: reading the spelling of a set gives that set, whatever stands after it.
use Rattle.std.proofs.Common.{◌≡◌, ◌≢◌, ℕ, zero, suc, ◌+◌, ◌%◌, ◌^◌, ◌<◌, ◌≤◌, false, nat_lt, ◌==◌, ◌&&◌, if◌then◌else◌}
use Rattle.std.proofs.Common.{List, [], ◌++◌, length, Option, Some, None, Ok, Err, refl, sym, ap, ap₂, Bool, true, ◌∙◌}
use Rattle.std.proofs.Common.{append_assoc, append-nil, arith}
use Rattle.std.proofs.lemmas.Bool.{le-ltb, ne_eqb, and_left}
use Rattle.std.proofs.lemmas.List.{length-append}
use Rattle.byteorder.specs.Endian.{little_bytes}
use Rattle.dd_elem.specs.declared.tag.Tag.{Tag}
use Rattle.dd_elem.specs.declared.vr.Vr.{Vr}
use Rattle.dd_elem.specs.Tag.{number_of}
use Rattle.dd_grammar.specs.declared.fault.SetFault.TheVariants.{Order, UnexpectedTag, BadDelimiter}
use Rattle.dd_encoding.specs.declared.syntax.Length.{Length}
use Rattle.dd_encoding.specs.declared.syntax.Length.TheVariants.{Defined, Undefined}
use Rattle.dd_encoding.specs.declared.syntax.Syntax.{Syntax}
use Rattle.dd_encoding.specs.Elements.{Elements, no_elements, element, Content, bytes, items, fragments, Items}
use Rattle.dd_encoding.specs.Elements.{no_items, item, Element, Item}
use Rattle.dd_encoding.specs.Spelling.{undefined_length, delimiter_group, tag_text, item_tag_text, item_end_tag}
use Rattle.dd_encoding.specs.Spelling.{item_end_text, sequence_end_text, length_of, closed, elements_text, content_text}
use Rattle.dd_encoding.specs.Spelling.{items_text, names_vr, item_syntax, max_levels, AreElements, IsContent, AreItems}
use Rattle.dd_encoding.specs.Spelling.{MayHave, encapsulates, is_pixel_data, fragments_text}
use Rattle.dd_grammar.specs.Reading.{◌>>=◌, At, Reads, leaves_fewer, take_at, long_of, is_item, is_over, Shape}
use Rattle.dd_grammar.specs.Reading.{shape_at, SequenceReader, SetReader, ItemReader, within, open_at, fragments_here}
use Rattle.dd_grammar.specs.Reading.{defined_at, content_at, ends_set, element_at, next_elements, elements_at}
use Rattle.dd_grammar.specs.Reading.{ends_sequence, item_at, next_items, items_at, part_at, sequence_with, set_with}
use Rattle.dd_grammar.specs.Reading.{item_reader, read_all}
use Rattle.dd_grammar.proofs.Cut.{body_at, whole_element, element_is, whole_item, item_is}
use Rattle.dd_grammar.proofs.Steps.{done, long_again}
use Rattle.dd_grammar.proofs.Taken.{closed-append}
use Rattle.dd_grammar.proofs.Sound.{content_body, content_length, content_parts, element_text, IsElement, item_body}
use Rattle.dd_grammar.proofs.Sound.{part_length, item_text, IsItem}
use Rattle.dd_encoding.proofs.Even.{some_of, even_elements, even_items, closed_longer, element_least, length-item}
use Rattle.dd_grammar.proofs.Before.{more, before, after, before-append, before-none, fewer_not, past, into, onward}
use Rattle.dd_grammar.proofs.Before.{take_again, within_again, Closes, over_not, tag_again, ShapeAgain, shape_again}
use Rattle.dd_grammar.proofs.Widths.{even_not_odd, holds_none, content_form, fits_width, content_width, limit_most}
use Rattle.dd_grammar.proofs.Widths.{holds_no_fragments}
use Rattle.dd_grammar.proofs.FragmentLaws.{list_again}

-- ---- what readers owe: what is spelled in front of the bytes is what each gives

abbrev pub SequenceAgain : ℕ → SequenceReader → Type 0
SequenceAgain d read = (syntax : Syntax) (form : Length) (parts : Items) (left : Option ℕ) (rest : List ℕ)
    → AreItems syntax d parts → Closes form left rest → read syntax form
    (before left (closed form sequence_end_text (items_text parts)) rest) ≡ Ok (parts, after left rest)

abbrev pub SetAgain : ℕ → SetReader → Type 0
SetAgain d read = (syntax : Syntax) (form : Length) (set : Elements) (left : Option ℕ) (rest : List ℕ)
    → AreElements syntax d 0 set → Closes form left rest → read syntax form
    (before left (closed form item_end_text (elements_text set)) rest) ≡ Ok (set, after left rest)

abbrev pub PartAgain : ℕ → ItemReader → Type 0
PartAgain d read = (syntax : Syntax) (p : Item) (left : Option ℕ) (rest : List ℕ) → IsItem syntax d p
    → read syntax (part_length p) (before left (item_body p) rest) ≡ Ok (p, after left rest)

module _ (d : ℕ) (sequence : SequenceReader) (law : SequenceAgain d sequence) where
  -- a defined length that the checks of a value pass
  defined_again : (syntax : Syntax) (tag : Tag) (vr : Option Vr) (c : Content) (text : List ℕ) (left : Option ℕ)
      (rest : List ℕ) → length text < undefined_length → length text % 2 ≡ 0 → (o : Option Syntax)
      → item_syntax syntax vr Defined ≡ o
      → defined_at sequence o (length text) (before left text rest) ≡ Ok (c, after left rest)
      → content_at sequence syntax (record { tag = tag; shape = record { vr = vr; length = length text } })
      (before left text rest) ≡ Ok
      (c, after left rest)
  unfolding content_at
  defined_again syntax tag vr c text left rest low even o is made =
      let defined : (length text == undefined_length) ≡ false =
      ne_eqb (length text) undefined_length (λ e. omega arith) in
      past (length text == undefined_length) _ _ defined
      ∙ past (length text % 2 == 1) _ _ (even_not_odd (length text) even)
      ∙ past (leaves_fewer (more left (length text)) (length text)) _ _ (fewer_not left (length text))
      ∙ ap (λ (p : Option Syntax). defined_at sequence p (length text) (before left text rest)) is
      ∙ made

  -- a value after its header
  pub content_again : (syntax : Syntax) (tag : Tag) (vr : Option Vr) (c : Content) (left : Option ℕ) (rest : List ℕ)
      → IsContent syntax d vr c → MayHave tag c → content_at sequence syntax
      (record { tag = tag; shape = record { vr = vr; length = content_length c } })
      (before left (content_body c) rest) ≡ Ok (c, after left rest)
  unfolding content_at
  content_again syntax tag vr (bytes v) left rest h placed =
      defined_again syntax tag vr (bytes v) v left rest (limit_most vr (length v) h.2) h.1 None
      (holds_none syntax vr h.0)
      (onward (take_at (length v) (before left v rest)) (v, after left rest) (λ y. done (bytes y.0, y.1))
      (take_again (length v) left v rest refl))
  content_again syntax tag vr (items Defined parts) left rest h placed =
      let inner = some_of (item_syntax syntax vr Defined) (λ i. AreItems i d parts) h.0 in
      let read = within_again left (items_text parts) rest (sequence inner.0 Defined) parts
      (law inner.0 Defined parts (Some 0) rest inner.2 refl) in
      defined_again syntax tag vr (items Defined parts) (items_text parts) left rest h.1
      (even_items inner.0 d parts inner.2) (Some inner.0) inner.1
      (onward (within (length (items_text parts)) (before left (items_text parts) rest) (sequence inner.0 Defined))
      (parts, after left rest) (λ y. done (items Defined y.0, y.1)) read)
  content_again syntax tag vr (items Undefined parts) left rest h placed =
      let inner = some_of (item_syntax syntax vr Undefined) (λ i. AreItems i d parts) h.0 in
      let start : At = before left (items_text parts ++ sequence_end_text) rest in
      let none : (encapsulates syntax vr && is_pixel_data tag) ≡ false =
      and_left (encapsulates syntax vr) (is_pixel_data tag) (holds_no_fragments syntax vr Undefined inner.0 inner.1) in
      ap₂ (λ (b : Bool) (o : Option Syntax). open_at sequence b o start) none inner.1
      ∙ onward (sequence inner.0 Undefined start) (parts, after left rest) (λ y. done (items Undefined y.0, y.1))
      (law inner.0 Undefined parts left rest inner.2 tt)
  content_again syntax tag vr (fragments fs) left rest h placed =
      let start : At = before left (fragments_text fs ++ sequence_end_text) rest in
      let both : (encapsulates syntax vr && is_pixel_data tag) ≡ true = rw (h.0, placed) refl in
      ap (λ (b : Bool). open_at sequence b (item_syntax syntax vr Undefined) start) both
      ∙ onward (fragments_here start) (fs, after left rest) (λ y. done (fragments y.0, y.1))
      (list_again fs left rest h.1)

  -- an element after its first eight bytes, with the tag apart
  body_of : Syntax → ℕ → Tag → List ℕ → At → Reads Element
  body_of syntax low tag head at =
      if tag.group == delimiter_group then Err UnexpectedTag
      else (if nat_lt (number_of tag) low then Err Order
      else (shape_at syntax head at >>= λ shape. content_at sequence syntax (record { tag = tag; shape = shape.0 })
      shape.1 >>= λ x. Ok
      (record { tag = tag; vr = shape.0.vr; content = x.0 }, x.1)))

  -- an element after its first eight bytes
  body_again : (syntax : Syntax) (low : ℕ) (e : Element) (h : IsElement syntax d low e)
      (s : ShapeAgain (names_vr syntax) e.tag e.vr (content_length e.content)) (left : Option ℕ) (rest : List ℕ)
      → body_at sequence syntax low (tag_text e.tag ++ s.first) (before left (s.second ++ content_body e.content) rest)
      ≡ Ok (e, after left rest)
  unfolding body_at body_of shape_at
  body_again syntax low e h s left rest =
      let head : List ℕ = tag_text e.tag ++ s.first in
      let start : At = before left (s.second ++ content_body e.content) rest in
      let middle : At = before left (content_body e.content) rest in
      let shape : Shape = record { vr = e.vr; length = content_length e.content } in
      let shape_read : shape_at syntax head start ≡ Ok (shape, middle) =
      ap (λ (at : At). shape_at syntax head at) (before-append left s.second (content_body e.content) rest)
      ∙ s.again (more left (length (content_body e.content))) (content_body e.content ++ rest) in
      let group : (e.tag.group == delimiter_group) ≡ false = ne_eqb _ _ h.3 in
      let order : nat_lt (number_of e.tag) low ≡ false = le-ltb _ _ h.0 in
      ap (λ (t : Tag). body_of syntax low t head start) (tag_again e.tag s.first h.1 h.2)
      ∙ past (e.tag.group == delimiter_group) _ _ group
      ∙ past (nat_lt (number_of e.tag) low) _ _ order
      ∙ onward (shape_at syntax head start) (shape, middle) (λ y. content_at sequence syntax
      (record { tag = e.tag; shape = y.0 }) y.1 >>= λ x. done
      (record { tag = e.tag; vr = y.0.vr; content = x.0 }, x.1)) shape_read
      ∙ onward (content_at sequence syntax (record { tag = e.tag; shape = shape }) middle) (e.content, after left rest)
      (λ x. done (record { tag = e.tag; vr = e.vr; content = x.0 }, x.1))
      (content_again syntax e.tag e.vr e.content left rest h.4 h.5)

  -- an element is no delimiter
  ends_not : (form : Length) (tag : Tag) (rest : List ℕ) → tag.group < 2 ^ 16 → tag.element < 2 ^ 16
      → tag.group ≢ delimiter_group → ends_set form (tag_text tag ++ rest) ≡ false
  ends_not Defined tag rest g n ne = refl
  ends_not Undefined tag rest g n ne =
      ap (λ (t : Tag). (t.group == item_end_tag.group) && (t.element == item_end_tag.element)) (tag_again tag rest g n)
      ∙ and_left (tag.group == item_end_tag.group) (tag.element == item_end_tag.element)
      (ne_eqb tag.group item_end_tag.group ne)

  -- the parts of an element's text: its first eight bytes, and the rest
  element_split : (syntax : Syntax) (e : Element)
      (s : ShapeAgain (names_vr syntax) e.tag e.vr (content_length e.content))
      → element_text e ≡ (tag_text e.tag ++ s.first) ++ (s.second ++ content_body e.content)
  element_split syntax e s =
      ap (λ (y : List ℕ). tag_text e.tag ++ y) (content_parts e.vr e.content
      ∙ ap (λ (y : List ℕ). y ++ content_body e.content) s.whole
      ∙ append_assoc s.first s.second (content_body e.content))
      ∙ sym (append_assoc (tag_text e.tag) s.first (s.second ++ content_body e.content))

  -- an element
  pub element_again : (syntax : Syntax) (form : Length) (low : ℕ) (e : Element) (left : Option ℕ) (rest : List ℕ)
      → IsElement syntax d low e → element_at sequence syntax form low (before left (element_text e) rest) ≡ Ok
      (Some e, after left rest)
  unfolding whole_element
  element_again syntax form low e left rest h =
      let s = shape_again (names_vr syntax) e.tag e.vr (content_length e.content)
      (content_form syntax d e.vr e.content h.4) (content_width syntax d e.vr e.content h.4) in
      let head : List ℕ = tag_text e.tag ++ s.first in
      let tail : List ℕ = s.second ++ content_body e.content in
      let start : At = before left (head ++ tail) rest in
      let middle : At = before left tail rest in
      let eight : length head ≡ 8 = let f = s.four in omega (arith, f) in
      let some_bytes : 0 < length (head ++ tail) = omega (arith, length-append head tail) in
      let took : take_at 8 start ≡ Ok (head, middle) = ap (λ (at : At). take_at 8 at)
      (before-append left head tail rest) ∙ take_again 8 (more left (length tail)) head (tail ++ rest) eight in
      element_is sequence syntax form low _
      ∙ ap (λ (y : List ℕ). whole_element sequence syntax form low (before left y rest)) (element_split syntax e s)
      ∙ past (is_over form start) (done (None, start)) _ (over_not form left (head ++ tail) rest some_bytes)
      ∙ onward (take_at 8 start) (head, middle) (λ y. if ends_set form y.0
      then (if long_of y.0 == 0 then done (None, y.1) else Err BadDelimiter)
      else (body_at sequence syntax low y.0 y.1 >>= λ x. done (Some x.0, x.1))) took
      ∙ past (ends_set form head) (if long_of head == 0 then done (None, middle) else Err BadDelimiter) _
      (ends_not form e.tag s.first h.1 h.2 h.3)
      ∙ onward (body_at sequence syntax low head middle) (e, after left rest) (λ x. done (Some x.0, x.1))
      (body_again syntax low e h s left rest)

  -- the end of a set
  pub set_end_again : (syntax : Syntax) (form : Length) (low : ℕ) (left : Option ℕ) (rest : List ℕ)
      → Closes form left rest → element_at sequence syntax form low (before left (closed form item_end_text []) rest) ≡
      Ok (None, after left rest)
  unfolding whole_element
  set_end_again syntax Defined low left rest over =
      element_is sequence syntax Defined low _
      ∙ ap (λ (at : At). whole_element sequence syntax Defined low at) (before-none left rest)
      ∙ into (is_over Defined (after left rest)) (done (None, after left rest)) _ over
  set_end_again syntax Undefined low left rest over =
      element_is sequence syntax Undefined low _
      ∙ onward (take_at 8 (before left item_end_text rest)) (item_end_text, after left rest)
      (λ y. if ends_set Undefined y.0
      then (if long_of y.0 == 0 then done (None, y.1) else Err BadDelimiter)
      else (body_at sequence syntax low y.0 y.1 >>= λ x. done (Some x.0, x.1)))
      (take_again 8 left item_end_text rest refl)

  -- elements up to the end of their set
  pub elements_again : (set : Elements) (syntax : Syntax) (form : Length) (low most : ℕ) (left : Option ℕ)
      (rest : List ℕ) → AreElements syntax d low set → Closes form left rest → length (elements_text set) < most
      → elements_at sequence syntax form most low (before left (closed form item_end_text (elements_text set)) rest) ≡
      Ok (set, after left rest)
  unfolding elements_at
  elements_again set syntax form low zero left rest h over lt = absurd (omega arith)
  elements_again no_elements syntax form low (suc most) left rest h over lt =
      onward (element_at sequence syntax form low (before left (closed form item_end_text []) rest))
      (None, after left rest) (next_elements (elements_at sequence syntax form most))
      (set_end_again syntax form low left rest over)
  elements_again (element tag vr content others) syntax form low (suc most) left rest h over lt =
      let e : Element = record { tag = tag; vr = vr; content = content } in
      let tail : List ℕ = closed form item_end_text (elements_text others) in
      let whole : closed form item_end_text (elements_text (element tag vr content others)) ≡ element_text e ++ tail =
      closed-append form item_end_text (tag_text tag) (content_text vr content ++ elements_text others)
      ∙ ap (λ (y : List ℕ). tag_text tag ++ y) (closed-append form item_end_text (content_text vr content)
      (elements_text others)) ∙ sym (append_assoc (tag_text tag) (content_text vr content) tail) in
      let start : before left (closed form item_end_text (elements_text (element tag vr content others))) rest ≡ before
      (more left (length tail)) (element_text e) (tail ++ rest) = ap (λ (y : List ℕ). before left y rest) whole
      ∙ before-append left (element_text e) tail rest in
      let least : 8 + length (elements_text others) ≤ length (elements_text (element tag vr content others)) =
      element_least tag vr content others in
      let fewer : length (elements_text others) < most = omega arith in
      ap (λ (at : At). elements_at sequence syntax form (suc most) low at) start
      ∙ onward (element_at sequence syntax form low (before (more left (length tail)) (element_text e) (tail ++ rest)))
      (Some e, before left tail rest) (next_elements (elements_at sequence syntax form most))
      (element_again syntax form low e (more left (length tail)) (tail ++ rest) (h.0, h.1, h.2, h.3, h.4, h.5))
      ∙ onward (elements_at sequence syntax form most (number_of tag + 1) (before left tail rest))
      (others, after left rest) (λ x. done (element tag vr content x.0, x.1))
      (elements_again others syntax form (number_of tag + 1) most left rest h.6 over fewer)

-- ---- an item

-- an item that fits has a length of 32 bits
part_wide : (syntax : Syntax) (d : ℕ) (p : Item) → IsItem syntax d p → part_length p < 2 ^ 32
part_wide syntax zero p h = absurd h
part_wide syntax (suc d) p h = fits_width p.length (elements_text p.set) h.1

module _ (d : ℕ) (part : ItemReader) (law : PartAgain d part) where
  -- an item with its header
  pub item_again : (syntax : Syntax) (form : Length) (p : Item) (left : Option ℕ) (rest : List ℕ) → IsItem syntax d p
      → item_at part syntax form (before left (item_text p) rest) ≡ Ok (Some p, after left rest)
  unfolding whole_item
  item_again syntax form p left rest h =
      let head : List ℕ = item_tag_text ++ little_bytes 4 (part_length p) in
      let tail : List ℕ = item_body p in
      let start : At = before left (head ++ tail) rest in
      let middle : At = before left tail rest in
      let took : take_at 8 start ≡ Ok (head, middle) = ap (λ (at : At). take_at 8 at)
      (before-append left head tail rest) ∙ take_again 8 (more left (length tail)) head (tail ++ rest) refl in
      let number : long_of head ≡ part_length p = long_again (part_length p) [] (part_wide syntax d p h) in
      item_is part syntax form _
      ∙ past (is_over form start) (done (None, start)) _ (over_not form left (head ++ tail) rest (omega arith))
      ∙ onward (take_at 8 start) (head, middle) (λ y. if ends_sequence form y.0
      then (if long_of y.0 == 0 then done (None, y.1) else Err BadDelimiter)
      else (if is_item y.0 then (part syntax (long_of y.0) y.1 >>= λ x. done (Some x.0, x.1)) else Err UnexpectedTag))
      took
      ∙ past (ends_sequence form head) (if long_of head == 0 then done (None, middle) else Err BadDelimiter) _
      (goes_on form)
      ∙ onward (part syntax (long_of head) middle) (p, after left rest) (λ x. done (Some x.0, x.1))
      (ap (λ (n : ℕ). part syntax n middle) number ∙ law syntax p left rest h)
    where
      goes_on : (f : Length) → ends_sequence f (item_tag_text ++ little_bytes 4 (part_length p)) ≡ false
      goes_on Defined = refl
      goes_on Undefined = refl

  -- the end of a sequence
  pub sequence_end_again : (syntax : Syntax) (form : Length) (left : Option ℕ) (rest : List ℕ) → Closes form left rest
      → item_at part syntax form (before left (closed form sequence_end_text []) rest) ≡ Ok (None, after left rest)
  unfolding whole_item
  sequence_end_again syntax Defined left rest over =
      item_is part syntax Defined _
      ∙ ap (λ (at : At). whole_item part syntax Defined at) (before-none left rest)
      ∙ into (is_over Defined (after left rest)) (done (None, after left rest)) _ over
  sequence_end_again syntax Undefined left rest over =
      item_is part syntax Undefined _
      ∙ onward (take_at 8 (before left sequence_end_text rest)) (sequence_end_text, after left rest)
      (λ y. if ends_sequence Undefined y.0
      then (if long_of y.0 == 0 then done (None, y.1) else Err BadDelimiter)
      else (if is_item y.0 then (part syntax (long_of y.0) y.1 >>= λ x. done (Some x.0, x.1)) else Err UnexpectedTag))
      (take_again 8 left sequence_end_text rest refl)

  -- the first of items that fit, and the others
  first_item : (syntax : Syntax) (e : ℕ) (form : Length) (set : Elements) (others : Items)
      → AreItems syntax e (item form set others) → IsItem syntax e (record { length = form; set = set })
      × AreItems syntax e others
  first_item syntax zero form set others h = absurd h
  first_item syntax (suc e) form set others h = ((h.0, h.1), h.2)

  -- items up to the end of their sequence
  pub items_again : (parts : Items) (syntax : Syntax) (form : Length) (most : ℕ) (left : Option ℕ) (rest : List ℕ)
      → AreItems syntax d parts → Closes form left rest → length (items_text parts) < most
      → items_at part syntax form most (before left (closed form sequence_end_text (items_text parts)) rest) ≡ Ok
      (parts, after left rest)
  unfolding items_at
  items_again parts syntax form zero left rest h over lt = absurd (omega arith)
  items_again no_items syntax form (suc most) left rest h over lt =
      onward (item_at part syntax form (before left (closed form sequence_end_text []) rest)) (None, after left rest)
      (next_items (items_at part syntax form most)) (sequence_end_again syntax form left rest over)
  items_again (item kind set others) syntax form (suc most) left rest h over lt =
      let p : Item = record { length = kind; set = set } in
      let valid = first_item syntax d kind set others h in
      let tail : List ℕ = closed form sequence_end_text (items_text others) in
      let whole : closed form sequence_end_text (items_text (item kind set others)) ≡ item_text p ++ tail =
      closed-append form sequence_end_text item_tag_text (little_bytes 4 (part_length p)
      ++ (item_body p ++ items_text others)) ∙ ap (λ (y : List ℕ). item_tag_text ++ y)
      (closed-append form sequence_end_text (little_bytes 4 (part_length p)) (item_body p ++ items_text others)
      ∙ ap (λ (y : List ℕ). little_bytes 4 (part_length p) ++ y)
      (closed-append form sequence_end_text (item_body p) (items_text others))
      ∙ sym (append_assoc (little_bytes 4 (part_length p)) (item_body p) tail))
      ∙ sym (append_assoc item_tag_text (little_bytes 4 (part_length p) ++ item_body p) tail) in
      let start : before left (closed form sequence_end_text (items_text (item kind set others))) rest ≡ before
      (more left (length tail)) (item_text p) (tail ++ rest) = ap (λ (y : List ℕ). before left y rest) whole
      ∙ before-append left (item_text p) tail rest in
      let fewer : length (items_text others) < most = let e = length-item kind set others in omega arith in
      ap (λ (at : At). items_at part syntax form (suc most) at) start
      ∙ onward (item_at part syntax form (before (more left (length tail)) (item_text p) (tail ++ rest)))
      (Some p, before left tail rest) (next_items (items_at part syntax form most))
      (item_again syntax form p (more left (length tail)) (tail ++ rest) valid.0)
      ∙ onward (items_at part syntax form most (before left tail rest)) (others, after left rest)
      (λ x. done (item kind set x.0, x.1)) (items_again others syntax form most left rest valid.1 over fewer)

  -- a whole sequence
  pub sequence_again : SequenceAgain d (sequence_with part)
  sequence_again syntax form parts left rest h over =
      let text : List ℕ = closed form sequence_end_text (items_text parts) in
      let longer : length (items_text parts) ≤ length text = closed_longer form sequence_end_text (items_text parts) in
      let enough : length (items_text parts) < suc (length (text ++ rest)) = omega (arith, length-append text rest) in
      items_again parts syntax form (suc (length (text ++ rest))) left rest h over enough

-- a whole set
pub set_again : (d : ℕ) (part : ItemReader) → PartAgain d part → SetAgain d (set_with part)
set_again d part law syntax form set left rest h over =
    let text : List ℕ = closed form item_end_text (elements_text set) in
    let longer : length (elements_text set) ≤ length text = closed_longer form item_end_text (elements_text set) in
    let enough : length (elements_text set) < suc (length (text ++ rest)) = omega (arith, length-append text rest) in
    elements_again d (sequence_with part) (sequence_again d part law) set syntax form 0 (suc (length (text ++ rest)))
    left rest h over enough

-- an item one level further out
pub part_again : (d : ℕ) (set : SetReader) → SetAgain d set → PartAgain (suc d) (part_at set)
unfolding part_at
part_again d set law syntax p left rest h = go p.length h
  where
    go : (form : Length) → IsItem syntax (suc d) (record { length = form; set = p.set })
        → part_at set syntax (length_of form (elements_text p.set))
        (before left (closed form item_end_text (elements_text p.set)) rest) ≡ Ok
        (record { length = form; set = p.set }, after left rest)
    go Undefined h =
        onward (set syntax Undefined (before left (elements_text p.set ++ item_end_text) rest))
        (p.set, after left rest) (λ x. done (record { length = Undefined; set = x.0 }, x.1))
        (law syntax Undefined p.set left rest h.0 tt)
    go Defined h =
        let text : List ℕ = elements_text p.set in
        let low : length text < undefined_length = h.1 in
        let even : length text % 2 ≡ 0 = even_elements syntax d 0 p.set h.0 in
        let defined : (length text == undefined_length) ≡ false =
        ne_eqb (length text) undefined_length (λ e. omega arith) in
        past (length text == undefined_length) (set syntax Undefined (before left text rest) >>= λ x. done
        (record { length = Undefined; set = x.0 }, x.1)) _ defined
        ∙ past (length text % 2 == 1) _ _ (even_not_odd (length text) even)
        ∙ past (leaves_fewer (more left (length text)) (length text)) _ _ (fewer_not left (length text))
        ∙ onward (within (length text) (before left text rest) (set syntax Defined)) (p.set, after left rest)
        (λ x. done (record { length = Defined; set = x.0 }, x.1))
        (within_again left text rest (set syntax Defined) p.set (law syntax Defined p.set (Some 0) rest h.0 refl))

-- ---- levels

-- an item in which a number of levels may nest, itself included
pub reader_again : (d : ℕ) → PartAgain d (item_reader d)
reader_again zero syntax p left rest h = absurd h
reader_again (suc d) syntax p left rest h = part_again d (set_with (item_reader d))
    (set_again d (item_reader d) (reader_again d)) syntax p left rest h

-- ---- the whole

-- the whole, at any number of levels
pub whole_again : (d : ℕ) (syntax : Syntax) (set : Elements) → AreElements syntax d 0 set
    → set_with (item_reader d) syntax Defined (record { left = None; bytes = elements_text set }) ≡ Ok
    (set, after None [])
whole_again d syntax set h =
    ap (λ (bs : List ℕ). set_with (item_reader d) syntax Defined (record { left = None; bytes = bs }))
    (sym (append-nil (elements_text set)))
    ∙ set_again d (item_reader d) (reader_again d) syntax Defined set None [] h refl

-- the spelling of a set is read as that set
pub all_again : (syntax : Syntax) (set : Elements) → AreElements syntax max_levels 0 set
    → read_all syntax (elements_text set) ≡ Ok set
unfolding read_all
all_again syntax set h = onward (set_with (item_reader max_levels) syntax Defined
    (record { left = None; bytes = elements_text set })) (set, after None []) (λ x. done x.0)
    (whole_again max_levels syntax set h)
