-- An element and an item in one stretch, as proofs over whole texts walk them: a header and what stands after it.
use Rattle.std.proofs.Common.{◌≡◌, ℕ, Bool, true, false, if◌then◌else◌, List, Option, Some, None, Ok, Err, refl, sym}
use Rattle.std.proofs.Common.{◌==◌, nat_lt}
use Rattle.dd_elem.specs.declared.tag.Tag.{Tag}
use Rattle.dd_elem.specs.Tag.{number_of}
use Rattle.dd_grammar.specs.declared.fault.SetFault.TheVariants.{Order, UnexpectedTag, BadDelimiter}
use Rattle.dd_encoding.specs.declared.syntax.Length.{Length}
use Rattle.dd_encoding.specs.declared.syntax.Syntax.{Syntax}
use Rattle.dd_encoding.specs.Elements.{Element, Item, Content}
use Rattle.dd_grammar.specs.Reading.{there, header_with, head_at, header_at, opening_at, after_head, front_at}
use Rattle.dd_grammar.specs.Reading.{element_after, item_opening, after_item_head, item_front_at, item_after, At}
use Rattle.dd_grammar.specs.Reading.{Reads, ◌>>=◌, Shape, SequenceReader, ItemReader, take_at, tag_of, long_of, is_item}
use Rattle.dd_grammar.specs.Reading.{is_over, ends_set, ends_sequence, shape_at, content_at, element_at, item_at}
use Rattle.dd_encoding.specs.Spelling.{delimiter_group}

abbrev element_with : Tag → Shape → Content × At → Reads Element
element_with tag shape x = Ok (record { tag = tag; vr = shape.vr; content = x.0 }, x.1)

-- the value of an element that is there
after_content : (tag : Tag) (shape : Shape) (r : Reads Content)
    → ((r >>= element_with tag shape) >>= there) ≡ (r >>= λ x. Ok
    (Some (record { tag = tag; vr = shape.vr; content = x.0 }), x.1))
after_content tag shape (Ok x) = refl
after_content tag shape (Err e) = refl

-- an element whose first eight bytes are `head`, with a tag not below `low`
unfoldable pub body_at : SequenceReader → Syntax → ℕ → List ℕ → At → Reads Element
body_at sequence syntax low head at =
    if (tag_of head).group == delimiter_group then Err UnexpectedTag
    else (if nat_lt (number_of (tag_of head)) low then Err Order
    else (shape_at syntax head at
    >>= λ shape. content_at sequence syntax (record { tag = tag_of head; shape = shape.0 }) shape.1
    >>= element_with (tag_of head) shape.0))

-- the next element, or the end of the set
unfoldable pub whole_element : SequenceReader → Syntax → Length → ℕ → At → Reads (Option Element)
whole_element sequence syntax form low at =
    if is_over form at then Ok (None, at)
    else (take_at 8 at >>= λ head. if ends_set form head.0
    then (if long_of head.0 == 0 then Ok (None, head.1) else Err BadDelimiter)
    else (body_at sequence syntax low head.0 head.1 >>= there))

-- the next item, or the end of the sequence
unfoldable pub whole_item : ItemReader → Syntax → Length → At → Reads (Option Item)
whole_item part syntax form at =
    if is_over form at then Ok (None, at)
    else (take_at 8 at >>= λ head. if ends_sequence form head.0
    then (if long_of head.0 == 0 then Ok (None, head.1) else Err BadDelimiter)
    else (if is_item head.0 then (part syntax (long_of head.0) head.1 >>= there) else Err UnexpectedTag))

module _ (sequence : SequenceReader) (syntax : Syntax) where
  -- the value after a header with this tag
  abbrev then_content : Tag → Shape × At → Reads Element
  then_content tag shape =
      content_at sequence syntax (record { tag = tag; shape = shape.0 }) shape.1 >>= element_with tag shape.0

  after_shape : (tag : Tag) (r : Reads Shape) → ((r >>= then_content tag) >>= there)
      ≡ (((r >>= header_with tag) >>= there) >>= element_after sequence syntax)
  after_shape tag (Ok shape) = after_content tag shape.0
      (content_at sequence syntax (record { tag = tag; shape = shape.0 }) shape.1)
  after_shape tag (Err e) = refl

  after_tests : (p q : Bool) (tag : Tag) (r : Reads Shape)
      → ((if p then Err UnexpectedTag else (if q then Err Order else (r >>= then_content tag))) >>= there) ≡
      (((if p then Err UnexpectedTag else (if q then Err Order else (r >>= header_with tag))) >>= there) >>=
      element_after sequence syntax)
  after_tests true q tag r = refl
  after_tests false true tag r = refl
  after_tests false false tag r = after_shape tag r

  -- a body is the rest of a header and a value
  body_is : (low : ℕ) (head : List ℕ) (at : At) → (body_at sequence syntax low head at >>= there) ≡
      ((header_at syntax low head at >>= there) >>= element_after sequence syntax)
  unfolding body_at header_at
  body_is low head at = after_tests _ _ (tag_of head) (shape_at syntax head at)

  after_end : (p q : Bool) (low : ℕ) (head : List ℕ) (at : At)
      → (if p then (if q then Ok (None, at) else Err BadDelimiter) else (body_at sequence syntax low head at >>= there))
      ≡ ((if p then (if q then Ok (None, at) else Err BadDelimiter) else (header_at syntax low head at >>= there))
      >>= element_after sequence syntax)
  after_end true true low head at = refl
  after_end true false low head at = refl
  after_end false q low head at = body_is low head at

  after_eight : (form : Length) (low : ℕ) (r : Reads (List ℕ))
      → (r >>= λ head. if ends_set form head.0 then (if long_of head.0 == 0 then Ok (None, head.1) else Err
      BadDelimiter) else (body_at sequence syntax low head.0 head.1 >>= there))
      ≡ (((r >>= there) >>= after_head syntax form low) >>= element_after sequence syntax)
  unfolding opening_at
  after_eight form low (Ok head) = after_end _ _ low head.0 head.1
  after_eight form low (Err e) = refl

  after_over : (over : Bool) (form : Length) (low : ℕ) (at : At) (r : Reads (List ℕ))
      → (if over then Ok (None, at) else (r >>= λ head. if ends_set form head.0 then
      (if long_of head.0 == 0 then Ok (None, head.1) else Err BadDelimiter) else
      (body_at sequence syntax low head.0 head.1 >>= there)))
      ≡ (((if over then Ok (None, at) else (r >>= there)) >>= after_head syntax form low) >>= element_after sequence
      syntax)
  after_over true form low at r = refl
  after_over false form low at r = after_eight form low r

  -- the two are one
  pub element_is : (form : Length) (low : ℕ) (at : At)
      → element_at sequence syntax form low at ≡ whole_element sequence syntax form low at
  unfolding element_at front_at head_at whole_element
  element_is form low at = sym (after_over (is_over form at) form low at (take_at 8 at))

module _ (part : ItemReader) (syntax : Syntax) where
  after_item_end : (p q r : Bool) (n : ℕ) (at : At)
      → (if p then (if q then Ok (None, at) else Err BadDelimiter) else
      (if r then (part syntax n at >>= there) else Err UnexpectedTag))
      ≡ (((if p then (if q then Ok None else Err BadDelimiter) else (if r then Ok (Some n) else Err UnexpectedTag)) >>=
      λ length. Ok (length, at)) >>= item_after part syntax)
  after_item_end true true r n at = refl
  after_item_end true false r n at = refl
  after_item_end false q true n at = refl
  after_item_end false q false n at = refl

  after_item_eight : (form : Length) (r : Reads (List ℕ))
      → (r >>= λ head. if ends_sequence form head.0 then (if long_of head.0 == 0 then Ok (None, head.1) else Err
      BadDelimiter) else (if is_item head.0 then (part syntax (long_of head.0) head.1 >>= there) else Err
      UnexpectedTag))
      ≡ (((r >>= there) >>= after_item_head form) >>= item_after part syntax)
  unfolding item_opening
  after_item_eight form (Ok head) = after_item_end _ _ _ (long_of head.0) head.1
  after_item_eight form (Err e) = refl

  after_item_over : (over : Bool) (form : Length) (at : At) (r : Reads (List ℕ))
      → (if over then Ok (None, at) else (r >>= λ head. if ends_sequence form head.0 then
      (if long_of head.0 == 0 then Ok (None, head.1) else Err BadDelimiter) else
      (if is_item head.0 then (part syntax (long_of head.0) head.1 >>= there) else Err UnexpectedTag)))
      ≡ (((if over then Ok (None, at) else (r >>= there)) >>= after_item_head form) >>= item_after part syntax)
  after_item_over true form at r = refl
  after_item_over false form at r = after_item_eight form r

  -- the two are one
  pub item_is : (form : Length) (at : At) → item_at part syntax form at ≡ whole_item part syntax form at
  unfolding item_at item_front_at head_at whole_item
  item_is form at = sym (after_item_over (is_over form at) form at (take_at 8 at))
