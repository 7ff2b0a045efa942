-- Reading a data set from left to right, check by check: the set, or the first check that fails (PS3.5 sections 7.1 and
-- 7.5). Each step takes bytes from where the one before it left off.
use Rattle.std.specs.Prelude.{ℕ, zero, suc, ◌+◌, ◌-◌, ◌%◌, List, [], ◌∷◌, length, take, drop, Bool, true, false, ◌&&◌}
use Rattle.std.specs.Prelude.{Option, Some, None, Result, Ok, Err, nat_lt, ◌==◌, if◌then◌else◌}
use Rattle.std.specs.Int.{w16, w32, from_le_bytes}
use Rattle.dd_elem.specs.declared.tag.Tag.{Tag}
use Rattle.dd_elem.specs.declared.vr.Vr.{Vr}
use Rattle.dd_elem.specs.Tag.{number_of}
use Rattle.dd_elem.specs.Vr.{is_long_of, vr_of}
use Rattle.dd_grammar.specs.declared.fault.SetFault.{SetFault}
use Rattle.dd_grammar.specs.declared.fault.SetFault.TheVariants.{Truncated, Order, BadVr, Reserved, OddLength}
use Rattle.dd_grammar.specs.declared.fault.SetFault.TheVariants.{UndefinedLength, UnexpectedTag, BadDelimiter, Overrun}
use Rattle.dd_grammar.specs.declared.fault.SetFault.TheVariants.{TooDeep}
use Rattle.dd_encoding.specs.declared.syntax.Length.{Length}
use Rattle.dd_encoding.specs.declared.syntax.Length.TheVariants.{Defined, Undefined}
use Rattle.dd_encoding.specs.declared.syntax.Syntax.{Syntax}
use Rattle.dd_encoding.specs.Elements.{Elements, no_elements, element, Content, bytes, items, fragments, Items}
use Rattle.dd_encoding.specs.Elements.{no_items, item, Element, Item}
use Rattle.dd_encoding.specs.Spelling.{undefined_length, delimiter_group, names_vr, item_syntax, max_levels}
use Rattle.dd_encoding.specs.Spelling.{encapsulates, is_pixel_data, item_tag, item_end_tag, sequence_end_tag}

-- where reading stands: how many bytes the nearest enclosing length leaves, where there is one, and the bytes to come
pub record At : Type 0 where
  pub left : Option ℕ
  pub bytes : List ℕ

-- what a step gives: a value and where it left off, or a fault
abbrev pub Reads : Type 0 → Type 0
Reads X = Result (X × At) SetFault

-- one step, and then the next
infixl 10 ◌>>=◌
abbrev pub ◌>>=◌ : {A B E : Type 0} → Result A E → (A → Result B E) → Result B E
(Ok x) >>= f = f x
(Err e) >>= f = Err e

-- ---- bytes and numbers

-- the enclosing length leaves fewer than n bytes
abbrev pub leaves_fewer : Option ℕ → ℕ → Bool
leaves_fewer None n = false
leaves_fewer (Some left) n = nat_lt left n

-- what it leaves after n bytes
abbrev pub left_after : Option ℕ → ℕ → Option ℕ
left_after None n = None
left_after (Some left) n = Some (left - n)

-- takes n bytes
unfoldable pub take_at : ℕ → At → Reads (List ℕ)
take_at n at =
    if leaves_fewer at.left n then Err Overrun
    else (if nat_lt (length at.bytes) n then Err Truncated
    else Ok (take n at.bytes, record { left = left_after at.left n; bytes = drop n at.bytes }))

-- the tag that eight bytes begin with, and the number in the last four or two of them
abbrev pub tag_of : List ℕ → Tag
tag_of head = record { group = from_le_bytes w16 head; element = from_le_bytes w16 (drop 2 head) }

abbrev pub long_of : List ℕ → ℕ
long_of head = from_le_bytes w32 (drop 4 head)

abbrev pub short_of : List ℕ → ℕ
short_of head = from_le_bytes w16 (drop 6 head)

-- they begin with this tag: the tag of an item, or of one of the two ends
abbrev pub is_tag : Tag → List ℕ → Bool
is_tag tag head = ((tag_of head).group == tag.group) && ((tag_of head).element == tag.element)

abbrev pub is_item : List ℕ → Bool
is_item head = is_tag item_tag head

abbrev pub is_item_end : List ℕ → Bool
is_item_end head = is_tag item_end_tag head

abbrev pub is_sequence_end : List ℕ → Bool
is_sequence_end head = is_tag sequence_end_tag head

-- no byte is left: of the nearest enclosing length, or of the whole where no length encloses
abbrev pub no_byte_left : Option ℕ → List ℕ → Bool
no_byte_left None bs = length bs == 0
no_byte_left (Some left) bs = left == 0

-- a set or a sequence whose length says where it ends is over
abbrev pub is_over : Length → At → Bool
is_over Undefined at = false
is_over Defined at = no_byte_left at.left at.bytes

-- one more is there
abbrev pub there : {X : Type 0} → X × At → Reads (Option X)
there x = Ok (Some x.0, x.1)

-- eight bytes
abbrev pub eight_at : At → Reads (Option (List ℕ))
eight_at at = take_at 8 at >>= there

-- eight bytes, or the end of a set or a sequence whose length says where it ends
unfoldable pub head_at : Length → At → Reads (Option (List ℕ))
head_at form at = if is_over form at then Ok (None, at) else eight_at at

-- ---- the header of an element

-- the length in the four bytes after the first eight of a long header
unfoldable pub long_length_at : At → Reads ℕ
long_length_at at = take_at 4 at >>= λ n. Ok (from_le_bytes w32 n.0, n.1)

-- the value representation and the length that a header gives, whose first eight bytes are `head`
pub record Shape : Type 0 where
  pub vr : Option Vr
  pub length : ℕ

unfoldable pub long_at : Vr → List ℕ → At → Reads Shape
long_at vr head at =
    if short_of head == 0 then (long_length_at at >>= λ n. Ok (record { vr = Some vr; length = n.0 }, n.1))
    else Err Reserved

abbrev pub explicit_at : Option Vr → List ℕ → At → Reads Shape
explicit_at None head at = Err BadVr
explicit_at (Some vr) head at =
    if is_long_of vr then long_at vr head at
    else Ok (record { vr = Some vr; length = short_of head }, at)

-- where headers name the value representation, and where they do not
abbrev pub shape_where : Bool → List ℕ → At → Reads Shape
shape_where true head at = explicit_at (vr_of (take 2 (drop 4 head))) head at
shape_where false head at = Ok (record { vr = None; length = long_of head }, at)

unfoldable pub shape_at : Syntax → List ℕ → At → Reads Shape
shape_at syntax head at = shape_where (names_vr syntax) head at

-- what a header says: a tag, and how its value is encoded
pub record Header : Type 0 where
  pub tag : Tag
  pub shape : Shape

-- the delimiter that ends a set of undefined length
abbrev pub ends_set : Length → List ℕ → Bool
ends_set Defined head = false
ends_set Undefined head = is_item_end head

abbrev pub header_with : Tag → Shape × At → Reads Header
header_with tag shape = Ok (record { tag = tag; shape = shape.0 }, shape.1)

-- the header of an element whose first eight bytes are `head`, with a tag not below `low`
unfoldable pub header_at : Syntax → ℕ → List ℕ → At → Reads Header
header_at syntax low head at =
    if (tag_of head).group == delimiter_group then Err UnexpectedTag
    else (if nat_lt (number_of (tag_of head)) low then Err Order
    else (shape_at syntax head at >>= header_with (tag_of head)))

-- that header where its tag may stand there
abbrev pub tagged_at : Syntax → Tag → List ℕ → At → Reads (Option Header)
tagged_at syntax tag head at = shape_at syntax head at >>= header_with tag >>= there

-- what the eight bytes begin: a header, or the delimiter that ends the set
unfoldable pub opening_at : Syntax → Length → ℕ → List ℕ → At → Reads (Option Header)
opening_at syntax form low head at =
    if ends_set form head then (if long_of head == 0 then Ok (None, at) else Err BadDelimiter)
    else (header_at syntax low head at >>= there)

abbrev pub after_head : Syntax → Length → ℕ → Option (List ℕ) × At → Reads (Option Header)
after_head syntax form low (None, at) = Ok (None, at)
after_head syntax form low (Some head, at) = opening_at syntax form low head at

-- the next header of a set, or the end of the set
unfoldable pub front_at : Syntax → Length → ℕ → At → Reads (Option Header)
front_at syntax form low at = head_at form at >>= after_head syntax form low

-- ---- the header of an item

-- the delimiter that ends a sequence of undefined length
abbrev pub ends_sequence : Length → List ℕ → Bool
ends_sequence Defined head = false
ends_sequence Undefined head = is_sequence_end head

-- what the eight bytes begin: an item of this length, or the delimiter that ends the sequence
unfoldable pub item_opening : Length → List ℕ → Result (Option ℕ) SetFault
item_opening form head =
    if ends_sequence form head then (if long_of head == 0 then Ok None else Err BadDelimiter)
    else (if is_item head then Ok (Some (long_of head)) else Err UnexpectedTag)

abbrev pub after_item_head : Length → Option (List ℕ) × At → Reads (Option ℕ)
after_item_head form (None, at) = Ok (None, at)
after_item_head form (Some head, at) = item_opening form head >>= λ length. Ok (length, at)

-- the length of the next item, or the end of the sequence
unfoldable pub item_front_at : Length → At → Reads (Option ℕ)
item_front_at form at = head_at form at >>= after_item_head form

-- ---- fragments

-- the length of a fragment
unfoldable pub fragment_length : ℕ → Result ℕ SetFault
fragment_length n =
    if n == undefined_length then Err UndefinedLength
    else (if n % 2 == 1 then Err OddLength
    else Ok n)

abbrev pub fragment_after : Option ℕ × At → Reads (Option (List ℕ))
fragment_after (None, at) = Ok (None, at)
fragment_after (Some n, at) = fragment_length n >>= λ k. take_at k at >>= there

-- the next fragment, or the end of the list; what stands before it is the header of an item
unfoldable pub fragment_at : At → Reads (Option (List ℕ))
fragment_at at = item_front_at Undefined at >>= fragment_after

abbrev pub next_fragments : (At → Reads (List (List ℕ))) → Option (List ℕ) × At → Reads (List (List ℕ))
next_fragments others (None, at) = Ok ([], at)
next_fragments others (Some f, at) = others at >>= λ x. Ok (f ∷ x.0, x.1)

-- fragments to the end of their list
unfoldable pub fragments_at : ℕ → At → Reads (List (List ℕ))
fragments_at zero at = Err Truncated
fragments_at (suc most) at = fragment_at at >>= next_fragments (fragments_at most)

abbrev pub fragments_here : At → Reads (List (List ℕ))
fragments_here at = fragments_at (suc (length at.bytes)) at

-- ---- values and elements

-- how a sequence, the set of an item, and an item with its length are read
abbrev pub SequenceReader : Type 0
SequenceReader = Syntax → Length → At → Reads Items

abbrev pub SetReader : Type 0
SetReader = Syntax → Length → At → Reads Elements

abbrev pub ItemReader : Type 0
ItemReader = Syntax → ℕ → At → Reads Item

-- what the next n bytes alone hold
abbrev pub within : {X : Type 0} → ℕ → At → (At → Reads X) → Reads X
within n at read = read (record { left = Some n; bytes = at.bytes })
    >>= λ x. Ok (x.0, record { left = left_after at.left n; bytes = x.1.bytes })

abbrev pub undefined_at : SequenceReader → Option Syntax → At → Reads Content
undefined_at sequence None at = Err UndefinedLength
undefined_at sequence (Some inner) at = sequence inner Undefined at >>= λ x. Ok (items Undefined x.0, x.1)

abbrev pub defined_at : SequenceReader → Option Syntax → ℕ → At → Reads Content
defined_at sequence None n at = take_at n at >>= λ x. Ok (bytes x.0, x.1)
defined_at sequence (Some inner) n at = within n at (sequence inner Defined) >>= λ x. Ok (items Defined x.0, x.1)

-- pixel data that may be fragments
abbrev pub opens_fragments : Syntax → Header → Bool
opens_fragments syntax header = encapsulates syntax header.shape.vr && is_pixel_data header.tag

abbrev pub open_at : SequenceReader → Bool → Option Syntax → At → Reads Content
open_at sequence true inner at = fragments_here at >>= λ x. Ok (fragments x.0, x.1)
open_at sequence false inner at = undefined_at sequence inner at

-- the value after a header
unfoldable pub content_at : SequenceReader → Syntax → Header → At → Reads Content
content_at sequence syntax header at =
    if header.shape.length == undefined_length
    then open_at sequence (opens_fragments syntax header) (item_syntax syntax header.shape.vr Undefined) at
    else (if header.shape.length % 2 == 1 then Err OddLength
    else (if leaves_fewer at.left header.shape.length then Err Overrun
    else defined_at sequence (item_syntax syntax header.shape.vr Defined) header.shape.length at))

-- the element after its header
abbrev pub element_after : SequenceReader → Syntax → Option Header × At → Reads (Option Element)
element_after sequence syntax (None, at) = Ok (None, at)
element_after sequence syntax (Some header, at) =
    content_at sequence syntax header at
    >>= λ x. Ok (Some (record { tag = header.tag; vr = header.shape.vr; content = x.0 }), x.1)

-- the next element, or the end of the set
unfoldable pub element_at : SequenceReader → Syntax → Length → ℕ → At → Reads (Option Element)
element_at sequence syntax form low at = front_at syntax form low at >>= element_after sequence syntax

-- ---- a set

abbrev pub next_elements : (ℕ → At → Reads Elements) → Option Element × At → Reads Elements
next_elements others (None, at) = Ok (no_elements, at)
next_elements others (Some e, at) = others (number_of e.tag + 1) at >>= λ x. Ok (element e.tag e.vr e.content x.0, x.1)

-- elements to the end of the set; each takes a byte at least, so more of them than bytes are never there
unfoldable pub elements_at : SequenceReader → Syntax → Length → ℕ → ℕ → At → Reads Elements
elements_at sequence syntax form zero low at = Err Truncated
elements_at sequence syntax form (suc most) low at =
    element_at sequence syntax form low at >>= next_elements (elements_at sequence syntax form most)

-- ---- a sequence

-- the item after its header
abbrev pub item_after : ItemReader → Syntax → Option ℕ × At → Reads (Option Item)
item_after part syntax (None, at) = Ok (None, at)
item_after part syntax (Some n, at) = part syntax n at >>= there

-- the next item, or the end of the sequence
unfoldable pub item_at : ItemReader → Syntax → Length → At → Reads (Option Item)
item_at part syntax form at = item_front_at form at >>= item_after part syntax

abbrev pub next_items : (At → Reads Items) → Option Item × At → Reads Items
next_items others (None, at) = Ok (no_items, at)
next_items others (Some p, at) = others at >>= λ x. Ok (item p.length p.set x.0, x.1)

unfoldable pub items_at : ItemReader → Syntax → Length → ℕ → At → Reads Items
items_at part syntax form zero at = Err Truncated
items_at part syntax form (suc most) at = item_at part syntax form at >>= next_items (items_at part syntax form most)

-- an item after its tag, with the length that its header gives
unfoldable pub part_at : SetReader → Syntax → ℕ → At → Reads Item
part_at set syntax n at =
    if n == undefined_length then (set syntax Undefined at >>= λ x. Ok (record { length = Undefined; set = x.0 }, x.1))
    else (if n % 2 == 1 then Err OddLength
    else (if leaves_fewer at.left n then Err Overrun
    else (within n at (set syntax Defined) >>= λ x. Ok (record { length = Defined; set = x.0 }, x.1))))

-- ---- levels

abbrev pub sequence_with : ItemReader → SequenceReader
sequence_with part syntax form at = items_at part syntax form (suc (length at.bytes)) at

abbrev pub set_with : ItemReader → SetReader
set_with part syntax form at = elements_at (sequence_with part) syntax form (suc (length at.bytes)) 0 at

-- an item where this number of levels may still nest, itself included
abbrev pub item_reader : ℕ → ItemReader
item_reader zero syntax n at = Err TooDeep
item_reader (suc levels) syntax n at = part_at (set_with (item_reader levels)) syntax n at

-- ---- the whole

-- the whole of the bytes as one set
unfoldable pub read_all : Syntax → List ℕ → Result Elements SetFault
read_all syntax bs =
    set_with (item_reader max_levels) syntax Defined (record { left = None; bytes = bs }) >>= λ x. Ok x.0

-- the first check that the bytes fail, or none
abbrev pub fault_of : Result Elements SetFault → Option SetFault
fault_of (Ok set) = None
fault_of (Err fault) = Some fault

abbrev pub first_fault : Syntax → List ℕ → Option SetFault
first_fault syntax bs = fault_of (read_all syntax bs)
