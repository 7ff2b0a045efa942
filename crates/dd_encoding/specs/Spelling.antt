-- The bytes of a data set, and which data sets have bytes (PS3.5 sections 6.2, 7.1 and 7.5).
use Rattle.std.specs.Prelude.{◌≡◌, ◌≢◌, ℕ, zero, suc, ◌+◌, ◌^◌, ◌<◌, ◌≤◌, ◌%◌, List, [], ◌∷◌, ◌++◌, length, Option}
use Rattle.std.specs.Prelude.{Some, None, IsSomeAnd, Bool, true, false, ◌&&◌, ◌==◌, if◌then◌else◌}
use Rattle.byteorder.specs.Endian.{little_bytes}
use Rattle.dd_elem.specs.declared.tag.Tag.{Tag}
use Rattle.dd_elem.specs.declared.vr.Vr.{Vr}
use Rattle.dd_elem.specs.declared.vr.Vr.TheVariants.{OB, SQ, UN}
use Rattle.dd_elem.specs.Tag.{number_of}
use Rattle.dd_elem.specs.Vr.{letters_of, is_long_of}
use Rattle.dd_encoding.specs.declared.syntax.Length.{Length}
use Rattle.dd_encoding.specs.declared.syntax.Length.TheVariants.{Defined, Undefined}
use Rattle.dd_encoding.specs.declared.syntax.Syntax.{Syntax}
use Rattle.dd_encoding.specs.declared.syntax.Syntax.TheVariants.{Explicit, Implicit, Encapsulated}
use Rattle.dd_encoding.specs.Elements.{Elements, no_elements, element, Content, bytes, items, fragments, Items}
use Rattle.dd_encoding.specs.Elements.{no_items}
use Rattle.dd_encoding.specs.Elements.{item}

-- ---- the bytes

-- what stands in place of a length that is not defined
abbrev pub undefined_length : ℕ
undefined_length = 0xffffffff

-- the group of items and delimiters, which no element has
abbrev pub delimiter_group : ℕ
delimiter_group = 0xfffe

-- a tag: its two numbers, little endian
abbrev pub tag_text : Tag → List ℕ
tag_text t = little_bytes 2 t.group ++ little_bytes 2 t.element

-- what a header has after the tag. Implicit: a length of 32 bits. Explicit: two letters and a length, of 16 bits, or
-- after two reserved bytes of 32.
abbrev pub shape_text : Option Vr → ℕ → List ℕ
shape_text None n = little_bytes 4 n
shape_text (Some vr) n = letters_of vr ++ (if is_long_of vr then 0 ∷ 0 ∷ little_bytes 4 n else little_bytes 2 n)

-- a whole header
abbrev pub header_text : Tag → Option Vr → ℕ → List ℕ
header_text t vr n = tag_text t ++ shape_text vr n

-- the lengths that the header of a value representation has room for in Explicit VR are below this
-- (PS3.5 section 7.1.2)
abbrev pub header_limit : Vr → ℕ
header_limit vr = if is_long_of vr then 2 ^ 32 else 2 ^ 16

-- the tags of an item, of its end and of the end of a sequence
abbrev pub item_tag : Tag
item_tag = record { group = delimiter_group; element = 0xe000 }

abbrev pub item_end_tag : Tag
item_end_tag = record { group = delimiter_group; element = 0xe00d }

abbrev pub sequence_end_tag : Tag
sequence_end_tag = record { group = delimiter_group; element = 0xe0dd }

-- the tag of pixel data, whose value may be fragments
abbrev pub pixel_data_tag : Tag
pixel_data_tag = record { group = 0x7fe0; element = 0x0010 }

abbrev pub is_pixel_data : Tag → Bool
is_pixel_data tag = (tag.group == pixel_data_tag.group) && (tag.element == pixel_data_tag.element)

-- what an item begins with, and both ends, whose length is 0
abbrev pub item_tag_text : List ℕ
item_tag_text = tag_text item_tag

abbrev pub item_end_text : List ℕ
item_end_text = header_text item_end_tag None 0

abbrev pub sequence_end_text : List ℕ
sequence_end_text = header_text sequence_end_tag None 0

-- the length that a header gives to these contents, and the contents with the mark that ends them where they want one
abbrev pub length_of : Length → List ℕ → ℕ
length_of Defined text = length text
length_of Undefined text = undefined_length

abbrev pub closed : Length → List ℕ → List ℕ → List ℕ
closed Defined mark text = text
closed Undefined mark text = text ++ mark

-- a fragment: the tag of an item, its length and its bytes
abbrev pub fragment_text : List ℕ → List ℕ
fragment_text f = item_tag_text ++ (little_bytes 4 (length f) ++ f)

-- fragments, one after the other
abbrev pub fragments_text : List (List ℕ) → List ℕ
fragments_text [] = []
fragments_text (f ∷ fs) = fragment_text f ++ fragments_text fs

abbrev mutual
  -- the elements of a set, one after the other: tag, then the rest of the header and the value
  pub elements_text : Elements → List ℕ
  elements_text no_elements = []
  elements_text (element tag vr content rest) = tag_text tag ++ (content_text vr content ++ elements_text rest)

  -- the header after its tag, and the value
  pub content_text : Option Vr → Content → List ℕ
  content_text vr (bytes v) = shape_text vr (length v) ++ v
  content_text vr (items form parts) = shape_text vr (length_of form (items_text parts))
      ++ closed form sequence_end_text (items_text parts)
  content_text vr (fragments fs) = shape_text vr undefined_length ++ (fragments_text fs ++ sequence_end_text)

  -- the items of a sequence, one after the other
  pub items_text : Items → List ℕ
  items_text no_items = []
  items_text (item form set rest) = item_tag_text ++ (little_bytes 4 (length_of form (elements_text set))
      ++ (closed form item_end_text (elements_text set) ++ items_text rest))

-- ---- which sets have bytes

-- a length of an item or a sequence fits 32 bits and is not the mark of an undefined one
abbrev pub FitsLong : Length → List ℕ → Type 0
FitsLong Defined text = length text < undefined_length
FitsLong Undefined text = Unit {0}

-- the defined lengths that a header has room for are below this
abbrev pub length_limit : Option Vr → ℕ
length_limit None = undefined_length
length_limit (Some vr) = if is_long_of vr then undefined_length else 2 ^ 16

-- a header in this syntax names the value representation of its value
abbrev pub names_vr : Syntax → Bool
names_vr Explicit = true
names_vr Implicit = false
names_vr Encapsulated = true

-- The syntax in which the items of a sequence are spelled, where an element of this value representation may hold a
-- sequence of this form. Where headers name it: SQ, of either form, whose items are in the same syntax, and UN of
-- undefined length, whose items are Implicit. Where they do not: of undefined length alone.
abbrev pub named_item_syntax : Syntax → Vr → Length → Option Syntax
named_item_syntax syntax SQ form = Some syntax
named_item_syntax syntax UN Undefined = Some Implicit
named_item_syntax syntax UN Defined = None
named_item_syntax syntax _ form = None

abbrev pub item_syntax_where : Bool → Syntax → Option Vr → Length → Option Syntax
item_syntax_where true syntax (Some vr) form = named_item_syntax syntax vr form
item_syntax_where true syntax None form = None
item_syntax_where false syntax None Undefined = Some Implicit
item_syntax_where false syntax None Defined = None
item_syntax_where false syntax (Some vr) form = None

abbrev pub item_syntax : Syntax → Option Vr → Length → Option Syntax
item_syntax syntax vr form = item_syntax_where (names_vr syntax) syntax vr form

-- An element of this value representation may hold bytes. Where headers name it: of each but SQ. Where they do not:
-- of no representation.
abbrev pub HoldsBytesWhere : Bool → Option Vr → Type 0
HoldsBytesWhere true (Some vr) = vr ≢ SQ
HoldsBytesWhere true None = ⊥
HoldsBytesWhere false None = Unit {0}
HoldsBytesWhere false (Some vr) = ⊥

abbrev pub HoldsBytes : Syntax → Option Vr → Type 0
HoldsBytes syntax vr = HoldsBytesWhere (names_vr syntax) vr

-- pixel data of this value representation may be fragments: OB, in an encapsulated syntax
abbrev pub is_of_bytes : Vr → Bool
is_of_bytes OB = true
is_of_bytes _ = false

abbrev pub encapsulates : Syntax → Option Vr → Bool
encapsulates Explicit vr = false
encapsulates Implicit vr = false
encapsulates Encapsulated None = false
encapsulates Encapsulated (Some vr) = is_of_bytes vr

-- fragments have even lengths of 32 bits
abbrev pub AreFragments : List (List ℕ) → Type 0
AreFragments [] = Unit {0}
AreFragments (f ∷ fs) = (length f % 2 ≡ 0) × (length f < undefined_length) × AreFragments fs

-- only pixel data has fragments
abbrev pub MayHave : Tag → Content → Type 0
MayHave tag (bytes v) = Unit {0}
MayHave tag (items form parts) = Unit {0}
MayHave tag (fragments fs) = is_pixel_data tag ≡ true

-- how deep items may nest: 32 levels
abbrev pub max_levels : ℕ
max_levels = 32

abbrev mutual
  -- These are elements of a set in this syntax: no tag is below the number `low`, tags rise strictly, and none is of
  -- the group of delimiters. Below them items nest in at most `levels` levels.
  pub AreElements : Syntax → ℕ → ℕ → Elements → Type 0
  AreElements syntax levels low no_elements = Unit {0}
  AreElements syntax levels low (element tag vr content rest) =
      (low ≤ number_of tag) × (tag.group < 2 ^ 16) × (tag.element < 2 ^ 16) × (tag.group ≢ delimiter_group)
      × IsContent syntax levels vr content × MayHave tag content
      × AreElements syntax levels (number_of tag + 1) rest

  -- a value: bytes of even length, or items, with a length that fits, or fragments
  pub IsContent : Syntax → ℕ → Option Vr → Content → Type 0
  IsContent syntax levels vr (bytes v) = HoldsBytes syntax vr × (length v % 2 ≡ 0) × (length v < length_limit vr)
  IsContent syntax levels vr (items form parts) = IsSomeAnd (item_syntax syntax vr form)
      (λ inner. AreItems inner levels parts) × FitsLong form (items_text parts)
  IsContent syntax levels vr (fragments fs) = (encapsulates syntax vr ≡ true) × AreFragments fs

  -- items, each one level further in
  pub AreItems : Syntax → ℕ → Items → Type 0
  AreItems syntax levels no_items = Unit {0}
  AreItems syntax zero (item form set rest) = ⊥
  AreItems syntax (suc levels) (item form set rest) = AreElements syntax levels 0 set
      × FitsLong form (elements_text set) × AreItems syntax (suc levels) rest

-- The bytes spell the set in this syntax. Both length forms are part of the set, so it has one spelling at most.
pub record Spells (syntax : Syntax) (set : Elements) (text : List ℕ) : Type 0 where
  pub valid : AreElements syntax max_levels 0 set
  pub whole : text ≡ elements_text set
  pub fits : length text < 2 ^ 64
