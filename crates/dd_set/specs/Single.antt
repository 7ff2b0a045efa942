-- One element of a data set and one item of a sequence by themselves: their bytes, and which of them have bytes
-- (PS3.5 sections 7.1 and 7.5).
use Rattle.std.specs.Prelude.{◌≢◌, ℕ, zero, suc, ◌^◌, ◌<◌, ◌≤◌, List, [], ◌++◌}
use Rattle.byteorder.specs.Endian.{little_bytes}
use Rattle.dd_elem.specs.Tag.{number_of}
use Rattle.dd_encoding.specs.declared.syntax.Length.{Length}
use Rattle.dd_encoding.specs.declared.syntax.Length.TheVariants.{Defined, Undefined}
use Rattle.dd_encoding.specs.declared.syntax.Syntax.{Syntax}
use Rattle.dd_encoding.specs.Elements.{Element, Item}
use Rattle.dd_encoding.specs.Spelling.{tag_text, content_text, elements_text, item_tag_text, item_end_text, length_of}
use Rattle.dd_encoding.specs.Spelling.{closed, delimiter_group, AreElements, IsContent, MayHave, FitsLong}

-- an element: tag, the rest of the header, and the value
abbrev pub element_text : Element → List ℕ
element_text e = tag_text e.tag ++ content_text e.vr e.content

-- an item: its tag, a length and its data set, with the mark of its end where its form requires one
abbrev pub item_text : Item → List ℕ
item_text p = item_tag_text ++ (little_bytes 4 (length_of p.length (elements_text p.set))
    ++ closed p.length item_end_text (elements_text p.set))

-- an element of a set in this syntax, whose tag is not below the number `low`
abbrev pub IsElement : Syntax → ℕ → ℕ → Element → Type 0
IsElement syntax levels low e =
    (low ≤ number_of e.tag) × (e.tag.group < 2 ^ 16) × (e.tag.element < 2 ^ 16) × (e.tag.group ≢ delimiter_group)
    × IsContent syntax levels e.vr e.content × MayHave e.tag e.content

-- an item where this number of levels may still nest, itself included
abbrev pub IsItem : Syntax → ℕ → Item → Type 0
IsItem syntax zero p = ⊥
IsItem syntax (suc levels) p = AreElements syntax levels 0 p.set × FitsLong p.length (elements_text p.set)

-- the mark of an end, where the form requires it
abbrev pub mark_text : Length → List ℕ → List ℕ
mark_text Defined mark = []
mark_text Undefined mark = mark
