-- The places of the items of an element: how many bytes stand before the Item tag of each (PS3.5 section 7.5).
use Rattle.std.specs.Prelude.{ℕ, List, [], ◌∷◌, ◌++◌, length, Option, Some, None, if◌then◌else◌}
use Rattle.dd_elem.specs.declared.tag.Tag.{Tag}
use Rattle.dd_elem.specs.declared.vr.Vr.{Vr}
use Rattle.dd_encoding.specs.Elements.{Elements, no_elements, element, Content, bytes, items, fragments, Items}
use Rattle.dd_encoding.specs.Elements.{no_items, item}
use Rattle.dd_grammar.specs.Lists.{same_tag}
use Rattle.dd_set.specs.Single.{element_text, item_text}
use Rattle.dd_encoding.specs.Spelling.{items_text, header_text, length_of}

-- of items that stand after the bytes `front`
abbrev pub item_places : List ℕ → Items → List ℕ
item_places front no_items = []
item_places front (item form set rest) = length front
    ∷ item_places (front ++ item_text (record { length = form; set = set })) rest

-- of the items of an element that stands after the bytes `front`, where it is a sequence
abbrev pub content_places : List ℕ → Tag → Option Vr → Content → Option (List ℕ)
content_places front tag vr (bytes v) = None
content_places front tag vr (fragments fs) = None
content_places front tag vr (items form parts) =
    Some (item_places (front ++ header_text tag vr (length_of form (items_text parts))) parts)

-- of the items of the first element with the tag, in a set that stands after the bytes `front`
abbrev pub places_in : Tag → List ℕ → Elements → Option (List ℕ)
places_in wanted front no_elements = None
places_in wanted front (element tag vr content rest) =
    if same_tag tag wanted then content_places front tag vr content
    else places_in wanted (front ++ element_text (record { tag = tag; vr = vr; content = content })) rest
