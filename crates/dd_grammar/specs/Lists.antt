-- The elements of a data set in a list, and when two of them have one tag.
use Rattle.std.specs.Prelude.{List, [], ◌∷◌, Bool, ◌&&◌, ◌==◌}
use Rattle.dd_elem.specs.declared.tag.Tag.{Tag}
use Rattle.dd_encoding.specs.Elements.{Elements, no_elements, element, Element}

-- two tags are one
abbrev pub same_tag : Tag → Tag → Bool
same_tag t u = (t.group == u.group) && (t.element == u.element)

-- the elements of a data set in a list
abbrev pub element_list : Elements → List Element
element_list no_elements = []
element_list (element tag vr content rest) = record { tag = tag; vr = vr; content = content } ∷ element_list rest
