-- The element of a data set with a given tag, and its value.
use Rattle.std.specs.Prelude.{ℕ, List, [], Option, Some, None, find}
use Rattle.dd_elem.specs.Clean.{clean_of}
use Rattle.dd_elem.specs.declared.tag.Tag.{Tag}
use Rattle.dd_encoding.specs.Elements.{Elements, Content, bytes, items, fragments, Element}
use Rattle.dd_grammar.specs.Lists.{same_tag, element_list}

-- the first element with this tag: the only one where tags rise
abbrev pub find_in : Tag → Elements → Option Element
find_in tag set = find (λ e. same_tag e.tag tag) (element_list set)

-- a value without its padding, where it is no sequence
abbrev pub content_value : Content → Option (List ℕ)
content_value (bytes value) = Some (clean_of value)
content_value (items form parts) = None
content_value (fragments fs) = None

-- the value of an element, and no bytes where no element was found
abbrev pub element_value : Option Element → Option (List ℕ)
element_value None = Some []
element_value (Some entry) = content_value entry.content

-- the value that a data set has at a tag: without its padding, no bytes where there is no such element, and None where
-- that holds a sequence
abbrev pub value_at : Tag → Elements → Option (List ℕ)
value_at tag set = element_value (find_in tag set)
