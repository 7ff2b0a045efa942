-- The elements that a `DataSet` stands for, and the same of its parts.
use Rattle.std.specs.Prelude.{ℕ, List, map}
use Rattle.std.specs.Borrow.{Bor}
use Rattle.dd_set.specs.declared.set.DataSet.{DataSet, fold-DataSet}
use Rattle.dd_set.specs.declared.set.Element.{Element as ElementValue, fold-Element}
use Rattle.dd_set.specs.declared.set.Item.{Item as ItemValue, fold-Item}
use Rattle.dd_set.specs.declared.set.Value.{Value, fold-Value}
use Rattle.dd_set.specs.declared.set.Value.TheOpen.{Value-F, DataSet-F, Element-F, Item-F}
use Rattle.dd_encoding.specs.Elements.{Elements, Content, Items, bytes, items, fragments, Element, Item, elements_of}
use Rattle.dd_encoding.specs.Elements.{items_of}

-- the bytes of slices
abbrev pub pieces : List (Bor (List ℕ)) → List (List ℕ)
pieces fs = map (λ f. f.now) fs

-- one level of each type, with what is inside already seen
abbrev pub value_step : Value-F Content Elements Element Item → Content
value_step (Value-F.Bytes v) = bytes v.now
value_step (Value-F.Items form parts) = items form (items_of parts.items)
value_step (Value-F.Fragments fs) = fragments (pieces fs.items)

abbrev pub set_step : DataSet-F Content Elements Element Item → Elements
set_step s = elements_of s.elements.items

abbrev pub element_step : Element-F Content Elements Element Item → Element
element_step e = record { tag = e.tag; vr = e.vr; content = e.value }

abbrev pub item_step : Item-F Content Elements Element Item → Item
item_step p = record { length = p.length; set = p.set }

abbrev pub value_view : Value → Content
value_view = fold-Value Content Elements Element Item value_step set_step element_step item_step

abbrev pub set_view : DataSet → Elements
set_view = fold-DataSet Content Elements Element Item value_step set_step element_step item_step

abbrev pub element_view : ElementValue → Element
element_view = fold-Element Content Elements Element Item value_step set_step element_step item_step

abbrev pub item_view : ItemValue → Item
item_view = fold-Item Content Elements Element Item value_step set_step element_step item_step

-- elements and items in a row
abbrev pub elements_view : List ElementValue → Elements
elements_view es = elements_of (map element_view es)

abbrev pub items_view : List ItemValue → Items
items_view parts = items_of (map item_view parts)
