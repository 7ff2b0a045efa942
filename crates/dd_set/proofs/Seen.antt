-- What one level of a data set looks like to definitions.
use Rattle.std.proofs.Common.{◌≡◌, rules}
use Rattle.dd_set.specs.declared.set.DataSet.{DataSet, the_lemmas}
use Rattle.dd_set.specs.declared.set.Element.{Element}
use Rattle.dd_set.specs.declared.set.Item.{Item}
use Rattle.dd_set.specs.declared.set.Value.TheViews.{out-DataSet, out-Item}
use Rattle.dd_set.specs.Views.{set_view, element_view, item_view, value_view, elements_view}

-- a data set is its elements
pub set_view-is : (s : DataSet) → set_view s ≡ elements_view (out-DataSet s).elements.items
set_view-is s = search (rules, the_lemmas)

-- an element is its tag, its value representation and its value
pub element_view-is : (e : Element) → element_view e ≡ record { tag = e.tag; vr = e.vr; content = value_view e.value }
element_view-is e = search (rules, the_lemmas)

-- an item is its length and its data set
pub item_view-is : (p : Item) → item_view p ≡ record { length = (out-Item p).length; set = set_view (out-Item p).set }
item_view-is p = search (rules, the_lemmas)
