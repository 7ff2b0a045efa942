-- The items of an element with a tag, found from left to right.
use Rattle.std.proofs.Common.{◌≡◌, Bool, true, false, List, ◌∷◌, Option, None, Some, refl, sym, subst, if◌then◌else◌}
use Rattle.std.proofs.Common.{option_and_then}
use Rattle.dd_elem.specs.declared.tag.Tag.{Tag}
use Rattle.dd_set.specs.declared.set.Element.{Element as ElementValue}
use Rattle.dd_encoding.specs.Elements.{Elements, no_elements, element, Element}
use Rattle.dd_set.specs.Find.{find_in}
use Rattle.dd_grammar.specs.Lists.{same_tag}
use Rattle.dd_set.specs.Views.{elements_view, value_view}
use Rattle.dd_set.proofs.Seen.{element_view-is}
use Rattle.dd_walk.specs.Saying.{item_sets_of}

-- the data sets of the items of the first element with this tag
abbrev pub items_in : Tag → Elements → Option (List Elements)
items_in wanted no_elements = None
items_in wanted (element tag vr content rest) =
    if same_tag tag wanted then item_sets_of content else items_in wanted rest

chosen : (b : Bool) (e : Element) (rest : Option Element)
    → (if b then item_sets_of e.content else option_and_then (λ (e : Element). item_sets_of e.content) rest)
    ≡ option_and_then (λ (e : Element). item_sets_of e.content) (if b then Some e else rest)
chosen true e rest = refl
chosen false e rest = refl

pub items_in-is : (wanted : Tag) (set : Elements)
    → items_in wanted set ≡ option_and_then (λ (e : Element). item_sets_of e.content) (find_in wanted set)
items_in-is wanted no_elements = refl
items_in-is wanted (element tag vr content rest) =
    rw (items_in-is wanted rest)
    (chosen (same_tag tag wanted) (record { tag = tag; vr = vr; content = content }) (find_in wanted rest))

-- the first element is the one
pub first_holds : (wanted : Tag) (e : ElementValue) (es : List ElementValue) → same_tag e.tag wanted ≡ true
    → items_in wanted (elements_view (e ∷ es)) ≡ item_sets_of (value_view e.value)
first_holds wanted e es same =
    subst (λ (x : Element). items_in wanted (element x.tag x.vr x.content (elements_view es))
    ≡ item_sets_of (value_view e.value))
    (sym (element_view-is e)) (rw same refl)
