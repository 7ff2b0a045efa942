-- The elements of group 0002, in memory and as elements.
use Rattle.std.proofs.Common.{◌≡◌, List, [], ◌∷◌, map, refl, sym, ap, ◌∙◌}
use Rattle.std.specs.List.{list_all}
use Rattle.dd_set.specs.declared.set.DataSet.{DataSet}
use Rattle.dd_set.specs.declared.set.Element.{Element as ElementValue}
use Rattle.dd_set.specs.declared.set.Value.TheViews.{out-DataSet}
use Rattle.dd_encoding.specs.Elements.{Element}
use Rattle.dd_set.specs.Views.{set_view, element_view}
use Rattle.dd_grammar.proofs.Lists.{element_list-elements_of}
use Rattle.dd_set.proofs.Seen.{set_view-is, element_view-is}
use Rattle.dd_part10.specs.Reading.{is_meta_tag, is_alone}

-- the tests of all elements are the tests of what they are seen as
tags_in : (es : List ElementValue) → list_all (λ e. is_meta_tag e.tag) es
    ≡ list_all (λ e. is_meta_tag e.tag) (map element_view es)
tags_in [] = refl
tags_in (e ∷ es) =
    let seen : (element_view e).tag ≡ e.tag = rw (element_view-is e) refl in
    rw (seen, tags_in es) refl

-- a group that is alone
pub is_alone-seen : (group : DataSet) → is_alone (set_view group)
    ≡ list_all (λ e. is_meta_tag e.tag) (out-DataSet group).elements.items
is_alone-seen group =
    let es = (out-DataSet group).elements.items in
    ap is_alone (set_view-is group) ∙ ap (λ (xs : List Element). list_all (λ e. is_meta_tag e.tag) xs)
    (element_list-elements_of (map element_view es)) ∙ sym (tags_in es)
