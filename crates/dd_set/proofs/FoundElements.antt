-- The elements of a data set, found by their tags.
use Rattle.std.proofs.Common.{◌≡◌, Bool, true, false, List, [], ◌∷◌, Some, option_map, if◌then◌else◌, map, refl, sym}
use Rattle.std.proofs.Common.{ap, ◌∙◌}
use Rattle.std.specs.Prelude.{find}
use Rattle.dd_elem.specs.declared.tag.Tag.{Tag}
use Rattle.dd_set.specs.declared.set.Element.{Element as ElementValue}
use Rattle.dd_encoding.specs.Elements.{Element}
use Rattle.dd_set.specs.Find.{find_in}
use Rattle.dd_grammar.specs.Lists.{same_tag}
use Rattle.dd_set.specs.Views.{element_view, elements_view}
use Rattle.dd_set.proofs.Seen.{element_view-is}
use Rattle.dd_grammar.proofs.Lists.{element_list-elements_of}

-- a search among pictures is a search among what they picture
pub find-map : {A B : Type 0} (f : A → B) (test : B → Bool) (p : A → Bool) → ((x : A) → p x ≡ test (f x))
    → (xs : List A) → option_map f (find p xs) ≡ find test (map f xs)
find-map f test p same [] = refl
find-map {A = A} {B = B} f test p same (x ∷ xs) =
    rw (same x) (elim (test (f x)) as (λ b. option_map f (if b then Some x else find p xs) ≡
    (if b then Some (f x) else find test (map f xs))) [ true ↦ refl | false ↦ find-map f test p same xs ])

-- the element with a tag, found in a list of elements
pub find_in-elements_view : (tag : Tag) (es : List ElementValue) → option_map element_view
    (find (λ e. same_tag e.tag tag) es) ≡ find_in tag (elements_view es)
find_in-elements_view tag es =
    let pictured : option_map element_view (find (λ e. same_tag e.tag tag) es) ≡ find (λ e. same_tag e.tag tag)
    (map element_view es) =
    find-map element_view (λ e. same_tag e.tag tag) (λ e. same_tag e.tag tag) (λ e. rw (element_view-is e) refl) es in
    pictured ∙ ap (λ (es : List Element). find (λ e. same_tag e.tag tag) es)
    (sym (element_list-elements_of (map element_view es)))
