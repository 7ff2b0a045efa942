-- The list of the elements of a data set.
use Rattle.std.proofs.Common.{◌≡◌, List, [], ◌∷◌, refl, ap}
use Rattle.dd_encoding.specs.Elements.{Element, elements_of}
use Rattle.dd_grammar.specs.Lists.{element_list}

-- what is built of entries has these entries
pub element_list-elements_of : (es : List Element) → element_list (elements_of es) ≡ es
element_list-elements_of [] = refl
element_list-elements_of (e ∷ es) = ap (λ (rest : List Element). e ∷ rest) (element_list-elements_of es)
