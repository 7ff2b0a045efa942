-- How the size of a set or a sequence is counted, part by part.
use Rattle.std.proofs.Common.{Bor, ◌%◌, ◌≡◌, ℕ, zero, suc, ◌+◌, ◌<◌, ◌≤◌, ◌^◌, List, [], ◌∷◌, ◌++◌, length, get_or}
use Rattle.std.proofs.Common.{drop, refl, sym, ap, ◌∙◌, arith, append_assoc, length-append}
use Rattle.std.proofs.lemmas.List.{at_drop_more, at_drop_all}
use Rattle.dd_elem.specs.Tag.{number_of}
use Rattle.dd_set.specs.declared.set.Element.{Element as ElementValue}
use Rattle.dd_set.specs.declared.set.Item.{Item as ItemValue}
use Rattle.dd_encoding.specs.declared.syntax.Syntax.{Syntax}
use Rattle.dd_encoding.specs.Elements.{Elements, no_elements, element, Items, no_items, item, Element, Item}
use Rattle.dd_set.specs.Single.{element_text, item_text, IsElement, IsItem}
use Rattle.dd_encoding.specs.Spelling.{elements_text, items_text, tag_text, content_text, length_of, closed}
use Rattle.dd_encoding.specs.Spelling.{item_tag_text, item_end_text, AreElements, AreItems, AreFragments, fragment_text}
use Rattle.dd_encoding.specs.Spelling.{fragments_text, undefined_length}
use Rattle.dd_set.specs.Views.{element_view, elements_view, item_view, items_view, pieces}
use Rattle.byteorder.specs.Endian.{little_bytes}

-- ---- the front of a row and the rest

-- elements are the first of them and the rest
abbrev pub with_element : Element → Elements → Elements
with_element e rest = element e.tag e.vr e.content rest

-- items are the first of them and the rest
abbrev pub with_item : Item → Items → Items
with_item p rest = item p.length p.set rest

-- their bytes are the bytes of the first and then of the rest
pub element_first : (e : Element) (rest : Elements) → elements_text (with_element e rest) ≡ element_text e
    ++ elements_text rest
element_first e rest = sym (append_assoc (tag_text e.tag) (content_text e.vr e.content) (elements_text rest))

pub part_first : (p : Item) (rest : Items) → items_text (with_item p rest) ≡ item_text p ++ items_text rest
part_first p rest =
    ap (λ (text : List ℕ). item_tag_text ++ (little_bytes 4 (length_of p.length (elements_text p.set)) ++ text))
    (refl {a = closed p.length item_end_text (elements_text p.set) ++ items_text rest})

-- items are valid where the first is and the rest are
pub parts_valid : (syntax : Syntax) (levels : ℕ) (p : Item) (rest : Items) → IsItem syntax levels p
    → AreItems syntax levels rest → AreItems syntax levels (with_item p rest)
parts_valid syntax zero p rest valid others = valid
parts_valid syntax (suc levels) p rest valid others = (valid.0, valid.1, others)

pub part_valid : (syntax : Syntax) (levels : ℕ) (p : Item) (rest : Items) → AreItems syntax levels (with_item p rest)
    → IsItem syntax levels p × AreItems syntax levels rest
part_valid syntax zero p rest valid = absurd valid
part_valid syntax (suc levels) p rest valid = ((valid.0, valid.1), valid.2)

-- ---- the elements of a set

-- of all the elements the first are counted, with `total` bytes, and the tags of the rest are to be `low` or above
pub record CountsElements (syntax : Syntax) (levels : ℕ) (all rest : Elements) (low total : ℕ) : Type 0 where
  pub to : AreElements syntax levels low rest → AreElements syntax levels 0 all
  pub back : AreElements syntax levels 0 all → AreElements syntax levels low rest
  pub sum : length (elements_text all) ≡ total + length (elements_text rest)

-- none is counted at first
pub counts_none : (syntax : Syntax) (levels : ℕ) (all : Elements) → CountsElements syntax levels all all 0 0
counts_none syntax levels all = record { to = λ v. v; back = λ v. v; sum = omega arith }

-- one more is
pub counts_element : (syntax : Syntax) (levels : ℕ) (all rest : Elements) (low total : ℕ) (e : Element)
    → CountsElements syntax levels all (with_element e rest) low total → IsElement syntax levels low e
    → CountsElements syntax levels all rest (number_of e.tag + 1) (total + length (element_text e))
counts_element syntax levels all rest low total e counts valid = record {
  to = λ others. counts.to (valid.0, valid.1, valid.2, valid.3, valid.4, valid.5, others);
  back = λ v. (counts.back v).6;
  sum =
      let one : length (elements_text (with_element e rest)) ≡ length (element_text e) + length (elements_text rest) =
      ap length (element_first e rest) ∙ length-append (element_text e) (elements_text rest) in
      omega (arith, counts.sum, one);
}

-- the whole has no size where the next has none
pub counts_no_element : (syntax : Syntax) (levels : ℕ) (all rest : Elements) (low total : ℕ) (e : Element)
    → CountsElements syntax levels all (with_element e rest) low total
    → ¬ (IsElement syntax levels low e × (length (element_text e) < 2 ^ 64))
    → ¬ (AreElements syntax levels 0 all × (length (elements_text all) < 2 ^ 64))
counts_no_element syntax levels all rest low total e counts none whole =
    let valid = counts.back whole.0 in
    let one : length (elements_text (with_element e rest)) ≡ length (element_text e) + length (elements_text rest) =
    ap length (element_first e rest) ∙ length-append (element_text e) (elements_text rest) in
    none ((valid.0, valid.1, valid.2, valid.3, valid.4, valid.5), omega (arith, counts.sum, one, whole.1))

-- nor where the sum is too large
pub counts_too_many : (syntax : Syntax) (levels : ℕ) (all rest : Elements) (low total : ℕ) (e : Element)
    → CountsElements syntax levels all (with_element e rest) low total → ¬ (total + length (element_text e) < 2 ^ 64)
    → ¬ (AreElements syntax levels 0 all × (length (elements_text all) < 2 ^ 64))
counts_too_many syntax levels all rest low total e counts large whole =
    let one : length (elements_text (with_element e rest)) ≡ length (element_text e) + length (elements_text rest) =
    ap length (element_first e rest) ∙ length-append (element_text e) (elements_text rest) in
    large (omega (arith, counts.sum, one, whole.1))

-- ---- the items of a sequence

-- of all the items the first are counted, with `total` bytes
pub record CountsItems (syntax : Syntax) (levels : ℕ) (all rest : Items) (total : ℕ) : Type 0 where
  pub to : AreItems syntax levels rest → AreItems syntax levels all
  pub back : AreItems syntax levels all → AreItems syntax levels rest
  pub sum : length (items_text all) ≡ total + length (items_text rest)

pub counts_no_items : (syntax : Syntax) (levels : ℕ) (all : Items) → CountsItems syntax levels all all 0
counts_no_items syntax levels all = record { to = λ v. v; back = λ v. v; sum = omega arith }

pub counts_item : (syntax : Syntax) (levels : ℕ) (all rest : Items) (total : ℕ) (p : Item)
    → CountsItems syntax levels all (with_item p rest) total → IsItem syntax levels p
    → CountsItems syntax levels all rest (total + length (item_text p))
counts_item syntax levels all rest total p counts valid = record {
  to = λ others. counts.to (parts_valid syntax levels p rest valid others);
  back = λ v. (part_valid syntax levels p rest (counts.back v)).1;
  sum =
      let one : length (items_text (with_item p rest)) ≡ length (item_text p) + length (items_text rest) =
      ap length (part_first p rest) ∙ length-append (item_text p) (items_text rest) in
      omega (arith, counts.sum, one);
}

pub counts_no_item : (syntax : Syntax) (levels : ℕ) (all rest : Items) (total : ℕ) (p : Item)
    → CountsItems syntax levels all (with_item p rest) total
    → ¬ (IsItem syntax levels p × (length (item_text p) < 2 ^ 64))
    → ¬ (AreItems syntax levels all × (length (items_text all) < 2 ^ 64))
counts_no_item syntax levels all rest total p counts none whole =
    let valid = part_valid syntax levels p rest (counts.back whole.0) in
    let one : length (items_text (with_item p rest)) ≡ length (item_text p) + length (items_text rest) =
    ap length (part_first p rest) ∙ length-append (item_text p) (items_text rest) in
    none (valid.0, omega (arith, counts.sum, one, whole.1))

pub counts_too_many_items : (syntax : Syntax) (levels : ℕ) (all rest : Items) (total : ℕ) (p : Item)
    → CountsItems syntax levels all (with_item p rest) total → ¬ (total + length (item_text p) < 2 ^ 64)
    → ¬ (AreItems syntax levels all × (length (items_text all) < 2 ^ 64))
counts_too_many_items syntax levels all rest total p counts large whole =
    let one : length (items_text (with_item p rest)) ≡ length (item_text p) + length (items_text rest) =
    ap length (part_first p rest) ∙ length-append (item_text p) (items_text rest) in
    large (omega (arith, counts.sum, one, whole.1))

-- ---- at a place of a list

-- what is left of a list of elements begins with the next
pub elements_view-drop : (es : List ElementValue) (i : ℕ) (e : ElementValue) → i < length es → e ≡ get_or es i e
    → elements_view (drop i es) ≡ with_element (element_view e) (elements_view (drop (i + 1) es))
elements_view-drop es i e within is = at_drop_more elements_view es i e within
    ∙ ap (λ (x : ElementValue). elements_view (x ∷ drop (i + 1) es)) (sym is)

-- and with nothing at the end
pub elements_view-end : (es : List ElementValue) (i : ℕ) → length es ≤ i → elements_view (drop i es) ≡ no_elements
elements_view-end es i past = at_drop_all elements_view es i past

pub items_view-drop : (parts : List ItemValue) (i : ℕ) (p : ItemValue) → i < length parts → p ≡ get_or parts i p
    → items_view (drop i parts) ≡ with_item (item_view p) (items_view (drop (i + 1) parts))
items_view-drop parts i p within is = at_drop_more items_view parts i p within
    ∙ ap (λ (x : ItemValue). items_view (x ∷ drop (i + 1) parts)) (sym is)

pub items_view-end : (parts : List ItemValue) (i : ℕ) → length parts ≤ i → items_view (drop i parts) ≡ no_items
items_view-end parts i past = at_drop_all items_view parts i past

-- ---- fragments

-- of all the fragments the first are counted, with `total` bytes
pub record CountsFragments (all rest : List (List ℕ)) (total : ℕ) : Type 0 where
  pub to : AreFragments rest → AreFragments all
  pub back : AreFragments all → AreFragments rest
  pub sum : length (fragments_text all) ≡ total + length (fragments_text rest)

pub counts_no_fragments : (all : List (List ℕ)) → CountsFragments all all 0
counts_no_fragments all = record { to = λ v. v; back = λ v. v; sum = omega arith }

pub counts_fragment : (all rest : List (List ℕ)) (total : ℕ) (f : List ℕ) → CountsFragments all (f ∷ rest) total
    → (length f % 2 ≡ 0) × (length f < undefined_length)
    → CountsFragments all rest (total + length (fragment_text f))
counts_fragment all rest total f counts valid = record {
  to = λ others. counts.to (valid.0, valid.1, others);
  back = λ v. (counts.back v).2;
  sum = omega (arith, counts.sum, length-append (fragment_text f) (fragments_text rest));
}

pub counts_no_fragment : (all rest : List (List ℕ)) (total : ℕ) (f : List ℕ) → CountsFragments all (f ∷ rest) total
    → ¬ ((length f % 2 ≡ 0) × (length f < undefined_length))
    → ¬ (AreFragments all × (length (fragments_text all) < 2 ^ 64))
counts_no_fragment all rest total f counts none whole =
    let valid = counts.back whole.0 in
    none (valid.0, valid.1)

pub counts_too_many_fragments : (all rest : List (List ℕ)) (total : ℕ) (f : List ℕ)
    → CountsFragments all (f ∷ rest) total → ¬ (total + length (fragment_text f) < 2 ^ 64)
    → ¬ (AreFragments all × (length (fragments_text all) < 2 ^ 64))
counts_too_many_fragments all rest total f counts large whole =
    large (omega (arith, counts.sum, length-append (fragment_text f) (fragments_text rest), whole.1))

pub pieces-drop : (fs : List (Bor (List ℕ))) (i : ℕ) (f : Bor (List ℕ)) → i < length fs → f ≡ get_or fs i f
    → pieces (drop i fs) ≡ f.now ∷ pieces (drop (i + 1) fs)
pieces-drop fs i f within is = at_drop_more pieces fs i f within
    ∙ ap (λ (x : Bor (List ℕ)). pieces (x ∷ drop (i + 1) fs)) (sym is)

pub pieces-end : (fs : List (Bor (List ℕ))) (i : ℕ) → length fs ≤ i → pieces (drop i fs) ≡ []
pieces-end fs i past = at_drop_all pieces fs i past
