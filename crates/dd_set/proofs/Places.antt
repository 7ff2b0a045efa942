-- The places of items as sums of lengths, and how they are found from left to right.
use Rattle.std.proofs.Common.{◌≡◌, ℕ, suc, ◌+◌, ◌<◌, ◌≤◌, ◌^◌, Bool, true, false, List, [], ◌∷◌, ◌++◌, length, drop}
use Rattle.std.proofs.Common.{get_or, Option, None, Some, if◌then◌else◌, refl, sym, ap, subst, ◌∙◌, arith, append_assoc}
use Rattle.std.proofs.Common.{length-append}
use Rattle.dd_elem.specs.declared.tag.Tag.{Tag}
use Rattle.dd_elem.specs.declared.vr.Vr.{Vr}
use Rattle.dd_elem.specs.Tag.{number_of}
use Rattle.dd_set.specs.declared.set.Element.{Element as ElementValue}
use Rattle.dd_set.specs.declared.set.Item.{Item as ItemValue}
use Rattle.dd_encoding.specs.declared.syntax.Syntax.{Syntax}
use Rattle.dd_encoding.specs.Elements.{Elements, no_elements, element, Content, bytes, items, fragments, Items}
use Rattle.dd_encoding.specs.Elements.{no_items, item, Element, Item}
use Rattle.dd_grammar.specs.Lists.{same_tag}
use Rattle.dd_set.specs.Single.{element_text, item_text, IsElement, IsItem}
use Rattle.dd_encoding.specs.Spelling.{elements_text, items_text, header_text, length_of, AreElements, AreItems}
use Rattle.dd_set.specs.Starts.{places_in, content_places, item_places}
use Rattle.dd_set.specs.Views.{element_view, elements_view, value_view, item_view, items_view}
use Rattle.dd_set.proofs.Counting.{with_element, with_item, element_first, part_first, part_valid, elements_view-drop}
use Rattle.dd_set.proofs.Counting.{elements_view-end}
use Rattle.dd_set.proofs.Seen.{element_view-is}

-- the places of items after `at` bytes
abbrev pub starts_from : ℕ → Items → List ℕ
starts_from at no_items = []
starts_from at (item form set rest) = at ∷ starts_from (at + length (item_text (record { length = form; set = set })))
    rest

abbrev pub content_starts : ℕ → Tag → Option Vr → Content → Option (List ℕ)
content_starts at tag vr (bytes v) = None
content_starts at tag vr (fragments fs) = None
content_starts at tag vr (items form parts) = Some (starts_from
    (at + length (header_text tag vr (length_of form (items_text parts)))) parts)

abbrev pub starts_in : Tag → ℕ → Elements → Option (List ℕ)
starts_in wanted at no_elements = None
starts_in wanted at (element tag vr content rest) =
    if same_tag tag wanted then content_starts at tag vr content
    else starts_in wanted (at + length (element_text (record { tag = tag; vr = vr; content = content }))) rest

-- they are the lengths of what stands before
pub item_places-sums : (front : List ℕ) (parts : Items) → item_places front parts ≡ starts_from (length front) parts
item_places-sums front no_items = refl
item_places-sums front (item form set rest) =
    let text = item_text (record { length = form; set = set }) in
    ap (λ (starts : List ℕ). length front ∷ starts) (item_places-sums (front ++ text) rest
    ∙ ap (λ (n : ℕ). starts_from n rest) (length-append front text))

pub content_places-sums : (front : List ℕ) (tag : Tag) (vr : Option Vr) (content : Content)
    → content_places front tag vr content ≡ content_starts (length front) tag vr content
content_places-sums front tag vr (bytes v) = refl
content_places-sums front tag vr (fragments fs) = refl
content_places-sums front tag vr (items form parts) =
    let text = header_text tag vr (length_of form (items_text parts)) in
    ap (λ (starts : List ℕ). Some starts) (item_places-sums (front ++ text) parts
    ∙ ap (λ (n : ℕ). starts_from n parts) (length-append front text))

pub places_in-sums : (wanted : Tag) (front : List ℕ) (es : Elements)
    → places_in wanted front es ≡ starts_in wanted (length front) es
places_in-sums wanted front no_elements = refl
places_in-sums wanted front (element tag vr content rest) =
    let text = element_text (record { tag = tag; vr = vr; content = content }) in
    rw (content_places-sums front tag vr content, places_in-sums wanted (front ++ text) rest, length-append front text)
    refl

-- as many as there are items
pub item_places-length : (front : List ℕ) (xs : List ItemValue) → length (item_places front (items_view xs)) ≡ length xs
item_places-length front [] = refl
item_places-length front (x ∷ xs) = ap suc (item_places-length (front ++ item_text (item_view x)) xs)

-- ---- items from left to right

-- The items of a sequence are `all`, of which `rest` begin at the place `at`. The places of those before are `starts`.
pub record Starting (syntax : Syntax) (levels first : ℕ) (all : Items) (starts : List ℕ) (at : ℕ) (rest : Items)
    : Type 0 where
  pub valid : AreItems syntax levels rest
  pub fits : at + length (items_text rest) < 2 ^ 64
  pub so_far : starts ++ starts_from at rest ≡ starts_from first all

-- one more
pub starting_item : (syntax : Syntax) (levels first : ℕ) (all : Items) (starts : List ℕ) (at : ℕ) (p : Item)
    (rest : Items) → Starting syntax levels first all starts at (with_item p rest)
    → Starting syntax levels first all (starts ++ at ∷ []) (at + length (item_text p)) rest
starting_item syntax levels first all starts at p rest so = record {
  valid = (part_valid syntax levels p rest so.valid).1;
  fits =
      let one : length (items_text (with_item p rest)) ≡ length (item_text p) + length (items_text rest) =
      ap length (part_first p rest) ∙ length-append (item_text p) (items_text rest) in
      omega (arith, one, so.fits);
  so_far = append_assoc starts (at ∷ []) (starts_from (at + length (item_text p)) rest) ∙ so.so_far;
}

-- the next item has a size
pub starting_sized : (syntax : Syntax) (levels first : ℕ) (all : Items) (starts : List ℕ) (at : ℕ) (p : Item)
    (rest : Items) → Starting syntax levels first all starts at (with_item p rest) → IsItem syntax levels p
    × (at + length (item_text p) < 2 ^ 64)
starting_sized syntax levels first all starts at p rest so =
    let one : length (items_text (with_item p rest)) ≡ length (item_text p) + length (items_text rest) =
    ap length (part_first p rest) ∙ length-append (item_text p) (items_text rest) in
    ((part_valid syntax levels p rest so.valid).0, omega (arith, one, so.fits))

-- ---- elements from left to right

-- The elements of a set are `all`, of which `rest` begin at the place `at`, and those before have another tag.
pub record Seeking (syntax : Syntax) (levels : ℕ) (wanted : Tag) (first : ℕ) (all : Elements) (at : ℕ) (rest : Elements)
    : Type 0 where
  pub low : ℕ
  pub valid : AreElements syntax levels low rest
  pub fits : at + length (elements_text rest) < 2 ^ 64
  pub so_far : starts_in wanted at rest ≡ starts_in wanted first all

-- one more
pub seeking_element : (syntax : Syntax) (levels : ℕ) (wanted : Tag) (first : ℕ) (all : Elements) (at : ℕ) (e : Element)
    (rest : Elements) → Seeking syntax levels wanted first all at (with_element e rest) → same_tag e.tag wanted ≡ false
    → Seeking syntax levels wanted first all (at + length (element_text e)) rest
seeking_element syntax levels wanted first all at e rest so other = record {
  low = number_of e.tag + 1;
  valid = so.valid.6;
  fits =
      let one : length (elements_text (with_element e rest)) ≡ length (element_text e) + length (elements_text rest) =
      ap length (element_first e rest) ∙ length-append (element_text e) (elements_text rest) in
      omega (arith, one, so.fits);
  so_far =
      let test = λ (b : Bool). if b then content_starts at e.tag e.vr e.content else starts_in wanted
      (at + length (element_text e)) rest in
      sym (ap test other) ∙ so.so_far;
}

-- the next element has a size
pub seeking_sized : (syntax : Syntax) (levels : ℕ) (wanted : Tag) (first : ℕ) (all : Elements) (at : ℕ) (e : Element)
    (rest : Elements) → Seeking syntax levels wanted first all at (with_element e rest) → IsElement syntax levels 0 e
    × (at + length (element_text e) < 2 ^ 64)
seeking_sized syntax levels wanted first all at e rest so =
    let one : length (elements_text (with_element e rest)) ≡ length (element_text e) + length (elements_text rest) =
    ap length (element_first e rest) ∙ length-append (element_text e) (elements_text rest) in
    ((omega arith, so.valid.1, so.valid.2, so.valid.3, so.valid.4, so.valid.5), omega (arith, one, so.fits))

-- it is the one
pub seeking_found : (syntax : Syntax) (levels : ℕ) (wanted : Tag) (first : ℕ) (all : Elements) (at : ℕ) (e : Element)
    (rest : Elements) → Seeking syntax levels wanted first all at (with_element e rest) → same_tag e.tag wanted ≡ true
    → content_starts at e.tag e.vr e.content ≡ starts_in wanted first all
seeking_found syntax levels wanted first all at e rest so same =
    let test = λ (b : Bool). if b then content_starts at e.tag e.vr e.content else starts_in wanted
    (at + length (element_text e)) rest in
    sym (ap test same) ∙ so.so_far

-- ---- at a place of a list

-- the next element of a list is not the one
pub seek_more : (syntax : Syntax) (levels : ℕ) (wanted : Tag) (first : ℕ) (all : Elements) (at : ℕ)
    (es : List ElementValue)
    (i : ℕ) (e : ElementValue) (size : ℕ) → i < length es → e ≡ get_or es i e
    → Seeking syntax levels wanted first all at (elements_view (drop i es)) → same_tag e.tag wanted ≡ false
    → size ≡ length (element_text (element_view e)) → Seeking syntax levels wanted first all (at + size)
    (elements_view (drop (i + 1) es))
seek_more syntax levels wanted first all at es i e size within is so other size_is =
    let rest = elements_view (drop (i + 1) es) in
    let here : Seeking syntax levels wanted first all at (with_element (element_view e) rest) =
    subst (Seeking syntax levels wanted first all at) (elements_view-drop es i e within is) so in
    let tag : same_tag (element_view e).tag wanted ≡ false =
    ap (λ (x : Element). same_tag x.tag wanted) (element_view-is e) ∙ other in
    subst (λ (n : ℕ). Seeking syntax levels wanted first all (at + n) rest) (sym size_is)
    (seeking_element syntax levels wanted first all at (element_view e) rest here tag)

-- the next element is the one: its places are the set's, with any bytes of the right lengths before them
pub seek_found : (syntax : Syntax) (levels : ℕ) (wanted : Tag) (first : ℕ) (all : Elements) (at : ℕ)
    (es : List ElementValue)
    (i : ℕ) (e : ElementValue) (before front : List ℕ) → i < length es → e ≡ get_or es i e
    → Seeking syntax levels wanted first all at (elements_view (drop i es)) → same_tag e.tag wanted ≡ true
    → length before ≡ at → length front ≡ first → content_places before e.tag e.vr (value_view e.value) ≡ places_in
    wanted front all
seek_found syntax levels wanted first all at es i e before front within is so same before_is front_is =
    let rest = elements_view (drop (i + 1) es) in
    let here : Seeking syntax levels wanted first all at (with_element (element_view e) rest) =
    subst (Seeking syntax levels wanted first all at) (elements_view-drop es i e within is) so in
    let tag : same_tag (element_view e).tag wanted ≡ true = ap (λ (x : Element). same_tag x.tag wanted)
    (element_view-is e) ∙ same in
    content_places-sums before e.tag e.vr (value_view e.value)
    ∙ ap (λ (n : ℕ). content_starts n e.tag e.vr (value_view e.value)) before_is
    ∙ ap (λ (x : Element). content_starts at x.tag x.vr x.content) (sym (element_view-is e))
    ∙ seeking_found syntax levels wanted first all at (element_view e) rest here tag
    ∙ ap (λ (n : ℕ). starts_in wanted n all) (sym front_is) ∙ sym (places_in-sums wanted front all)

-- no element was the one
pub seek_none : (syntax : Syntax) (levels : ℕ) (wanted : Tag) (first : ℕ) (all : Elements) (at : ℕ)
    (es : List ElementValue)
    (i : ℕ) (front : List ℕ) → length es ≤ i
    → Seeking syntax levels wanted first all at (elements_view (drop i es)) → length front ≡ first
    → None ≡ places_in wanted front all
seek_none syntax levels wanted first all at es i front past so front_is =
    ap (λ (rest : Elements). starts_in wanted at rest) (sym (elements_view-end es i past)) ∙ so.so_far
    ∙ ap (λ (n : ℕ). starts_in wanted n all) (sym front_is) ∙ sym (places_in-sums wanted front all)
