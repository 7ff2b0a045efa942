-- Elements that were read are those of cells where the first are and the rest are.
use Rattle.std.proofs.Common.{◌≡◌, ◌≢◌, ℕ, suc, ◌+◌, ◌<◌, ◌≤◌, List, [], ◌∷◌, ◌++◌, length, map, drop, take, get_or}
use Rattle.std.proofs.Common.{sym, refl, ap, ap₂, ◌∙◌, take-append-drop}
use Rattle.std.proofs.lemmas.List.{at_drop_more, at_drop_all, length-map}
use Rattle.dd_encoding.specs.Elements.{Element, Elements, element, elements_of, no_elements}
use Rattle.dd_set.specs.declared.set.Element.{Element as ElementValue}
use Rattle.dd_set.specs.Views.{element_view, elements_view}
use Rattle.dd_set.proofs.Counting.{elements_view-drop, elements_view-end, with_element}
use Rattle.dd_staged.specs.declared.cell.Cell.{Cell}
use Rattle.dd_staged.specs.Cells.{cell_element}

abbrev pub cells_view : List Cell → Elements
cells_view cells = elements_of (map cell_element cells)

-- all elements are those of the cells exactly where the rest are
pub record AgreeUpTo (es : List ElementValue) (cells : List Cell) (i : ℕ) : Type 0 where
  pub to : elements_view (drop i es) ≡ cells_view (drop i cells) → elements_view es ≡ cells_view cells
  pub back : elements_view es ≡ cells_view cells → elements_view (drop i es) ≡ cells_view (drop i cells)

-- the first element, or another in an empty list, and the rest
abbrev first_of : Element → Elements → Element
first_of other no_elements = other
first_of other (element t vr c rest) = record { tag = t; vr = vr; content = c }

abbrev rest_of : Elements → Elements
rest_of no_elements = no_elements
rest_of (element t vr c rest) = rest

cells_at : (cells : List Cell) (i : ℕ) (cell : Cell) → i < length cells → cell ≡ get_or cells i cell
    → cells_view (drop i cells) ≡ with_element (cell_element cell) (cells_view (drop (i + 1) cells))
cells_at cells i cell within is =
    at_drop_more cells_view cells i cell within
    ∙ ap (λ (c : Cell). with_element (cell_element c) (cells_view (drop (i + 1) cells))) (sym is)

pub agree_none : (es : List ElementValue) (cells : List Cell) → AgreeUpTo es cells 0
agree_none es cells = record { to = λ e. e; back = λ e. e }

pub agree_more : (es : List ElementValue) (cells : List Cell) (i : ℕ) (e : ElementValue) (cell : Cell)
    → i < length es → e ≡ get_or es i e → i < length cells → cell ≡ get_or cells i cell
    → element_view e ≡ cell_element cell → AgreeUpTo es cells i → AgreeUpTo es cells (i + 1)
agree_more es cells i e cell e_in e_is cell_in cell_is same so_far =
    let front = elements_view-drop es i e e_in e_is in
    let other = cells_at cells i cell cell_in cell_is in
    record {
      to = λ rest. so_far.to (front ∙ ap₂ with_element same rest ∙ sym other);
      back = λ all. ap rest_of (sym front ∙ so_far.back all ∙ other);
    }

pub agree_not : (es : List ElementValue) (cells : List Cell) (i : ℕ) (e : ElementValue) (cell : Cell)
    → i < length es → e ≡ get_or es i e → i < length cells → cell ≡ get_or cells i cell
    → element_view e ≢ cell_element cell → AgreeUpTo es cells i → elements_view es ≢ cells_view cells
agree_not es cells i e cell e_in e_is cell_in cell_is differ so_far all =
    let front = elements_view-drop es i e e_in e_is in
    let other = cells_at cells i cell cell_in cell_is in
    differ (ap (first_of (cell_element cell)) (sym front ∙ so_far.back all ∙ other))

pub agree_all : (es : List ElementValue) (cells : List Cell) (i : ℕ) → length es ≤ i → length cells ≤ i
    → AgreeUpTo es cells i → elements_view es ≡ cells_view cells
agree_all es cells i past past_cells so_far =
    so_far.to (elements_view-end es i past ∙ sym (at_drop_all cells_view cells i past_cells))

-- as many elements as cells
abbrev count_of : Elements → ℕ
count_of no_elements = 0
count_of (element t vr c rest) = suc (count_of rest)

count_elements : (es : List Element) → count_of (elements_of es) ≡ length es
count_elements [] = refl
count_elements (e ∷ es) = ap suc (count_elements es)

pub same_count : (es : List ElementValue) (cells : List Cell) → elements_view es ≡ cells_view cells
    → length es ≡ length cells
same_count es cells same =
    sym (length-map es element_view) ∙ sym (count_elements (map element_view es)) ∙ ap count_of same
    ∙ count_elements (map cell_element cells) ∙ length-map cells cell_element

-- ---- two texts, one after the other

take_front : (v rest : List ℕ) → take (length v) (v ++ rest) ≡ v
take_front [] rest = refl
take_front (a ∷ v) rest = ap (λ (w : List ℕ). a ∷ w) (take_front v rest)

drop_front : (v rest : List ℕ) → drop (length v) (v ++ rest) ≡ rest
drop_front [] rest = refl
drop_front (a ∷ v) rest = drop_front v rest

pub joined_splits : (bytes front rest : List ℕ) → bytes ≡ front ++ rest
    → (take (length front) bytes ≡ front) × (drop (length front) bytes ≡ rest)
joined_splits bytes front rest is = (
  ap (λ (v : List ℕ). take (length front) v) is ∙ take_front front rest,
  ap (λ (v : List ℕ). drop (length front) v) is ∙ drop_front front rest,
)

pub splits_joined : (bytes front rest : List ℕ) → take (length front) bytes ≡ front → drop (length front) bytes ≡ rest
    → bytes ≡ front ++ rest
splits_joined bytes front rest start end =
    sym (take-append-drop (length front) bytes) ∙ ap₂ (λ (a b : List ℕ). a ++ b) start end
