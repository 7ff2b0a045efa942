-- The text of the elements that the rows of a table give a record.
use Rattle.std.proofs.Common.{◌≡◌, ℕ, ◌+◌, ◌<◌, List, [], ◌∷◌, ◌++◌, length, drop, get_or, Option, Some, None}
use Rattle.std.specs.List.{AllByRecursion}
use Rattle.std.specs.Prelude.{IfSome}
use Rattle.std.proofs.Common.{refl, sym, ap, subst, ◌∙◌, append_assoc, append-nil}
use Rattle.std.proofs.lemmas.List.{at_drop_more}
use Rattle.dd_version.specs.declared.parts.Parts.{Parts}
use Rattle.dd_encoding.specs.Elements.{Element, elements_of}
use Rattle.dd_set.specs.Single.{element_text}
use Rattle.dd_encoding.specs.Spelling.{elements_text}
use Rattle.dd_set.proofs.Counting.{element_first}
use Rattle.dd_records.specs.declared.cell.Cell.{Cell}
use Rattle.dd_records.specs.declared.record.PlanRecord.{PlanRecord}
use Rattle.dd_records.specs.declared.table.Row.{Row}
use Rattle.dd_records.specs.Cells.{IsShort, IsShortElement, cell_element, cell_elements, even_value, row_elements}
use Rattle.dd_records.specs.Cells.{table_elements}

-- the text of elements in a row
abbrev pub text_of : List Element → List ℕ
text_of entries = elements_text (elements_of entries)

pub text-append : (es fs : List Element) → text_of (es ++ fs) ≡ text_of es ++ text_of fs
text-append [] fs = refl
text-append (e ∷ es) fs =
    element_first e (elements_of (es ++ fs)) ∙ ap (λ (t : List ℕ). element_text e ++ t) (text-append es fs)
    ∙ sym (append_assoc (element_text e) (text_of es) (text_of fs))
    ∙ ap (λ (t : List ℕ). t ++ text_of fs) (sym (element_first e (elements_of es)))

pub text-one : (e : Element) → text_of (e ∷ []) ≡ element_text e
text-one e = element_first e (elements_of []) ∙ append-nil (element_text e)

-- the elements that rows give this record of these parts, and their text
abbrev pub row_of : PlanRecord → Parts → Row → List Element
row_of planned parts row = row_elements row planned.level planned.next planned.lower planned.file parts

abbrev pub rows_text : PlanRecord → Parts → List Row → List ℕ
rows_text planned parts rows =
    text_of (table_elements rows planned.level planned.next planned.lower planned.file parts)

-- the text of the rows that are left begins with the text of the next
row_at : (planned : PlanRecord) (parts : Parts) (rows : List Row) (i : ℕ) (d : Row) → i < length rows
    → rows_text planned parts (drop i rows)
    ≡ text_of (row_of planned parts (get_or rows i d)) ++ rows_text planned parts (drop (i + 1) rows)
row_at planned parts rows i d within =
    at_drop_more (rows_text planned parts) rows i d within
    ∙ text-append (row_of planned parts (get_or rows i d))
    (table_elements (drop (i + 1) rows) planned.level planned.next planned.lower planned.file parts)

-- which is the text of its element, where it has one
pub row_sends : (planned : PlanRecord) (parts : Parts) (rows : List Row) (i : ℕ) (d : Row) (given : Option Cell)
    (cell : Cell) → i < length rows → cell_elements given ≡ row_of planned parts (get_or rows i d) → given ≡ Some cell
    → rows_text planned parts (drop i rows)
    ≡ element_text (cell_element cell) ++ rows_text planned parts (drop (i + 1) rows)
row_sends planned parts rows i d given cell within is some =
    row_at planned parts rows i d within
    ∙ ap (λ (es : List Element). text_of es ++ rows_text planned parts (drop (i + 1) rows))
    (sym is ∙ ap cell_elements some)
    ∙ ap (λ (t : List ℕ). t ++ rows_text planned parts (drop (i + 1) rows)) (text-one (cell_element cell))

-- and else is empty
pub row_skips : (planned : PlanRecord) (parts : Parts) (rows : List Row) (i : ℕ) (d : Row) (given : Option Cell)
    → i < length rows → cell_elements given ≡ row_of planned parts (get_or rows i d) → given ≡ None
    → rows_text planned parts (drop i rows) ≡ rows_text planned parts (drop (i + 1) rows)
row_skips planned parts rows i d given within is none =
    row_at planned parts rows i d within
    ∙ ap (λ (es : List Element). text_of es ++ rows_text planned parts (drop (i + 1) rows))
    (sym is ∙ ap cell_elements none)

-- ---- whether all of them are short

abbrev pub AreShort : PlanRecord → Parts → List Row → Type 0
AreShort planned parts rows =
    AllByRecursion IsShortElement (table_elements rows planned.level planned.next planned.lower planned.file parts)

rest_is : (planned : PlanRecord) (parts : Parts) (rows : List Row) (i : ℕ) (d : Row) (given : Option Cell)
    → i < length rows → cell_elements given ≡ row_of planned parts (get_or rows i d)
    → table_elements (drop i rows) planned.level planned.next planned.lower planned.file parts
    ≡ cell_elements given
    ++ table_elements (drop (i + 1) rows) planned.level planned.next planned.lower planned.file parts
rest_is planned parts rows i d given within is =
    at_drop_more (λ (rs : List Row). table_elements rs planned.level planned.next planned.lower planned.file parts)
    rows i d within
    ∙ ap (λ (es : List Element). es
    ++ table_elements (drop (i + 1) rows) planned.level planned.next planned.lower planned.file parts) (sym is)

-- the elements of the rows that are left are short, where the element of the next and the others are
pub row_short : (planned : PlanRecord) (parts : Parts) (rows : List Row) (i : ℕ) (d : Row) (given : Option Cell)
    → i < length rows → cell_elements given ≡ row_of planned parts (get_or rows i d)
    → IfSome given (λ cell. IsShort (even_value cell.value)) → AreShort planned parts (drop (i + 1) rows)
    → AreShort planned parts (drop i rows)
row_short planned parts rows i d None within is short rest =
    subst (AllByRecursion IsShortElement) (sym (rest_is planned parts rows i d None within is)) rest
row_short planned parts rows i d (Some cell) within is short rest =
    subst (AllByRecursion IsShortElement) (sym (rest_is planned parts rows i d (Some cell) within is)) (short, rest)
