-- The text of items as the pieces that are sent.
use Rattle.std.proofs.Common.{◌≡◌, ℕ, suc, ◌+◌, ◌<◌, ◌≤◌, ◌^◌, List, [], ◌∷◌, ◌++◌, length, map, drop, get_or}
use Rattle.std.proofs.Common.{refl, sym, ap, ◌∙◌, arith, append_assoc, append-nil, length-append}
use Rattle.std.proofs.lemmas.List.{at_drop_more}
use Rattle.byteorder.specs.Endian.{little_bytes}
use Rattle.dd_encoding.specs.Elements.{Element, elements_of}
use Rattle.dd_encoding.specs.Spelling.{elements_text, item_tag_text, items_text, sequence_end_text}
use Rattle.dd_set.specs.Single.{item_text}
use Rattle.dd_set.proofs.Counting.{part_first}
use Rattle.dd_staged.specs.declared.cell.Cell.{Cell}
use Rattle.dd_staged.specs.declared.staged.Staged.{Staged}
use Rattle.dd_staged.specs.Cells.{cell_element, cells_text}
use Rattle.dd_staged.specs.Sources.{source_view}
use Rattle.dd_staged.specs.Stages.{count_of, item_with, list_text, opening_text, source_elements, source_item}
use Rattle.dd_staged.specs.Stages.{source_items}
use Rattle.dd_staged.proofs.Digested.{list_length}

-- an item takes eight bytes more than its elements
pub item_length : (es : List Element) → length (item_text (item_with es)) ≡ 8 + length (elements_text (elements_of es))
item_length es =
    let text = elements_text (elements_of es) in
    length-append item_tag_text (little_bytes 4 (length text) ++ text)
    ∙ ap (λ (n : ℕ). 4 + n) (length-append (little_bytes 4 (length text)) text) ∙ (omega arith)

-- it is sent as its header and its elements
pub item_parts : (cells : List Cell) (header : List ℕ) (count : ℕ) → header ≡ item_tag_text ++ little_bytes 4 count
    → count ≡ length (cells_text cells)
    → header ++ cells_text cells ≡ item_text (item_with (map cell_element cells))
item_parts cells header count is count_is =
    ap (λ (h : List ℕ). h ++ cells_text cells) (is ∙ ap (λ (n : ℕ). item_tag_text ++ little_bytes 4 n) count_is)
    ∙ append_assoc item_tag_text (little_bytes 4 (length (cells_text cells))) (cells_text cells)

-- the text of a source, and of sources
abbrev pub source_text : Staged → List ℕ
source_text staged = item_text (source_item (source_view staged))

abbrev pub sources_text : List Staged → List ℕ
sources_text list = items_text (source_items (map source_view list))

-- the text of what is left of a list begins with the text of the next
pub source_at : (list : List Staged) (i : ℕ) (staged : Staged) → i < length list → staged ≡ get_or list i staged
    → sources_text (drop i list) ≡ source_text staged ++ sources_text (drop (i + 1) list)
source_at list i staged within is =
    at_drop_more sources_text list i staged within
    ∙ part_first (source_item (source_view (get_or list i staged)))
    (source_items (map source_view (drop (i + 1) list)))
    ∙ ap (λ (s : Staged). source_text s ++ sources_text (drop (i + 1) list)) (sym is)

pub source_length_at : (list : List Staged) (i : ℕ) (staged : Staged) → i < length list
    → staged ≡ get_or list i staged
    → length (sources_text (drop i list)) ≡ length (source_text staged) + length (sources_text (drop (i + 1) list))
source_length_at list i staged within is =
    ap length (source_at list i staged within is)
    ∙ length-append (source_text staged) (sources_text (drop (i + 1) list))

-- each source takes a byte at least
count_within : (list : List Staged) → length list ≤ length (sources_text list)
count_within [] = omega arith
count_within (staged ∷ list) =
    let first = source_length_at (staged ∷ list) 0 staged (omega arith) refl in
    let item = item_length (source_elements (source_view staged)) in
    omega (arith, first, item, count_within list)

count_sources : (list : List Staged) → length list ≡ count_of (source_items (map source_view list))
count_sources [] = refl
count_sources (staged ∷ list) = ap suc (count_sources list)

-- the list is sent as what stands before the items, the items, and the mark of their end
pub list_parts : (list : List Staged)
    → opening_text (length list) ++ (sources_text list ++ sequence_end_text)
    ≡ list_text (source_items (map source_view list))
list_parts list =
    let rest = sources_text list ++ sequence_end_text in
    ap (λ (n : ℕ). opening_text n ++ rest) (count_sources list)
    ∙ ap (λ (text : List ℕ). opening_text (count_of (source_items (map source_view list))) ++ text)
    (sym (append-nil rest))

-- so there are fewer sources than bytes
pub count_fits : (list : List Staged) → length (list_text (source_items (map source_view list))) < 2 ^ 32
    → length list < 2 ^ 32
count_fits list fits =
    omega (arith, list_length (source_items (map source_view list)), count_within list, fits)
