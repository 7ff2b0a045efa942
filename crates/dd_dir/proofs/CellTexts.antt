-- The text of elements as the pieces that are sent.
use Rattle.std.proofs.Common.{◌≡◌, ℕ, zero, suc, ◌+◌, ◌<◌, ◌^◌, List, [], ◌∷◌, ◌++◌, length, map, drop, get_or, Some}
use Rattle.std.proofs.Common.{Bool, true, false, cond}
use Rattle.std.proofs.Common.{sym, ap, ◌∙◌, arith, append_assoc, length-append}
use Rattle.std.specs.List.{AllByRecursion}
use Rattle.std.proofs.lemmas.List.{at_drop_more}
use Rattle.dd_elem.specs.declared.tag.Tag.{Tag}
use Rattle.dd_elem.specs.declared.vr.Vr.{Vr}
use Rattle.dd_elem.specs.Vr.{is_long_of}
use Rattle.dd_encoding.specs.Elements.{bytes, elements_of}
use Rattle.dd_encoding.specs.Spelling.{header_limit}
use Rattle.dd_set.specs.Single.{element_text}
use Rattle.dd_encoding.specs.Spelling.{elements_text, tag_text, shape_text, header_text, content_text}
use Rattle.dd_set.proofs.Counting.{element_first}
use Rattle.dd_records.specs.declared.cell.Cell.{Cell}
use Rattle.dd_records.specs.Cells.{IsShort, IsShortElement, cell_element}

-- an element is sent as its header, its value and the padding
pub cell_parts : (tag : Tag) (vr : Vr) (n : ℕ) (value padding whole : List ℕ) → value ++ padding ≡ whole
    → n ≡ length value + length padding
    → header_text tag (Some vr) n ++ (value ++ padding) ≡ tag_text tag ++ content_text (Some vr) (bytes whole)
cell_parts tag vr n value padding whole is count =
    let same : n ≡ length whole = count ∙ sym (length-append value padding) ∙ ap length is in
    append_assoc (tag_text tag) (shape_text (Some vr) n) (value ++ padding)
    ∙ ap (λ (v : List ℕ). tag_text tag ++ (shape_text (Some vr) n ++ v)) is
    ∙ ap (λ (m : ℕ). tag_text tag ++ (shape_text (Some vr) m ++ whole)) same

-- its header has room for the length of a short value
pub cell_room : (vr : Vr) (value padding whole : List ℕ) → value ++ padding ≡ whole → IsShort whole
    → length value + length padding < header_limit vr
cell_room vr value padding whole is short = go (is_long_of vr) where
  go : (b : Bool) → length value + length padding < cond b (2 ^ 32) (2 ^ 16)
  go true = let k = ap length is in let j = length-append value padding in let s = short.1 in omega arith
  go false = let k = ap length is in let j = length-append value padding in let s = short.1 in omega arith

-- the text of what is left of a list of elements begins with the text of the next
pub cell_at : (cells : List Cell) (i : ℕ) (d : Cell) → i < length cells
    → elements_text (elements_of (map cell_element (drop i cells)))
    ≡ element_text (cell_element (get_or cells i d))
    ++ elements_text (elements_of (map cell_element (drop (i + 1) cells)))
cell_at cells i d within =
    at_drop_more (λ cs. elements_text (elements_of (map cell_element cs))) cells i d within
    ∙ element_first (cell_element (get_or cells i d)) (elements_of (map cell_element (drop (i + 1) cells)))

-- the cells after the first one are short where all remaining cells are
pub rest_short : (cells : List Cell) (i : ℕ) → AllByRecursion IsShortElement (map cell_element (drop i cells))
    → AllByRecursion IsShortElement (map cell_element (drop (i + 1) cells))
rest_short [] zero short = tt
rest_short [] (suc i) short = let e : suc i + 1 ≡ suc (i + 1) = omega arith in rw e tt
rest_short (cell ∷ cells) zero short = short.1
rest_short (cell ∷ cells) (suc i) short =
    let e : suc i + 1 ≡ suc (i + 1) = omega arith in rw e (rest_short cells i short)
