-- The text of elements as the pieces that are sent.
use Rattle.std.proofs.Common.{◌≡◌, ℕ, zero, suc, ◌+◌, ◌<◌, ◌≤◌, ◌%◌, ◌^◌, List, [], ◌∷◌, ◌++◌, length, map, drop}
use Rattle.std.proofs.Common.{get_or, Bool, true, false, cond, eqb, Some, sym, ap, ◌∙◌, arith, append_assoc}
use Rattle.std.proofs.Common.{length-append}
use Rattle.std.specs.List.{AllByRecursion}
use Rattle.std.proofs.lemmas.List.{at_drop_more}
use Rattle.dd_elem.specs.declared.tag.Tag.{Tag}
use Rattle.dd_elem.specs.declared.vr.Vr.{Vr}
use Rattle.dd_elem.specs.Vr.{is_long_of}
use Rattle.dd_encoding.specs.Elements.{bytes, elements_of}
use Rattle.dd_encoding.specs.Spelling.{content_text, header_limit, header_text, shape_text, tag_text}
use Rattle.dd_set.specs.Single.{element_text}
use Rattle.dd_set.proofs.Counting.{element_first}
use Rattle.dd_staged.specs.declared.cell.Cell.{Cell}
use Rattle.dd_staged.specs.declared.cell.CellValue.{CellValue}
use Rattle.dd_staged.specs.declared.cell.CellValue.TheVariants.{Bytes, Name, Text, Uid}
use Rattle.dd_staged.specs.Cells.{HasRoom, HasRoomFor, IsShortWhere, cell_element, cell_value, cells_text}
use Rattle.dd_staged.specs.Forms.{padded, padding}

-- an element is sent as its header, its value and what follows that
pub cell_parts : (tag : Tag) (vr : Vr) (n : ℕ) (value end whole : List ℕ) → value ++ end ≡ whole
    → n ≡ length value + length end
    → header_text tag (Some vr) n ++ (value ++ end) ≡ tag_text tag ++ content_text (Some vr) (bytes whole)
cell_parts tag vr n value end whole is count =
    let same : n ≡ length whole = count ∙ sym (length-append value end) ∙ ap length is in
    append_assoc (tag_text tag) (shape_text (Some vr) n) (value ++ end)
    ∙ ap (λ (v : List ℕ). tag_text tag ++ (shape_text (Some vr) n ++ v)) is
    ∙ ap (λ (m : ℕ). tag_text tag ++ (shape_text (Some vr) m ++ whole)) same

-- padding is one byte at most
length_padding : (pad n : ℕ) → length (padding pad n) ≤ 1
length_padding pad n = go (eqb (n % 2) 1) where
  go : (b : Bool) → length (cond b (pad ∷ []) []) ≤ 1
  go true = omega arith
  go false = omega arith

-- a header has room for a short value
short_room : (vr : Vr) (pad : ℕ) (v : List ℕ) → length v ≤ 1024 → length (padded pad v) < header_limit vr
short_room vr pad v short = go (is_long_of vr) where
  go : (b : Bool) → length (padded pad v) < cond b (2 ^ 32) (2 ^ 16)
  go true =
      let a = length-append v (padding pad (length v)) in let b = length_padding pad (length v) in omega arith
  go false =
      let a = length-append v (padding pad (length v)) in let b = length_padding pad (length v) in omega arith

-- the value of an element is no longer than the element
value_within : (cell : Cell) → length (cell_value cell.value) ≤ length (element_text (cell_element cell))
value_within cell =
    let v = cell_value cell.value in
    let one = length-append (tag_text cell.tag) (shape_text (Some cell.vr) (length v) ++ v) in
    let two = length-append (shape_text (Some cell.vr) (length v)) v in
    omega (arith, one, two)

-- a header has room for a value of fewer than 2^32 bytes where its length has 32 bits
long_room : (vr : Vr) (n : ℕ) → is_long_of vr ≡ true → n < 2 ^ 32 → n < header_limit vr
long_room vr n is small = let limit : header_limit vr ≡ 2 ^ 32 = ap (λ (b : Bool). cond b (2 ^ 32) (2 ^ 16)) is in
    rw limit small

-- it has room for each value
room_by : (vr : Vr) (value : CellValue) → length (cell_value value) < 2 ^ 32 → HasRoomFor vr value → IsShortWhere value
    → length (cell_value value) < header_limit vr
room_by vr (Bytes v) small room short = room
room_by vr (Name name) small room short = long_room vr _ room small
room_by vr (Text key) small room short = short_room vr 0x20 key.now short
room_by vr (Uid uid) small room short = short_room vr 0x00 uid.now (omega (arith, short))

pub value_room : (cell : Cell) (bare end : List ℕ) → bare ++ end ≡ cell_value cell.value
    → length (element_text (cell_element cell)) < 2 ^ 32 → HasRoom cell → IsShortWhere cell.value
    → length bare + length end < header_limit cell.vr
value_room cell bare end is small room short =
    let within = value_within cell in
    let all = room_by cell.vr cell.value (omega (arith, within, small)) room short in
    let same : length bare + length end ≡ length (cell_value cell.value) =
    sym (length-append bare end) ∙ ap length is in
    rw same all

-- the text of what is left of a list of elements begins with the text of the next
pub cell_at : (cells : List Cell) (i : ℕ) (cell : Cell) → i < length cells → cell ≡ get_or cells i cell
    → cells_text (drop i cells) ≡ element_text (cell_element cell) ++ cells_text (drop (i + 1) cells)
cell_at cells i cell within is =
    at_drop_more cells_text cells i cell within
    ∙ element_first (cell_element (get_or cells i cell)) (elements_of (map cell_element (drop (i + 1) cells)))
    ∙ ap (λ (c : Cell). element_text (cell_element c) ++ cells_text (drop (i + 1) cells)) (sym is)

pub cell_length_at : (cells : List Cell) (i : ℕ) (cell : Cell) → i < length cells → cell ≡ get_or cells i cell
    → length (cells_text (drop i cells))
    ≡ length (element_text (cell_element cell)) + length (cells_text (drop (i + 1) cells))
cell_length_at cells i cell within is =
    ap length (cell_at cells i cell within is)
    ∙ length-append (element_text (cell_element cell)) (cells_text (drop (i + 1) cells))

-- headers have room for the elements after the first one where they have for all that remain
pub rest_room : (cells : List Cell) (i : ℕ) → AllByRecursion HasRoom (drop i cells)
    → AllByRecursion HasRoom (drop (i + 1) cells)
rest_room [] zero room = tt
rest_room [] (suc i) room = let e : suc i + 1 ≡ suc (i + 1) = omega arith in rw e tt
rest_room (cell ∷ cells) zero room = room.1
rest_room (cell ∷ cells) (suc i) room =
    let e : suc i + 1 ≡ suc (i + 1) = omega arith in rw e (rest_room cells i room)
