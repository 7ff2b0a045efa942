-- The text of an element or an item as the pieces that are sent.
use Rattle.std.proofs.Common.{◌≡◌, ℕ, List, ◌++◌, ◌+◌, ◌<◌, length, get_or, drop, subst, Option, refl, sym, ap, ◌∙◌}
use Rattle.std.proofs.Common.{append_assoc, append-nil, Bor, [], ◌∷◌, ◌%◌, arith}
use Rattle.std.proofs.lemmas.List.{get_or_default}
use Rattle.byteorder.specs.Endian.{little_bytes}
use Rattle.dd_elem.specs.declared.tag.Tag.{Tag}
use Rattle.dd_elem.specs.declared.vr.Vr.{Vr}
use Rattle.dd_set.specs.declared.set.DataSet.{DataSet}
use Rattle.dd_set.specs.declared.set.Element.{Element}
use Rattle.dd_set.specs.declared.set.Item.{Item}
use Rattle.dd_set.specs.declared.set.Value.TheViews.{out-DataSet, out-Item}
use Rattle.dd_encoding.specs.declared.syntax.Length.{Length}
use Rattle.dd_encoding.specs.declared.syntax.Length.TheVariants.{Defined, Undefined}
use Rattle.dd_encoding.specs.Elements.{Content, Items, items, fragments}
use Rattle.dd_set.specs.Single.{element_text, item_text, mark_text}
use Rattle.dd_encoding.specs.Spelling.{elements_text, items_text, tag_text, shape_text, header_text, content_text}
use Rattle.dd_encoding.specs.Spelling.{length_of, closed, item_tag_text, item_end_text, sequence_end_text}
use Rattle.dd_elem.specs.Tag.{number_of}
use Rattle.dd_encoding.specs.declared.syntax.Syntax.{Syntax}
use Rattle.dd_set.specs.Single.{IsElement, IsItem}
use Rattle.dd_encoding.specs.Spelling.{AreElements, AreItems, AreFragments, fragment_text, fragments_text}
use Rattle.dd_encoding.specs.Spelling.{undefined_length}
use Rattle.dd_set.specs.Views.{set_view, element_view, elements_view, item_view, items_view, value_view, pieces}
use Rattle.dd_set.proofs.Counting.{with_element, element_first, part_first, part_valid, elements_view-drop}
use Rattle.dd_set.proofs.Counting.{items_view-drop, pieces-drop}
use Rattle.dd_set.proofs.Seen.{set_view-is, element_view-is, item_view-is}

-- contents with the mark of their end are the contents and then the mark
pub closed-is : (form : Length) (mark text : List ℕ) → closed form mark text ≡ text ++ mark_text form mark
closed-is Defined mark text = sym (append-nil text)
closed-is Undefined mark text = refl

-- a sequence is sent as its header, its items and the mark of its end
pub sequence_parts : (tag : Tag) (vr : Option Vr) (form : Length) (parts : Items)
    → header_text tag vr (length_of form (items_text parts))
    ++ (items_text parts ++ mark_text form sequence_end_text) ≡ tag_text tag ++ content_text vr (items form parts)
sequence_parts tag vr form parts =
    append_assoc (tag_text tag) (shape_text vr (length_of form (items_text parts)))
    (items_text parts ++ mark_text form sequence_end_text)
    ∙ ap (λ (text : List ℕ). tag_text tag ++ (shape_text vr (length_of form (items_text parts)) ++ text))
    (sym (closed-is form sequence_end_text (items_text parts)))

-- the element of a sequence, whose header has the length n
pub element_items : (e : Element) (form : Length) (parts : Items) (n : ℕ) → value_view e.value ≡ items form parts
    → n ≡ length_of form (items_text parts) → header_text e.tag e.vr n
    ++ (items_text parts ++ mark_text form sequence_end_text) ≡ element_text (element_view e)
element_items e form parts n is n_is =
    ap (λ (m : ℕ). header_text e.tag e.vr m ++ (items_text parts ++ mark_text form sequence_end_text)) n_is
    ∙ sequence_parts e.tag e.vr form parts ∙ ap (λ (content : Content). tag_text e.tag ++ content_text e.vr content)
    (sym is) ∙ sym (ap element_text (element_view-is e))

-- an item is sent as its tag and its length, its data set and the mark of its end
pub item_split : (p : Item) (header : List ℕ) (n : ℕ) → header ≡ item_tag_text ++ little_bytes 4 n
    → n ≡ length_of (out-Item p).length (elements_text (set_view (out-Item p).set))
    → header ++ (elements_text (set_view (out-Item p).set) ++ mark_text (out-Item p).length item_end_text) ≡ item_text
    (item_view p)
item_split p header n header_is n_is =
    let set = set_view (out-Item p).set in let form = (out-Item p).length in
    ap (λ (text : List ℕ). text ++ (elements_text set ++ mark_text form item_end_text))
    (header_is ∙ ap (λ (m : ℕ). item_tag_text ++ little_bytes 4 m) n_is)
    ∙ ap (λ (text : List ℕ). item_tag_text ++ (little_bytes 4 (length_of form (elements_text set)) ++ text))
    (sym (closed-is form item_end_text (elements_text set)))
    ∙ sym (ap item_text (item_view-is p))

-- the elements of a data set in a list
pub set_text : (s : DataSet) (es : List Element) → es ≡ (out-DataSet s).elements.items
    → elements_text (elements_view es) ≡ elements_text (set_view s)
set_text s es is = ap (λ (xs : List Element). elements_text (elements_view xs)) is
    ∙ sym (ap elements_text (set_view-is s))

-- ---- at a place of a list

-- the text of what is left of a list of elements begins with the text of the next
pub element_seen_at : (es : List Element) (i : ℕ) (e : Element) → i < length es → e ≡ get_or es i e
    → elements_text (elements_view (drop i es)) ≡ element_text (element_view e)
    ++ elements_text (elements_view (drop (i + 1) es))
element_seen_at es i e within is = ap elements_text (elements_view-drop es i e within is)
    ∙ element_first (element_view e) (elements_view (drop (i + 1) es))

pub part_at : (parts : List Item) (i : ℕ) (p : Item) → i < length parts → p ≡ get_or parts i p
    → items_text (items_view (drop i parts)) ≡ item_text (item_view p) ++ items_text (items_view (drop (i + 1) parts))
part_at parts i p within is = ap items_text (items_view-drop parts i p within is)
    ∙ part_first (item_view p) (items_view (drop (i + 1) parts))

-- elements from a place on are valid after it too
pub element_valid : (syntax : Syntax) (levels low : ℕ) (es : List Element) (i : ℕ) (e : Element) → i < length es
    → e ≡ get_or es i e → AreElements syntax levels low (elements_view (drop i es))
    → IsElement syntax levels low (element_view e) × AreElements syntax levels (number_of (element_view e).tag + 1)
    (elements_view (drop (i + 1) es))
element_valid syntax levels low es i e within is valid =
    let v : AreElements syntax levels low (with_element (element_view e) (elements_view (drop (i + 1) es))) =
    subst (AreElements syntax levels low) (elements_view-drop es i e within is) valid in
    ((v.0, v.1, v.2, v.3, v.4, v.5), v.6)

pub part_valid_at : (syntax : Syntax) (levels : ℕ) (parts : List Item) (i : ℕ) (p : Item) → i < length parts
    → p ≡ get_or parts i p → AreItems syntax levels (items_view (drop i parts)) → IsItem syntax levels (item_view p)
    × AreItems syntax levels (items_view (drop (i + 1) parts))
part_valid_at syntax levels parts i p within is valid =
    part_valid syntax levels (item_view p) (items_view (drop (i + 1) parts))
    (subst (AreItems syntax levels) (items_view-drop parts i p within is) valid)

-- ---- fragments

-- the text of what is left of a list of fragments begins with the text of the next
pub piece_at : (fs : List (Bor (List ℕ))) (i : ℕ) (d : Bor (List ℕ)) → i < length fs
    → fragments_text (pieces (drop i fs)) ≡ fragment_text (get_or fs i d).now
    ++ fragments_text (pieces (drop (i + 1) fs))
piece_at fs i d within = ap fragments_text (pieces-drop fs i (get_or fs i d) within
    (get_or_default fs i d (get_or fs i d) within))

-- fragments from a place on are valid after it too
pub piece_valid : (fs : List (Bor (List ℕ))) (i : ℕ) (d : Bor (List ℕ)) → i < length fs
    → AreFragments (pieces (drop i fs)) → (length (get_or fs i d).now % 2 ≡ 0)
    × (length (get_or fs i d).now < undefined_length) × AreFragments (pieces (drop (i + 1) fs))
piece_valid fs i d within valid = subst AreFragments (pieces-drop fs i (get_or fs i d) within
    (get_or_default fs i d (get_or fs i d) within)) valid

pub pieces_rest : (fs : List (Bor (List ℕ))) (i : ℕ) → i < length fs → AreFragments (pieces (drop i fs))
    → AreFragments (pieces (drop (i + 1) fs))
pieces_rest [] i within valid = absurd (omega arith)
pieces_rest (f ∷ fs) i within valid = (piece_valid (f ∷ fs) i f within valid).2

-- pixel data in fragments is sent as its header, its fragments and the mark of their end
pub fragments_parts : (tag : Tag) (vr : Option Vr) (fs : List (List ℕ))
    → header_text tag vr undefined_length ++ (fragments_text fs ++ sequence_end_text) ≡ tag_text tag
    ++ content_text vr (fragments fs)
fragments_parts tag vr fs = append_assoc (tag_text tag) (shape_text vr undefined_length)
    (fragments_text fs ++ sequence_end_text)
