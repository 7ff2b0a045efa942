-- The places of items, counted from a byte further back: as many bytes are added to each.
use Rattle.std.proofs.Common.{◌≡◌, ℕ, zero, suc, ◌+◌, ◌<◌, ◌≤◌, Bool, true, false, List, [], ◌∷◌, ◌++◌, length}
use Rattle.std.proofs.Common.{get_or, map}
use Rattle.std.proofs.Common.{Option, Some, None, if◌then◌else◌, option_map, refl, sym, ap, subst, ◌∙◌, arith}
use Rattle.std.proofs.Common.{length-append, ◌⊎◌, inl, inr}
use Rattle.dd_elem.specs.declared.tag.Tag.{Tag}
use Rattle.dd_elem.specs.declared.vr.Vr.{Vr}
use Rattle.dd_encoding.specs.declared.syntax.Length.TheVariants.{Defined, Undefined}
use Rattle.dd_encoding.specs.declared.syntax.Length.{Length}
use Rattle.dd_set.specs.declared.set.Item.{Item as ItemValue}
use Rattle.dd_encoding.specs.Elements.{Elements, no_elements, element, Content, bytes, items, fragments, Items}
use Rattle.dd_encoding.specs.Elements.{no_items}
use Rattle.dd_encoding.specs.Elements.{item}
use Rattle.dd_encoding.specs.Elements.{Element, Item}
use Rattle.dd_grammar.specs.Lists.{same_tag}
use Rattle.dd_set.specs.Single.{element_text, item_text}
use Rattle.dd_encoding.specs.Spelling.{elements_text, items_text, header_text, length_of, closed, sequence_end_text}
use Rattle.dd_encoding.specs.Spelling.{tag_text, shape_text}
use Rattle.dd_set.specs.Starts.{item_places, content_places, places_in}
use Rattle.dd_set.specs.Views.{items_view}
use Rattle.dd_set.proofs.Counting.{with_element, with_item, element_first, part_first}
use Rattle.dd_set.proofs.Places.{starts_from, content_starts, starts_in, places_in-sums}
use Rattle.dd_walk.specs.Saying.{sets_of, item_sets_of}
use Rattle.dd_walk.proofs.Sequences.{items_in}

-- ---- places are moved

from_moved : (by at : ℕ) (parts : Items) → starts_from (at + by) parts ≡ map (λ (n : ℕ). n + by) (starts_from at parts)
from_moved by at no_items = refl
from_moved by at (item form set rest) =
    let size = length (item_text (record { length = form; set = set })) in
    let next : at + by + size ≡ at + size + by = omega arith in
    ap (λ (ns : List ℕ). (at + by) ∷ ns)
    (ap (λ (n : ℕ). starts_from n rest) next ∙ from_moved by (at + size) rest)

content_moved : (by at : ℕ) (t : Tag) (vr : Option Vr) (content : Content)
    → content_starts (at + by) t vr content
    ≡ option_map (λ (ns : List ℕ). map (λ (n : ℕ). n + by) ns) (content_starts at t vr content)
content_moved by at t vr (bytes v) = refl
content_moved by at t vr (fragments fs) = refl
content_moved by at t vr (items form parts) =
    let size = length (header_text t vr (length_of form (items_text parts))) in
    let next : at + by + size ≡ at + size + by = omega arith in
    ap (λ (ns : List ℕ). Some ns) (ap (λ (n : ℕ). starts_from n parts) next ∙ from_moved by (at + size) parts)

chosen_moved : (b : Bool) (by : ℕ) (x y : Option (List ℕ))
    → (if b then option_map (λ (ns : List ℕ). map (λ (n : ℕ). n + by) ns) x
    else option_map (λ (ns : List ℕ). map (λ (n : ℕ). n + by) ns) y)
    ≡ option_map (λ (ns : List ℕ). map (λ (n : ℕ). n + by) ns) (if b then x else y)
chosen_moved true by x y = refl
chosen_moved false by x y = refl

in_moved : (wanted : Tag) (by at : ℕ) (set : Elements)
    → starts_in wanted (at + by) set
    ≡ option_map (λ (ns : List ℕ). map (λ (n : ℕ). n + by) ns) (starts_in wanted at set)
in_moved wanted by at no_elements = refl
in_moved wanted by at (element t vr content rest) =
    let size = length (element_text (record { tag = t; vr = vr; content = content })) in
    let next : at + by + size ≡ at + size + by = omega arith in
    let later = ap (λ (n : ℕ). starts_in wanted n rest) next ∙ in_moved wanted by (at + size) rest in
    rw (content_moved by at t vr content, later)
    (chosen_moved (same_tag t wanted) by (content_starts at t vr content) (starts_in wanted (at + size) rest))

pub places_moved : (wanted : Tag) (front : List ℕ) (by : ℕ) (set : Elements) → length front ≡ by
    → places_in wanted front set ≡ option_map (λ (ns : List ℕ). map (λ (n : ℕ). n + by) ns) (places_in wanted [] set)
places_moved wanted front by set is =
    let start : length front ≡ 0 + by = omega (arith, is) in
    places_in-sums wanted front set ∙ ap (λ (n : ℕ). starts_in wanted n set) start ∙ in_moved wanted by 0 set
    ∙ ap (λ (o : Option (List ℕ)). option_map (λ (ns : List ℕ). map (λ (n : ℕ). n + by) ns) o)
    (sym (places_in-sums wanted [] set))

-- ---- places are within the bytes

from_within : (at : ℕ) (parts : Items) (k : ℕ) → k < length (starts_from at parts)
    → get_or (starts_from at parts) k 0 ≤ at + length (items_text parts)
from_within at no_items k in_range = absurd (omega arith)
from_within at (item form set rest) zero in_range = omega arith
from_within at (item form set rest) (suc k) in_range =
    let p : Item = record { length = form; set = set } in
    let size : length (items_text (with_item p rest)) ≡ length (item_text p) + length (items_text rest) =
    ap length (part_first p rest) ∙ length-append (item_text p) (items_text rest) in
    omega (arith, size, from_within (at + length (item_text p)) rest k (omega arith))

closed_long : (form : Length) (mark text : List ℕ) → length text ≤ length (closed form mark text)
closed_long Defined mark text = omega arith
closed_long Undefined mark text = omega (arith, length-append text mark)

same_list : (ns ms : List ℕ) → ◌≡◌ {A = Option (List ℕ)} (Some ns) (Some ms) → ns ≡ ms
same_list ns ms e = cc

content_within : (at : ℕ) (t : Tag) (vr : Option Vr) (content : Content) (ns : List ℕ)
    → content_starts at t vr content ≡ Some ns
    → (k : ℕ) → k < length ns → get_or ns k 0 ≤ at + length
    (element_text (record { tag = t; vr = vr; content = content }))
content_within at t vr (bytes v) ns e k in_range = absurd cc
content_within at t vr (fragments fs) ns e k in_range = absurd cc
content_within at t vr (items form parts) ns e k in_range =
    let text = items_text parts in
    let shape = shape_text vr (length_of form text) in
    let header = header_text t vr (length_of form text) in
    let starts = starts_from (at + length header) parts in
    let is : ns ≡ starts = sym (same_list starts ns e) in
    let one : length header ≡ length (tag_text t) + length shape = length-append (tag_text t) shape in
    let two : length (tag_text t ++ (shape ++ closed form sequence_end_text text))
    ≡ length (tag_text t) + length (shape ++ closed form sequence_end_text text) =
    length-append (tag_text t) (shape ++ closed form sequence_end_text text) in
    let three : length (shape ++ closed form sequence_end_text text)
    ≡ length shape + length (closed form sequence_end_text text) =
    length-append shape (closed form sequence_end_text text) in
    let there : k < length starts = subst (λ (ms : List ℕ). k < length ms) is in_range in
    let below : get_or starts k 0 ≤ at + length header + length text = from_within (at + length header) parts k there in
    let same : get_or ns k 0 ≡ get_or starts k 0 = ap (λ (ms : List ℕ). get_or ms k 0) is in
    omega (arith, one, two, three, below, same, closed_long form sequence_end_text text)

chosen_some : (b : Bool) (x y : Option (List ℕ)) (ns : List ℕ) → (if b then x else y) ≡ Some ns
    → (x ≡ Some ns) ⊎ (y ≡ Some ns)
chosen_some true x y ns e = inl e
chosen_some false x y ns e = inr e

in_within : (wanted : Tag) (at : ℕ) (set : Elements) (ns : List ℕ) → starts_in wanted at set ≡ Some ns
    → (k : ℕ) → k < length ns → get_or ns k 0 ≤ at + length (elements_text set)
in_within wanted at no_elements ns e k in_range = absurd cc
in_within wanted at (element t vr content rest) ns e k in_range =
    let x : Element = record { tag = t; vr = vr; content = content } in
    let size : length (elements_text (with_element x rest)) ≡ length (element_text x) + length (elements_text rest) =
    ap length (element_first x rest) ∙ length-append (element_text x) (elements_text rest) in
    elim (chosen_some (same_tag t wanted) (content_starts at t vr content)
    (starts_in wanted (at + length (element_text x)) rest) ns e) [
      | inl here ↦ omega (arith, size, content_within at t vr content ns here k in_range)
      | inr later ↦ omega (arith, size, in_within wanted (at + length (element_text x)) rest ns later k in_range)
    ]

pub places_within : (wanted : Tag) (set : Elements) (ns : List ℕ) → places_in wanted [] set ≡ Some ns
    → (k : ℕ) → k < length ns → get_or ns k 0 ≤ length (elements_text set)
places_within wanted set ns is k in_range =
    omega (arith, in_within wanted 0 set ns (sym (places_in-sums wanted [] set) ∙ is) k in_range)

-- ---- as many places as items

abbrev pub SameMany : Option (List ℕ) → Option (List Elements) → Type 0
SameMany None None = Unit {0}
SameMany None (Some sets) = ⊥
SameMany (Some ns) None = ⊥
SameMany (Some ns) (Some sets) = length ns ≡ length sets

chosen_many : (b : Bool) (x y : Option (List ℕ)) (u v : Option (List Elements)) → SameMany x u → SameMany y v
    → SameMany (if b then x else y) (if b then u else v)
chosen_many true x y u v first second = first
chosen_many false x y u v first second = second

items_many : (front : List ℕ) (parts : Items) → length (item_places front parts) ≡ length (sets_of parts)
items_many front no_items = refl
items_many front (item form set rest) =
    ap suc (items_many (front ++ item_text (record { length = form; set = set })) rest)

content_many : (front : List ℕ) (t : Tag) (vr : Option Vr) (content : Content)
    → SameMany (content_places front t vr content) (item_sets_of content)
content_many front t vr (bytes v) = tt
content_many front t vr (fragments fs) = tt
content_many front t vr (items form parts) =
    items_many (front ++ header_text t vr (length_of form (items_text parts))) parts

pub places_many : (wanted : Tag) (front : List ℕ) (set : Elements)
    → SameMany (places_in wanted front set) (items_in wanted set)
places_many wanted front no_elements = tt
places_many wanted front (element t vr content rest) =
    let text = element_text (record { tag = t; vr = vr; content = content }) in
    chosen_many (same_tag t wanted) (content_places front t vr content) (places_in wanted (front ++ text) rest)
    (item_sets_of content) (items_in wanted rest)
    (content_many front t vr content) (places_many wanted (front ++ text) rest)

pub sets_many : (parts : List ItemValue) → length (sets_of (items_view parts)) ≡ length parts
sets_many [] = refl
sets_many (part ∷ parts) = ap suc (sets_many parts)
