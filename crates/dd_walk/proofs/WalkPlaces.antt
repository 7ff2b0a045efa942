-- Where the records of a directory start: their offsets rise, and none is 0.
use Rattle.std.proofs.Common.{◌≡◌, ℕ, ◌+◌, ◌<◌, ◌≤◌, Bool, true, false, List, [], ◌∷◌, ◌++◌, length, take}
use Rattle.std.proofs.Common.{Option, Some, None, if◌then◌else◌, ◌==◌, refl, ap, subst, ◌∙◌, arith, length-append}
use Rattle.std.proofs.lemmas.Bool.{eqb-true}
use Rattle.std.proofs.lemmas.List.{length-take-le}
use Rattle.dd_elem.specs.declared.tag.Tag.{Tag}
use Rattle.dd_elem.specs.declared.vr.Vr.{Vr}
use Rattle.dd_encoding.specs.Elements.{Elements, no_elements, element, Content, bytes, items, fragments, Items}
use Rattle.dd_encoding.specs.Elements.{no_items}
use Rattle.dd_encoding.specs.Elements.{item}
use Rattle.dd_grammar.specs.Lists.{same_tag}
use Rattle.dd_set.specs.Single.{element_text, item_text}
use Rattle.dd_encoding.specs.Spelling.{header_text, items_text, length_of}
use Rattle.dd_set.specs.Starts.{item_places, content_places, places_in}
use Rattle.dd_encoding.specs.declared.meta.Meta.{Meta}
use Rattle.dd_part10.specs.File.{IsFile}
use Rattle.dd_encoding.specs.Head.{prefix, group_length_text}
use Rattle.dd_records.specs.ElementForms.{tag}
use Rattle.dd_walk.specs.Reading.{Contents, contents_by, contents_in, contents_of, is_directory_meta}
use Rattle.dd_walk.specs.Reading.{stands_in, stands_of, IsDirectoryFile}
use Rattle.dd_walk.specs.Saying.{beside_in, first_in, last_in, records_in}
use Rattle.dd_walk.specs.Trees.{Beside}
use Rattle.dd_walk.specs.Pending.{Rises}

pub rises_lower : (low least : ℕ) (ps : List ℕ) → least ≤ low → Rises low ps → Rises least ps
rises_lower low least [] le h = tt
rises_lower low least (p ∷ ps) le h = (omega (arith, h.0), h.1)

-- no item starts below the first of them
other_place : (b : Bool) (p q : ℕ) (set : Elements) (later : Option Elements) → (p == q) ≡ b → p < q → later ≡ None
    → (if b then Some set else later) ≡ None
other_place true p q set later is lt h = absurd (omega (arith, eqb-true p q is))
other_place false p q set later is lt h = h

pub stands_below : (p low : ℕ) (starts : List ℕ) (sets : List Elements) → p < low → Rises low starts
    → stands_in starts sets p ≡ None
stands_below p low [] sets lt h = refl
stands_below p low (q ∷ starts) [] lt h = refl
stands_below p low (q ∷ starts) (set ∷ sets) lt h =
    other_place (p == q) p q set (stands_in starts sets p) refl (omega (arith, h.0))
    (stands_below p (q + 1) starts sets (omega (arith, h.0)) h.1)

-- ---- places of items

pub item_places_rise : (front : List ℕ) (parts : Items) → Rises (length front) (item_places front parts)
item_places_rise front no_items = tt
item_places_rise front (item form set rest) =
    let text : List ℕ = item_text (record { length = form; set = set }) in
    let one : 4 ≤ length text = omega arith in
    let more : length front + 1 ≤ length (front ++ text) = omega (arith, length-append front text) in (
      omega arith,
      rises_lower (length (front ++ text)) (length front + 1) (item_places (front ++ text) rest) more
          (item_places_rise (front ++ text) rest),
    )

content_places_rise : (front : List ℕ) (t : Tag) (vr : Option Vr) (content : Content) (starts : List ℕ)
    → content_places front t vr content ≡ Some starts → Rises (length front) starts
content_places_rise front t vr (bytes v) starts e = absurd cc
content_places_rise front t vr (fragments fs) starts e = absurd cc
content_places_rise front t vr (items form parts) starts e =
    let header : List ℕ = header_text t vr (length_of form (items_text parts)) in
    let is : item_places (front ++ header) parts ≡ starts = cc in
    subst (Rises (length front)) is
    (rises_lower (length (front ++ header)) (length front) (item_places (front ++ header) parts)
    (omega (arith, length-append front header)) (item_places_rise (front ++ header) parts))

-- the first of two, or the other
either_rises : (b : Bool) (low : ℕ) (here later : Option (List ℕ)) (starts : List ℕ)
    → (if b then here else later) ≡ Some starts → (here ≡ Some starts → Rises low starts)
    → (later ≡ Some starts → Rises low starts) → Rises low starts
either_rises true low here later starts e f g = f e
either_rises false low here later starts e f g = g e

pub places_rise : (wanted : Tag) (front : List ℕ) (set : Elements) (starts : List ℕ)
    → places_in wanted front set ≡ Some starts → Rises (length front) starts
places_rise wanted front no_elements starts e = absurd cc
places_rise wanted front (element t vr content rest) starts e =
    let text : List ℕ = element_text (record { tag = t; vr = vr; content = content }) in
    either_rises (same_tag t wanted) (length front) (content_places front t vr content)
    (places_in wanted (front ++ text) rest) starts e
    (λ (is : content_places front t vr content ≡ Some starts). content_places_rise front t vr content starts is)
    (λ (is : places_in wanted (front ++ text) rest ≡ Some starts).
    rises_lower (length (front ++ text)) (length front) starts (omega (arith, length-append front text))
    (places_rise wanted (front ++ text) rest starts is))

-- ---- what a directory says

-- of parts of which each is there
pub record Named (contents : Contents) (beside : Beside) (first last : Option ℕ) (starts : Option (List ℕ))
    (sets : Option (List Elements)) : Type 0 where
  pub beside_is : beside ≡ contents.beside
  pub first_is : first ≡ Some contents.first
  pub last_is : last ≡ Some contents.last
  pub starts_are : starts ≡ Some contents.starts
  pub sets_are : sets ≡ Some contents.sets

same_contents : (a b : Contents) → ◌≡◌ {A = Option Contents} (Some a) (Some b) → a ≡ b
same_contents a b e = cc

pub contents_named : (contents : Contents) (beside : Beside) (first last : Option ℕ) (starts : Option (List ℕ))
    (sets : Option (List Elements)) → contents_by beside first last starts sets ≡ Some contents
    → Named contents beside first last starts sets
contents_named c beside None last starts sets e = absurd cc
contents_named c beside (Some first) None starts sets e = absurd cc
contents_named c beside (Some first) (Some last) None sets e = absurd cc
contents_named c beside (Some first) (Some last) (Some starts) None e = absurd cc
contents_named c beside (Some first) (Some last) (Some starts) (Some sets) e =
    let made : Contents = record { first = first; last = last; starts = starts; sets = sets; beside = beside } in
    let is : made ≡ c = same_contents made c e in
    record {
      beside_is = ap (λ (x : Contents). x.beside) is;
      first_is = ap (λ (x : Contents). Some x.first) is;
      last_is = ap (λ (x : Contents). Some x.last) is;
      starts_are = ap (λ (x : Contents). Some x.starts) is;
      sets_are = ap (λ (x : Contents). Some x.sets) is;
    }

chosen_contents : (b : Bool) (o : Option Contents) (contents : Contents) → (if b then o else None) ≡ Some contents
    → (b ≡ true) × (o ≡ Some contents)
chosen_contents true o contents e = (refl, e)
chosen_contents false o contents e = absurd cc

-- of a file that is a directory
pub contents_parts : (file : List ℕ) (meta : Meta) (set : Elements) (at : ℕ) (contents : Contents)
    → contents_of file meta set at ≡ Some contents → (is_directory_meta meta ≡ true)
    × Named contents (beside_in meta.instance set) (first_in set) (last_in set)
    (places_in (tag 0x0004 0x1220) (take at file) set) (records_in set)
unfolding contents_in
contents_parts file meta set at contents e =
    let chosen = chosen_contents (is_directory_meta meta) (contents_in meta.instance (take at file) set) contents e in (
      chosen.0,
      contents_named contents (beside_in meta.instance set) (first_in set) (last_in set)
          (places_in (tag 0x0004 0x1220) (take at file) set) (records_in set) chosen.1,
    )

-- as many bytes stand before the data set of a file as its place says
pub front_length : (file : List ℕ) (meta : Meta) (set : Elements) (at : ℕ) → IsFile file meta set at
    → (144 ≤ at) × (length (take at file) ≡ at)
front_length file meta set at h =
    let head : List ℕ = group_length_text (length h.group_text) in
    let rest : List ℕ = h.group_text ++ h.set_text in
    let twelve : length head ≡ 12 = refl in
    let one : length file ≡ length (h.preamble ++ (prefix ++ (head ++ rest))) = ap length h.parts in
    let two : length (h.preamble ++ (prefix ++ (head ++ rest))) ≡ 128 + (4 + (12 + length rest)) =
    length-append h.preamble (prefix ++ (head ++ rest)) ∙ ap (λ (n : ℕ). n + length (prefix ++ (head ++ rest))) h.free
    ∙ ap (λ (n : ℕ). 128 + n) (length-append prefix (head ++ rest))
    ∙ ap (λ (n : ℕ). 128 + (4 + n)) (length-append head rest) in
    let three : length rest ≡ length h.group_text + length h.set_text = length-append h.group_text h.set_text in
    let is : at ≡ 144 + length h.group_text = h.place in
    (omega (arith, is), length-take-le at file (omega (arith, is, one, two, three)))

-- its records start after its head, and their offsets rise
pub contents_rise : (file : List ℕ) (contents : Contents) → IsDirectoryFile file contents → Rises 144 contents.starts
contents_rise file contents h =
    let front = front_length file h.meta h.set h.at h.is_file in
    let named = (contents_parts file h.meta h.set h.at contents h.says).1 in
    let long : 144 ≤ length (take h.at file) = omega (arith, front.0, front.1) in
    rises_lower (length (take h.at file)) 144 contents.starts long
    (places_rise (tag 0x0004 0x1220) (take h.at file) h.set contents.starts named.starts_are)

-- no record stands at the offset 0
pub nothing_at_zero : (file : List ℕ) (contents : Contents) → IsDirectoryFile file contents
    → stands_of contents 0 ≡ None
nothing_at_zero file contents h =
    stands_below 0 144 contents.starts contents.sets (omega arith) (contents_rise file contents h)
