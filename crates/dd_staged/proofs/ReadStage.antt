-- Bytes are a list of items that is read whole, or are no stage.
use Rattle.std.proofs.Common.{◌≡◌, ◌≢◌, ℕ, zero, suc, ◌+◌, ◌<◌, ◌≤◌, ◌^◌, List, [], ◌∷◌, ◌++◌, length, take, get_or}
use Rattle.std.proofs.Common.{Result, Ok, Err}
use Rattle.std.proofs.Common.{refl, sym, ap, ap₂, ◌∙◌, subst, arith, length-append, Vec, Global, IfOk, ◌-◌}
use Rattle.std.specs.List.{AllByRecursion}
use Rattle.byteorder.specs.Endian.{little_bytes}
use Rattle.dd_encoding.specs.declared.syntax.Syntax.TheVariants.{Explicit}
use Rattle.dd_encoding.specs.Elements.{Content, Element, Elements, Item, Items, bytes, element, elements_of}
use Rattle.dd_encoding.specs.Elements.{fragments, item, items, items_of, no_elements, no_items}
use Rattle.dd_encoding.specs.Spelling.{Spells, elements_text, items_text}
use Rattle.dd_grammar.proofs.Laws.{one_set}
use Rattle.dd_grammar.specs.AnswersAs.{AnswersAs}
use Rattle.dd_grammar.specs.Faults.{is_memory as is_memory_of_set}
use Rattle.dd_grammar.specs.declared.fault.SetFault.{SetFault}
use Rattle.dd_grammar.specs.declared.fault.SetFault.TheVariants as set_faults
use Rattle.dd_set.specs.declared.set.Element.{Element as ElementValue}
use Rattle.dd_set.specs.declared.set.Item.{Item as ItemValue}
use Rattle.dd_set.specs.Single.{item_text}
use Rattle.dd_set.specs.Views.{element_view, elements_view, items_view, set_view}
use Rattle.dd_set.proofs.Counting.{part_first}
use Rattle.dd_staged.specs.declared.stage_fault.StageFault.{StageFault}
use Rattle.dd_staged.specs.declared.stage_fault.StageFault.TheVariants.{BadStage, Memory}
use Rattle.dd_staged.specs.declared.staged.Staged.{Staged}
use Rattle.dd_staged.specs.Refusals.{IsBadItem, IsBadStage, IsListOf, SpellsNone, is_memory}
use Rattle.dd_staged.specs.Refusals.{sources_view, stage_fault_of}
use Rattle.dd_staged.specs.Sources.{IsSource, Source}
use Rattle.dd_staged.specs.Stages.{EndsInDigest, IsStage, count_of, front_elements, items_element, set_with}
use Rattle.dd_staged.specs.Stages.{source_items, stage_set}
use Rattle.dd_staged.proofs.Digested.{ends_in_digest, items_within, right_digest, stage_digest}
use Rattle.sha2.specs.Sha256.{sha256}
use Rattle.dd_staged.proofs.ReadItems.{with_sources, with_sources-is}
use Rattle.dd_staged.proofs.Valid.{one_list, stage_spells}

-- ---- a set that is refused

pub refused_is_bad : (text : List ℕ) (e : SetFault) (n : ℕ)
    → ((set : Elements) → Spells Explicit set text → AnswersAs is_memory_of_set set_view (Err e) (Ok set))
    → stage_fault_of e ≡ BadStage n → (n ≡ 0) × ((set : Elements) → ¬ Spells Explicit set text)
refused_is_bad text set_faults.Truncated n only is = (cc, λ set spells. let no = only set spells in cc)
refused_is_bad text set_faults.Order n only is = (cc, λ set spells. let no = only set spells in cc)
refused_is_bad text set_faults.BadVr n only is = (cc, λ set spells. let no = only set spells in cc)
refused_is_bad text set_faults.Reserved n only is = (cc, λ set spells. let no = only set spells in cc)
refused_is_bad text set_faults.OddLength n only is = (cc, λ set spells. let no = only set spells in cc)
refused_is_bad text set_faults.UndefinedLength n only is = (cc, λ set spells. let no = only set spells in cc)
refused_is_bad text set_faults.UnexpectedTag n only is = (cc, λ set spells. let no = only set spells in cc)
refused_is_bad text set_faults.BadDelimiter n only is = (cc, λ set spells. let no = only set spells in cc)
refused_is_bad text set_faults.Overrun n only is = (cc, λ set spells. let no = only set spells in cc)
refused_is_bad text set_faults.TooDeep n only is = (cc, λ set spells. let no = only set spells in cc)
refused_is_bad text set_faults.Memory n only is = cc

-- ---- the elements of a list

-- elements and one more
abbrev pub with_last : Elements → Element → Elements
with_last no_elements last = element last.tag last.vr last.content no_elements
with_last (element t vr c rest) last = element t vr c (with_last rest last)

view_joined : (front : List ElementValue) (last : ElementValue)
    → elements_view (front ++ last ∷ []) ≡ with_last (elements_view front) (element_view last)
view_joined [] last = refl
view_joined (e ∷ front) last =
    let first = element_view e in
    ap (λ (rest : Elements). element first.tag first.vr first.content rest) (view_joined front last)

-- all but the last, and the last
abbrev front_of : Elements → Elements
front_of no_elements = no_elements
front_of (element t vr c no_elements) = no_elements
front_of (element t vr c (element u ur d rest)) = element t vr c (front_of (element u ur d rest))

abbrev last_of : Element → Elements → Element
last_of other no_elements = other
last_of other (element t vr c rest) = last_of (record { tag = t; vr = vr; content = c }) rest

front_back : (set : Elements) (last : Element) → front_of (with_last set last) ≡ set
front_back no_elements last = refl
front_back (element t vr c no_elements) last = refl
front_back (element t vr c (element u ur d rest)) last =
    ap (λ (more : Elements). element t vr c more) (front_back (element u ur d rest) last)

last_back : (other : Element) (set : Elements) (last : Element) → last_of other (with_last set last) ≡ last
last_back other no_elements last = refl
last_back other (element t vr c rest) last = last_back (record { tag = t; vr = vr; content = c }) rest last

split_at_last : (n : ℕ) (es : List ElementValue) (last : ElementValue) → length es ≡ suc n → last ≡ get_or es n last
    → take n es ++ last ∷ [] ≡ es
split_at_last n [] last long is = absurd (omega (arith, long))
split_at_last zero (e ∷ []) last long is = ap (λ (x : ElementValue). x ∷ []) is
split_at_last zero (e ∷ (f ∷ es)) last long is = absurd (omega (arith, long))
split_at_last (suc n) (e ∷ es) last long is =
    ap (λ (rest : List ElementValue). e ∷ rest) (split_at_last n es last (omega (arith, long)) is)

-- elements that end in this one
pub record EndsIn (es : List ElementValue) (last : ElementValue) : Type 0 where
  pub some : 0 < length es
  pub is : last ≡ get_or es (length es - 1) last

view_split : (es : List ElementValue) (last : ElementValue) → EndsIn es last
    → elements_view es ≡ with_last (elements_view (take (length es - 1) es)) (element_view last)
view_split es last ends =
    let some = ends.some in
    let long : length es ≡ suc (length es - 1) = omega (arith, some) in
    ap elements_view (sym (split_at_last (length es - 1) es last long ends.is))
    ∙ view_joined (take (length es - 1) es) last

-- elements and one more, joined and taken apart
pub both_joined : (es : List ElementValue) (last : ElementValue) (front : Elements) (end : Element) → EndsIn es last
    → elements_view (take (length es - 1) es) ≡ front → element_view last ≡ end
    → elements_view es ≡ with_last front end
both_joined es last front end ends same is = view_split es last ends ∙ ap₂ with_last same is

pub first_part : (es : List ElementValue) (last : ElementValue) (front : Elements) (end : Element) → EndsIn es last
    → elements_view es ≡ with_last front end → elements_view (take (length es - 1) es) ≡ front
first_part es last front end ends is =
    sym (front_back (elements_view (take (length es - 1) es)) (element_view last))
    ∙ ap front_of (sym (view_split es last ends) ∙ is) ∙ front_back front end

pub last_part : (es : List ElementValue) (last : ElementValue) (front : Elements) (end : Element) → EndsIn es last
    → elements_view es ≡ with_last front end → element_view last ≡ end
last_part es last front end ends is =
    let other = element_view last in
    sym (last_back other (elements_view (take (length es - 1) es)) other)
    ∙ ap (last_of other) (sym (view_split es last ends) ∙ is) ∙ last_back other front end

-- the elements before the items
abbrev pub before_items : Items → Elements
before_items parts = elements_of (front_elements (little_bytes 4 (count_of parts)))

-- the items of their element
abbrev items_held : Content → Items
items_held (bytes v) = no_items
items_held (items form parts) = parts
items_held (fragments fs) = no_items

pub same_items : (parts others : Items) → items_element parts ≡ items_element others → parts ≡ others
same_items parts others same = ap (λ (e : Element). items_held e.content) same

pub count_items : (parts : List ItemValue) → count_of (items_view parts) ≡ length parts
count_items [] = refl
count_items (p ∷ parts) = ap suc (count_items parts)

-- ---- a list has fewer items than bytes

count_within : (parts : Items) → count_of parts ≤ length (items_text parts)
count_within no_items = omega arith
count_within (item form set others) =
    let p : Item = record { length = form; set = set } in
    let all = ap length (part_first p others) in
    let sum = length-append (item_text p) (items_text others) in
    omega (arith, all, sum, count_within others)

pub count_small : (text : List ℕ) (parts : Items) → IsListOf text parts → count_of parts < 2 ^ 32
count_small text parts list =
    let all : length text ≡ length (elements_text (stage_set parts)) = ap length list.spells.whole in
    omega (arith, all, items_within parts, count_within parts, list.short)

-- ---- a list with a bad item is no stage

stage_list : (text : List ℕ) (sources : List Source) → IsStage text sources → IsListOf text (source_items sources)
stage_list text sources is = record { spells = stage_spells text sources is; short = is.short }

-- the first item spells no source
abbrev BeginsBadly : Items → Type 0
BeginsBadly no_items = ⊥
BeginsBadly (item form set others) = SpellsNone (record { length = form; set = set })

-- items from the bad one on
abbrev rest_of : {number : ℕ} {parts : Items} → IsBadItem number parts → Items
rest_of b = items_of (b.bad ∷ b.others)

splits : {number : ℕ} {parts : Items} (b : IsBadItem number parts) → parts ≡ with_sources b.sources (rest_of b)
splits b = b.is ∙ sym (with_sources-is b.sources (b.bad ∷ b.others))

bad_items : (good : List Source) (others : Items) (sources : List Source) → AllByRecursion IsSource sources
    → BeginsBadly others → source_items sources ≢ with_sources good others
bad_items [] no_items sources each bad same = bad
bad_items [] (item form set others) [] each bad same = absurd cc
bad_items [] (item form set others) (source ∷ sources) each bad same = bad source each.0 cc
bad_items (first ∷ good) others [] each bad same = absurd cc
bad_items (first ∷ good) others (source ∷ sources) each bad same = bad_items good others sources each.1 bad cc

-- the items of a stage
abbrev items_in : Elements → Items
items_in (element t vr c (element u ur d (element v vs last rest))) = items_held last
items_in set = no_items

one_list_of : (text : List ℕ) (one other : Items) → IsListOf text one → IsListOf text other → one ≡ other
one_list_of text one other first second = ap items_in (one_set Explicit _ _ text first.spells second.spells)

-- bad items have one first
one_bad : (good : List Source) (others : Items) (more : List Source) (rest : Items) → AllByRecursion IsSource good
    → AllByRecursion IsSource more → BeginsBadly others → BeginsBadly rest
    → with_sources good others ≡ with_sources more rest → length good ≡ length more
one_bad [] others [] rest each all bad worse same = refl
one_bad [] no_items (source ∷ more) rest each all bad worse same = absurd bad
one_bad [] (item form set others) (source ∷ more) rest each all bad worse same = absurd (bad source all.0 cc)
one_bad (source ∷ good) others [] no_items each all bad worse same = absurd worse
one_bad (source ∷ good) others [] (item form set rest) each all bad worse same =
    absurd (worse source each.0 (let turned = sym same in cc))
one_bad (first ∷ good) others (source ∷ more) rest each all bad worse same =
    ap suc (one_bad good others more rest each.1 all.1 bad worse cc)

one_number : (n m : ℕ) (text : List ℕ) → IsBadStage n text → IsBadStage m text → n ≡ m
one_number zero zero text first second = refl
one_number zero (suc m) text first second = absurd (first second.parts second.list)
one_number (suc n) zero text first second = absurd (second first.parts first.list)
one_number (suc n) (suc m) text first second =
    let a = first.item in
    let b = second.item in
    let same = one_list_of text first.parts second.parts first.list second.list in
    let count = one_bad a.sources (rest_of a) b.sources (rest_of b) a.each b.each a.none b.none
    (sym (splits a) ∙ same ∙ splits b) in
    a.count ∙ ap (λ (k : ℕ). k + 1) count ∙ sym b.count

bad_is_no_stage : (n : ℕ) (text : List ℕ) (sources : List Source) → IsBadStage n text → IsStage text sources → ⊥
bad_is_no_stage zero text sources bad is = bad (source_items sources) (stage_list text sources is)
bad_is_no_stage (suc n) text sources bad is =
    let same = one_list_of text (source_items sources) bad.parts (stage_list text sources is) bad.list in
    bad_items bad.item.sources (rest_of bad.item) sources is.each bad.item.none (same ∙ splits bad.item)

-- ---- what is answered

stage_found : (text : List ℕ) (parts : Items) (sources : List Source) → IsListOf text parts
    → AllByRecursion IsSource sources → parts ≡ source_items sources → IsStage text sources
stage_found text parts sources list each same = record {
  each = each;
  text = list.spells.whole ∙ ap (λ (p : Items). elements_text (stage_set p)) same;
  short = list.short;
}

-- the set of a list with the digest of what stands before its last 44 bytes
pub list_of : (text : List ℕ) (set : Elements) (parts : Items) (digest : List ℕ) → Spells Explicit set text
    → length digest ≡ 32 → digest ≡ sha256 (take (length text - 44) text) → set ≡ set_with parts digest
    → length text < 2 ^ 32 → IsListOf text parts
list_of text set parts digest spells long right is short =
    let whole : text ≡ elements_text (set_with parts digest) = spells.whole ∙ ap elements_text is in
    let same : set ≡ stage_set parts =
    is ∙ ap (λ (d : List ℕ). set_with parts d) (right_digest text parts digest long whole right) in
    record { spells = subst (λ (s : Elements). Spells Explicit s text) same spells; short = short }

-- the set of a list has that digest
pub set_of_list : (text : List ℕ) (set : Elements) (parts : Items) (digest : List ℕ) → Spells Explicit set text
    → digest ≡ sha256 (take (length text - 44) text) → IsListOf text parts → set ≡ set_with parts digest
set_of_list text set parts digest spells right list =
    one_set Explicit _ _ text spells list.spells
    ∙ ap (λ (d : List ℕ). set_with parts d) (sym (right ∙ stage_digest text parts list.spells.whole))

-- items that were read
pub read_found : (text : List ℕ) (parts : Items) (result : Result (Vec Staged Global) StageFault) → IsListOf text parts
    → IfOk result (λ list. AllByRecursion IsSource (sources_view list))
    → IfOk result (λ list. parts ≡ source_items (sources_view list))
    → IfOk result (λ list. IsStage text (sources_view list))
read_found text parts (Ok list) of each same = stage_found text parts (sources_view list) of each same
read_found text parts (Err fault) of each same = tt

-- bytes that are no list
pub no_list_bad : (n : ℕ) (text : List ℕ) → n ≡ 0 → ((parts : Items) → ¬ IsListOf text parts) → IsBadStage n text
no_list_bad n text is absent = subst (λ (m : ℕ). IsBadStage m text) (sym is) absent

pub no_set_bad : (n : ℕ) (text : List ℕ) → n ≡ 0 → ((set : Elements) → ¬ Spells Explicit set text) → IsBadStage n text
no_set_bad n text is absent = no_list_bad n text is (λ parts list. absent (stage_set parts) list.spells)

pub read_bad : (n : ℕ) (text : List ℕ) (parts : Items) → IsListOf text parts → IsBadItem n parts → IsBadStage n text
read_bad zero text parts list bad = let count = bad.count in omega (arith, count)
read_bad (suc n) text parts list bad = record { parts = parts; list = list; item = bad }

pub found_digest : (text : List ℕ) (result : Result (Vec Staged Global) StageFault)
    → IfOk result (λ list. IsStage text (sources_view list)) → IfOk result (λ list. EndsInDigest text)
found_digest text (Ok list) found = ends_in_digest text (source_items (sources_view list)) found.text
found_digest text (Err fault) found = tt

pub only_list : (text : List ℕ) (result : Result (Vec Staged Global) StageFault)
    → IfOk result (λ list. IsStage text (sources_view list))
    → ((n : ℕ) → result ≡ Err (BadStage n) → IsBadStage n text)
    → (sources : List Source) → IsStage text sources → AnswersAs is_memory sources_view result (Ok sources)
only_list text (Ok list) found bad sources is = ap Ok (one_list text sources (sources_view list) is found)
only_list text (Err (BadStage n)) found bad sources is = absurd (bad_is_no_stage n text sources (bad n refl) is)
only_list text (Err Memory) found bad sources is = tt

pub only_fault : (text : List ℕ) (result : Result (Vec Staged Global) StageFault)
    → IfOk result (λ list. IsStage text (sources_view list))
    → ((n : ℕ) → result ≡ Err (BadStage n) → IsBadStage n text)
    → (n : ℕ) → IsBadStage n text → AnswersAs is_memory sources_view result (Err (BadStage n))
only_fault text (Ok list) found bad n is = absurd (bad_is_no_stage n text (sources_view list) is found)
only_fault text (Err (BadStage m)) found bad n is =
    ap (λ (k : ℕ). Err (BadStage k)) (one_number n m text is (bad m refl))
only_fault text (Err Memory) found bad n is = tt
