-- Reading elements and items one after the other, as a loop does.
use Rattle.std.proofs.Common.{◌≡◌, ℕ, zero, suc, ◌+◌, ◌-◌, ◌<◌, false, eqb, List, [], ◌∷◌, ◌++◌, Some, None, Result, Ok}
use Rattle.std.proofs.Common.{Err, refl, sym, ap, ◌∙◌, arith}
use Rattle.std.proofs.lemmas.Bool.{false_from_ne_true, eqb-true}
use Rattle.dd_elem.specs.Tag.{number_of}
use Rattle.dd_grammar.specs.declared.fault.SetFault.{SetFault}
use Rattle.dd_encoding.specs.declared.syntax.Length.{Length}
use Rattle.dd_encoding.specs.declared.syntax.Syntax.{Syntax}
use Rattle.dd_encoding.specs.Elements.{Elements, no_elements, element, Items, no_items, item, Element, Item}
use Rattle.dd_encoding.specs.Elements.{elements_of, items_of}
use Rattle.dd_grammar.specs.AnswersAs.{FailsAs}
use Rattle.dd_grammar.specs.Faults.{is_memory}
use Rattle.dd_grammar.specs.Reading.{At, Reads, ◌>>=◌, SequenceReader, ItemReader, element_at, elements_at, item_at}
use Rattle.dd_grammar.specs.Reading.{items_at}
use Rattle.dd_grammar.proofs.Failing.{else_then}

-- these in front
abbrev pub items_before : List Item → Items → Items
items_before [] rest = rest
items_before (p ∷ ps) rest = item p.length p.set (items_before ps rest)

abbrev pub elements_before : List Element → Elements → Elements
elements_before [] rest = rest
elements_before (e ∷ es) rest = element e.tag e.vr e.content (elements_before es rest)

-- what was read before, and what is still read
abbrev pub with_items : List Item → Reads Items → Reads Items
with_items front read = read >>= λ x. Ok (items_before front x.0, x.1)

abbrev pub with_elements : List Element → Reads Elements → Reads Elements
with_elements front read = read >>= λ x. Ok (elements_before front x.0, x.1)

items_before-push : (front : List Item) (p : Item) (rest : Items)
    → items_before (front ++ p ∷ []) rest ≡ items_before front (item p.length p.set rest)
items_before-push [] p rest = refl
items_before-push (q ∷ qs) p rest = ap (λ (r : Items). item q.length q.set r) (items_before-push qs p rest)

items_before-all : (front : List Item) → items_before front no_items ≡ items_of front
items_before-all [] = refl
items_before-all (q ∷ qs) = ap (λ (r : Items). item q.length q.set r) (items_before-all qs)

elements_before-push : (front : List Element) (e : Element) (rest : Elements)
    → elements_before (front ++ e ∷ []) rest ≡ elements_before front (element e.tag e.vr e.content rest)
elements_before-push [] e rest = refl
elements_before-push (q ∷ qs) e rest = ap (λ (r : Elements). element q.tag q.vr q.content r)
    (elements_before-push qs e rest)

elements_before-all : (front : List Element) → elements_before front no_elements ≡ elements_of front
elements_before-all [] = refl
elements_before-all (q ∷ qs) = ap (λ (r : Elements). element q.tag q.vr q.content r) (elements_before-all qs)

regroup_items : (front : List Item) (p : Item) (read : Reads Items)
    → with_items front (read >>= λ x. Ok (item p.length p.set x.0, x.1)) ≡ with_items (front ++ p ∷ []) read
regroup_items front p (Ok x) = ap (λ (is : Items). Ok (is, x.1)) (sym (items_before-push front p x.0))
regroup_items front p (Err e) = refl

regroup_elements : (front : List Element) (e : Element) (read : Reads Elements)
    → with_elements front (read >>= λ x. Ok (element e.tag e.vr e.content x.0, x.1)) ≡ with_elements (front ++ e ∷ [])
    read
regroup_elements front e (Ok x) = ap (λ (es : Elements). Ok (es, x.1)) (sym (elements_before-push front e x.0))
regroup_elements front e (Err f) = refl

-- a step's fault is the fault of the whole
pub fails_along : {A B : Type 0} (e : SetFault) (r : Result A SetFault) (s : Result B SetFault) → FailsAs is_memory e r
    → ((f : SetFault) → r ≡ Err f → s ≡ Err f) → FailsAs is_memory e s
fails_along e r s h k = else_then (is_memory e) h (k e)

module _ (part : ItemReader) (syntax : Syntax) (form : Length) where
  -- one more item
  pub items_more : (n most : ℕ) (front : List Item) (at end : At) (p : Item) (total : Reads Items) → n < most
      → item_at part syntax form at ≡ Ok (Some p, end)
      → with_items front (items_at part syntax form most at) ≡ total
      → with_items (front ++ p ∷ []) (items_at part syntax form (most - 1) end) ≡ total
  unfolding items_at
  items_more n zero front at end p total lt h so_far = absurd (omega arith)
  items_more n (suc most) front at end p total lt h so_far =
      let k : suc most - 1 ≡ most = omega arith in
      let one : with_items front (items_at part syntax form (suc most) at) ≡ with_items (front ++ p ∷ [])
      (items_at part syntax form most end) = rw h (regroup_items front p (items_at part syntax form most end)) in
      rw k (sym one ∙ so_far)

  -- no more items
  pub items_done : (n most : ℕ) (front : List Item) (at end : At) (total : Reads Items) → n < most
      → item_at part syntax form at ≡ Ok (None, end)
      → with_items front (items_at part syntax form most at) ≡ total → total ≡ Ok (items_of front, end)
  unfolding items_at
  items_done n zero front at end total lt h so_far = absurd (omega arith)
  items_done n (suc most) front at end total lt h so_far =
      let one : with_items front (items_at part syntax form (suc most) at) ≡ Ok (items_of front, end) =
      rw h (ap (λ (is : Items). Ok (is, end)) (items_before-all front)) in
      sym so_far ∙ one

  -- a fault
  pub items_fail : (n most : ℕ) (front : List Item) (at : At) (total : Reads Items) (e : SetFault) → n < most
      → FailsAs is_memory e (item_at part syntax form at)
      → with_items front (items_at part syntax form most at) ≡ total → FailsAs is_memory e total
  unfolding items_at
  items_fail n zero front at total e lt h so_far = absurd (omega arith)
  items_fail n (suc most) front at total e lt h so_far = fails_along e (item_at part syntax form at) total h
      (λ f k. sym so_far ∙ rw k refl)

module _ (sequence : SequenceReader) (syntax : Syntax) (form : Length) where
  -- one more element
  pub elements_more : (n most low : ℕ) (front : List Element) (at end : At) (e : Element) (total : Reads Elements)
      → n < most → element_at sequence syntax form low at ≡ Ok (Some e, end)
      → with_elements front (elements_at sequence syntax form most low at) ≡ total
      → with_elements (front ++ e ∷ []) (elements_at sequence syntax form (most - 1) (number_of e.tag + 1) end) ≡
      total
  unfolding elements_at
  elements_more n zero low front at end e total lt h so_far = absurd (omega arith)
  elements_more n (suc most) low front at end e total lt h so_far =
      let k : suc most - 1 ≡ most = omega arith in
      let one : with_elements front (elements_at sequence syntax form (suc most) low at) ≡ with_elements
      (front ++ e ∷ []) (elements_at sequence syntax form most (number_of e.tag + 1) end) =
      rw h (regroup_elements front e (elements_at sequence syntax form most (number_of e.tag + 1) end)) in
      rw k (sym one ∙ so_far)

  -- no more elements
  pub elements_done : (n most low : ℕ) (front : List Element) (at end : At) (total : Reads Elements) → n < most
      → element_at sequence syntax form low at ≡ Ok (None, end)
      → with_elements front (elements_at sequence syntax form most low at) ≡ total → total ≡ Ok (elements_of front, end)
  unfolding elements_at
  elements_done n zero low front at end total lt h so_far = absurd (omega arith)
  elements_done n (suc most) low front at end total lt h so_far =
      let one : with_elements front (elements_at sequence syntax form (suc most) low at) ≡ Ok (elements_of front, end) =
      rw h (ap (λ (es : Elements). Ok (es, end)) (elements_before-all front)) in
      sym so_far ∙ one

  -- a fault
  pub elements_fail : (n most low : ℕ) (front : List Element) (at : At) (total : Reads Elements) (e : SetFault)
      → n < most
      → FailsAs is_memory e (element_at sequence syntax form low at)
      → with_elements front (elements_at sequence syntax form most low at) ≡ total → FailsAs is_memory e total
  unfolding elements_at
  elements_fail n zero low front at total e lt h so_far = absurd (omega arith)
  elements_fail n (suc most) low front at total e lt h so_far =
      fails_along e (element_at sequence syntax form low at) total h (λ f k. sym so_far ∙ rw k refl)

-- numbers that differ fail their test
pub differ : (a b : ℕ) → (a ≡ b → ⊥) → eqb a b ≡ false
differ a b h = false_from_ne_true (eqb a b) (λ e. h (eqb-true a b e))
