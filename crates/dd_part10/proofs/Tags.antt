-- The elements of a set by their tags: an element that is there is the one that a search finds.
use Rattle.std.proofs.Common.{◌≡◌, ◌≢◌, ℕ, zero, suc, ◌+◌, ◌<◌, ◌≤◌, ◌⊎◌, ◌==◌, Bool, true, false, not, List, [], ◌∷◌}
use Rattle.std.proofs.Common.{Some, Contains, All, refl, sym, ap, ap₂, subst, arith, inl, inr, eq-eqb}
use Rattle.std.specs.Prelude.{find}
use Rattle.std.specs.List.{list_all}
use Rattle.std.proofs.lemmas.Bool.{eqb-true, and_parts}
use Rattle.std.proofs.lemmas.List.Elements.{All-nil, All-cons, All-head, All-tail}
use Rattle.dd_elem.specs.declared.tag.Tag.{Tag}
use Rattle.dd_elem.specs.Tag.{number_of}
use Rattle.dd_encoding.specs.declared.syntax.Syntax.{Syntax}
use Rattle.dd_encoding.specs.Elements.{Elements, no_elements, element, Element}
use Rattle.dd_set.specs.Find.{find_in}
use Rattle.dd_grammar.specs.Lists.{same_tag, element_list}
use Rattle.dd_encoding.specs.Spelling.{AreElements}
use Rattle.dd_grammar.proofs.Steps.{chosen, some_is}
use Rattle.dd_encoding.specs.Meta.{meta_group}
use Rattle.dd_part10.specs.Reading.{is_meta_tag}

-- numbers that differ
pub neq_eqb : (a b : ℕ) → (a ≡ b → ⊥) → (a == b) ≡ false
neq_eqb a b ne = elim (a == b) as (λ v. (a == b) ≡ v → v ≡ false)
    [ true ↦ λ e. absurd (ne (eqb-true a b e)) | false ↦ λ e. refl ] refl

-- ---- what a list contains

-- the first element
pub contains_first : {X : Type 0} (x : X) (xs : List X) → Contains (x ∷ xs) x
contains_first x xs = (0, omega arith, refl)

-- an element of the rest
pub contains_later : {X : Type 0} (y x : X) (xs : List X) → Contains xs x → Contains (y ∷ xs) x
contains_later y x xs h = (suc h.0, omega (arith, h.1), h.2)

-- it is the first or one of the rest
pub contains_cases : {X : Type 0} (y x : X) (xs : List X) → Contains (y ∷ xs) x → (y ≡ x) ⊎ Contains xs x
contains_cases y x xs (zero, within, is) = inl is
contains_cases y x xs (suc k, within, is) = inr (k, omega (arith, within), is)

-- what is found is there
pub found_there : {X : Type 0} (test : X → Bool) (xs : List X) (x : X) → find test xs ≡ Some x → Contains xs x
found_there test [] x e = absurd cc
found_there {X} test (y ∷ ys) x e =
    elim (chosen (test y) (Some y) (find test ys) (Some x) e) [
      | inl here ↦ let same : y ≡ x =
          some_is y x here.1 in subst (λ (z : X). Contains (z ∷ ys) x) (sym same) (contains_first x ys)
      | inr later ↦ contains_later y x ys (found_there test ys x later.1)
    ]

-- ---- tags

-- tags that the test calls one are one
pub same_tag-is : (t u : Tag) → same_tag t u ≡ true → t ≡ u
same_tag-is t u e =
    let p = and_parts (t.group == u.group) (t.element == u.element) e in
    let group : t.group ≡ u.group = eqb-true _ _ p.0 in
    let number : t.element ≡ u.element = eqb-true _ _ p.1 in
    ap₂ (λ (g n : ℕ). record { group = g; element = n }) group number

-- a tag is itself
pub same_tag-itself : (t : Tag) → same_tag t t ≡ true
same_tag-itself t = rw (eq-eqb t.group t.group refl, eq-eqb t.element t.element refl) refl

-- a tag with another number is another tag
pub same_tag-other : (t u : Tag) → number_of t < number_of u → same_tag t u ≡ false
same_tag-other t u less = elim (same_tag t u) as (λ b. same_tag t u ≡ b → b ≡ false) [
  | true ↦ λ e. let same : number_of t ≡ number_of u =
      ap number_of (same_tag-is t u e) in absurd (omega (arith, same, less))
  | false ↦ λ e. refl
] refl

-- no element of a set has a lower tag than the set may have
pub low_below : (syntax : Syntax) (levels low : ℕ) (set : Elements) (e : Element) → AreElements syntax levels low set
    → Contains (element_list set) e → low ≤ number_of e.tag
low_below syntax levels low no_elements e h there = absurd (omega (arith, there.1))
low_below syntax levels low (element tag vr content rest) e h there =
    elim (contains_cases (record { tag = tag; vr = vr; content = content }) e (element_list rest) there) [
      | inl is ↦ let same : number_of tag ≡ number_of e.tag =
          ap (λ (x : Element). number_of x.tag) is in omega (arith, h.0, same)
      | inr later ↦ let more : number_of tag + 1 ≤ number_of e.tag =
          low_below syntax levels (number_of tag + 1) rest e h.6 later in omega (arith, h.0, more)
    ]

-- an element of a set is what a search for its tag finds
pub found_in : (syntax : Syntax) (levels low : ℕ) (set : Elements) (e : Element) → AreElements syntax levels low set
    → Contains (element_list set) e → find_in e.tag set ≡ Some e
found_in syntax levels low no_elements e h there = absurd (omega (arith, there.1))
found_in syntax levels low (element tag vr content rest) e h there =
    let first : Element = record { tag = tag; vr = vr; content = content } in
    elim (contains_cases first e (element_list rest) there) [
      | inl is ↦
          let hit : same_tag tag e.tag ≡ true = subst (λ (x : Element). same_tag tag x.tag ≡ true) is
          (same_tag-itself tag) in
          rw hit (ap (λ (x : Element). Some x) is)
      | inr later ↦
          let more : number_of tag + 1 ≤ number_of e.tag = low_below syntax levels
          (number_of tag + 1) rest e h.6 later in
          let miss : same_tag tag e.tag ≡ false = same_tag-other tag e.tag (omega (arith, more)) in
          rw miss (found_in syntax levels (number_of tag + 1) rest e h.6 later)
    ]

-- ---- a group that is alone

-- an element of group 0002 that is no group length
abbrev pub IsAlone : Element → Type 0
IsAlone e = (e.tag.group ≡ meta_group) × (e.tag.element ≢ 0x0000)

-- an element that passes the test
one_alone : (e : Element) → is_meta_tag e.tag ≡ true → IsAlone e
one_alone e h =
    let p = and_parts (e.tag.group == meta_group) (not (e.tag.element == 0x0000)) h in (
      eqb-true _ _ p.0,
      λ is. let hit : (e.tag.element == 0x0000) ≡ true = eq-eqb _ _ is in
          let both : not (e.tag.element == 0x0000) ≡ false = rw hit refl in absurd cc,
    )

-- and one that has to
alone_one : (e : Element) → IsAlone e → is_meta_tag e.tag ≡ true
alone_one e h =
    let group : (e.tag.group == meta_group) ≡ true = eq-eqb _ _ h.0 in
    let other : (e.tag.element == 0x0000) ≡ false = neq_eqb e.tag.element 0x0000 h.1 in
    rw (group, other) refl

-- elements that all pass the test
pub alone_from : (es : List Element) → list_all (λ e. is_meta_tag e.tag) es ≡ true → All IsAlone es
alone_from [] e = All-nil IsAlone
alone_from (x ∷ es) e =
    let p = and_parts (is_meta_tag x.tag) (list_all (λ y. is_meta_tag y.tag) es) e in
    All-cons IsAlone x es (one_alone x p.0) (alone_from es p.1)

-- and those that have to
pub alone_to : (es : List Element) → All IsAlone es → list_all (λ e. is_meta_tag e.tag) es ≡ true
alone_to [] h = refl
alone_to (x ∷ es) h = rw (alone_one x (All-head IsAlone x es h), alone_to es (All-tail IsAlone x es h)) refl
