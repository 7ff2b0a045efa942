-- Spellings have even lengths, and how long their parts are.
use Rattle.std.proofs.Common.{◌≡◌, ℕ, zero, suc, ◌+◌, ◌%◌, ◌≤◌, Bool, true, false, if◌then◌else◌, List, [], ◌∷◌}
use Rattle.std.proofs.Common.{◌++◌}
use Rattle.std.proofs.Common.{length, Option, Some, None, IsSomeAnd, refl, ap, ◌∙◌, arith}
use Rattle.std.proofs.lemmas.List.{length-append}
use Rattle.byteorder.specs.Endian.{little_bytes}
use Rattle.dd_elem.specs.declared.tag.Tag.{Tag}
use Rattle.dd_elem.specs.declared.vr.Vr.{Vr}
use Rattle.dd_elem.specs.Vr.{is_long_of}
use Rattle.dd_elem.proofs.Letters.{letters_two}
use Rattle.dd_encoding.specs.declared.syntax.Length.{Length}
use Rattle.dd_encoding.specs.declared.syntax.Length.TheVariants.{Defined, Undefined}
use Rattle.dd_encoding.specs.declared.syntax.Syntax.{Syntax}
use Rattle.dd_encoding.specs.Elements.{Elements, no_elements, element, Content, bytes, items, fragments, Items}
use Rattle.dd_encoding.specs.Elements.{no_items, item}
use Rattle.dd_encoding.specs.Spelling.{shape_text, header_text, item_end_text, sequence_end_text, length_of, closed}
use Rattle.dd_encoding.specs.Spelling.{elements_text, content_text, items_text, item_syntax, AreElements, IsContent}
use Rattle.dd_encoding.specs.Spelling.{AreItems, AreFragments, undefined_length, fragment_text, fragments_text}

-- how long what a header has after its tag is
abbrev pub shape_length : Option Vr → ℕ
shape_length None = 4
shape_length (Some vr) = if is_long_of vr then 8 else 4

pub length-shape_text : (vr : Option Vr) (n : ℕ) → length (shape_text vr n) ≡ shape_length vr
length-shape_text None n = refl
length-shape_text (Some vr) n =
    let two = letters_two vr in
    ap (λ (l : List ℕ). length (l ++ (if is_long_of vr then 0 ∷ 0 ∷ little_bytes 4 n else little_bytes 2 n))) two.1.1
    ∙ go two.0 two.1.0 (is_long_of vr)
  where
    go : (a b : ℕ) (long : Bool) → length (a ∷ b ∷ (if long then 0 ∷ 0 ∷ little_bytes 4 n else little_bytes 2 n)) ≡
        (if long then 8 else 4)
    go a b true = refl
    go a b false = refl

-- how long a header is
pub length-header_text : (tag : Tag) (vr : Option Vr) (n : ℕ) → length (header_text tag vr n) ≡ 4 + shape_length vr
length-header_text tag vr n = let e = length-shape_text vr n in omega (arith, e)

-- that is even
pub shape_even : (vr : Option Vr) → shape_length vr % 2 ≡ 0
shape_even None = refl
shape_even (Some vr) = go (is_long_of vr)
  where
    go : (long : Bool) → (if long then 8 else 4) % 2 ≡ 0
    go true = refl
    go false = refl

-- and four at least
pub shape_least : (vr : Option Vr) → 4 ≤ shape_length vr
shape_least None = omega arith
shape_least (Some vr) = go (is_long_of vr)
  where
    go : (long : Bool) → 4 ≤ (if long then 8 else 4)
    go true = omega arith
    go false = omega arith

-- a mark after it leaves a length even
pub closed_even : (form : Length) (mark text : List ℕ) → length mark % 2 ≡ 0 → length text % 2 ≡ 0
    → length (closed form mark text) % 2 ≡ 0
closed_even Defined mark text h k = k
closed_even Undefined mark text h k = let e = length-append text mark in omega arith

-- and makes it no shorter
pub closed_longer : (form : Length) (mark text : List ℕ) → length text ≤ length (closed form mark text)
closed_longer Defined mark text = omega arith
closed_longer Undefined mark text = let e = length-append text mark in omega arith

-- how long the text of elements is
pub length-element : (tag : Tag) (vr : Option Vr) (c : Content) (rest : Elements)
    → length (elements_text (element tag vr c rest)) ≡ 4 + length (content_text vr c) + length (elements_text rest)
length-element tag vr c rest = let e = length-append (content_text vr c) (elements_text rest) in omega arith

-- of a value of bytes
pub length-bytes : (vr : Option Vr) (v : List ℕ) → length (content_text vr (bytes v)) ≡ shape_length vr + length v
length-bytes vr v =
    let e = length-append (shape_text vr (length v)) v in
    let f = length-shape_text vr (length v) in
    omega arith

-- of a sequence
pub length-items : (vr : Option Vr) (form : Length) (parts : Items)
    → length (content_text vr (items form parts)) ≡ shape_length vr + length
    (closed form sequence_end_text (items_text parts))
length-items vr form parts =
    let e = length-append (shape_text vr (length_of form (items_text parts)))
    (closed form sequence_end_text (items_text parts)) in
    let f = length-shape_text vr (length_of form (items_text parts)) in
    omega arith

-- of fragments
pub length-fragments : (vr : Option Vr) (fs : List (List ℕ))
    → length (content_text vr (fragments fs)) ≡ shape_length vr + length (fragments_text fs) + 8
length-fragments vr fs =
    let e = length-append (shape_text vr undefined_length) (fragments_text fs ++ sequence_end_text) in
    let f = length-shape_text vr undefined_length in
    let g = length-append (fragments_text fs) sequence_end_text in
    omega arith

-- of items
pub length-item : (form : Length) (set : Elements) (rest : Items)
    → length (items_text (item form set rest)) ≡ 8 + length (closed form item_end_text (elements_text set)) + length
    (items_text rest)
length-item form set rest = let e = length-append (closed form item_end_text (elements_text set)) (items_text rest) in
    omega arith

-- a value after its tag has four bytes at least
pub content_least : (vr : Option Vr) (c : Content) → 4 ≤ length (content_text vr c)
content_least vr (bytes v) = let e = length-bytes vr v in let h = shape_least vr in omega arith
content_least vr (fragments fs) = let e = length-fragments vr fs in let h = shape_least vr in omega arith
content_least vr (items form parts) = let e = length-items vr form parts in let h = shape_least vr in omega arith

-- an element has eight
pub element_least : (tag : Tag) (vr : Option Vr) (c : Content) (rest : Elements)
    → 8 + length (elements_text rest) ≤ length (elements_text (element tag vr c rest))
element_least tag vr c rest = let e = length-element tag vr c rest in let h = content_least vr c in omega arith

-- the text of fragments has an even length
pub even_fragments : (fs : List (List ℕ)) → AreFragments fs → length (fragments_text fs) % 2 ≡ 0
even_fragments [] h = refl
even_fragments (f ∷ fs) h =
    let a : length f % 2 ≡ 0 = h.0 in
    let b : length (fragments_text fs) % 2 ≡ 0 = even_fragments fs h.2 in
    let e = length-append (fragment_text f) (fragments_text fs) in
    omega arith

-- what is there where something is known of it
pub some_of : {X : Type 0} (o : Option X) (P : X → Type 0) → IsSomeAnd o P → (x : X) × (o ≡ Some x) × P x
some_of None P h = absurd h
some_of (Some x) P h = (x, refl, h)

mutual
  -- the text of a set
  pub even_elements : (syntax : Syntax) (levels low : ℕ) (set : Elements) → AreElements syntax levels low set
      → length (elements_text set) % 2 ≡ 0
  even_elements syntax levels low no_elements h = refl
  even_elements syntax levels low (element tag vr content rest) h =
      let a : length (content_text vr content) % 2 ≡ 0 = even_content syntax levels vr content h.4 in
      let b : length (elements_text rest) % 2 ≡ 0 = even_elements syntax levels _ rest h.6 in
      let e = length-element tag vr content rest in
      omega arith

  -- of a value after its tag
  pub even_content : (syntax : Syntax) (levels : ℕ) (vr : Option Vr) (content : Content)
      → IsContent syntax levels vr content → length (content_text vr content) % 2 ≡ 0
  even_content syntax levels vr (bytes v) h =
      let e = length-bytes vr v in
      let a = shape_even vr in
      let b : length v % 2 ≡ 0 = h.1 in
      omega arith
  even_content syntax levels vr (fragments fs) h =
      let e = length-fragments vr fs in
      let a = shape_even vr in
      let b : length (fragments_text fs) % 2 ≡ 0 = even_fragments fs h.1 in
      omega arith
  even_content syntax levels vr (items form parts) h =
      let inner = some_of (item_syntax syntax vr form) (λ i. AreItems i levels parts) h.0 in
      let a : length (items_text parts) % 2 ≡ 0 = even_items inner.0 levels parts inner.2 in
      let b : length (closed form sequence_end_text (items_text parts)) % 2 ≡ 0 =
      closed_even form sequence_end_text (items_text parts) refl a in
      let c = shape_even vr in
      let e = length-items vr form parts in
      omega arith

  -- of items
  pub even_items : (syntax : Syntax) (levels : ℕ) (parts : Items) → AreItems syntax levels parts
      → length (items_text parts) % 2 ≡ 0
  even_items syntax levels no_items h = refl
  even_items syntax zero (item form set rest) h = absurd h
  even_items syntax (suc levels) (item form set rest) h =
      let a : length (elements_text set) % 2 ≡ 0 = even_elements syntax levels 0 set h.0 in
      let b : length (closed form item_end_text (elements_text set)) % 2 ≡ 0 =
      closed_even form item_end_text (elements_text set) refl a in
      let c : length (items_text rest) % 2 ≡ 0 = even_items syntax (suc levels) rest h.2 in
      let e = length-item form set rest in
      omega arith
