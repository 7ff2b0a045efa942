-- Lengths of elements with values that are bytes, one after the other.
use Rattle.std.proofs.Common.{◌≡◌, ℕ, ◌+◌, ◌%◌, Bool, true, false, cond, eqb, List, [], ◌∷◌, ◌++◌, length, Some, refl}
use Rattle.std.proofs.Common.{ap, arith, length-append}
use Rattle.dd_elem.specs.declared.tag.Tag.{Tag}
use Rattle.dd_elem.specs.declared.vr.Vr.{Vr}
use Rattle.dd_elem.specs.Vr.{is_long_of}
use Rattle.dd_encoding.specs.Elements.{Element, bytes, elements_of}
use Rattle.dd_encoding.proofs.Even.{length-element, length-bytes, shape_length}
use Rattle.std.proofs.lemmas.Bool.{eqb-true, eqb-false}
use Rattle.dd_records.specs.ElementForms.{padded, bytes_element}
use Rattle.dd_records.specs.Sizes.{elements_size}

-- a padded value
pub length-padded : (pad : ℕ) (v : List ℕ) → length (padded pad v) ≡ length v + length v % 2
length-padded pad v = go (eqb (length v % 2) 0) refl where
  go : (b : Bool) → eqb (length v % 2) 0 ≡ b → length (cond b v (v ++ pad ∷ [])) ≡ length v + length v % 2
  go true e = omega (arith, eqb-true (length v % 2) 0 e)
  go false e = let h = eqb-false (length v % 2) 0 e in let k = length-append v (pad ∷ []) in omega arith

-- one element more, with the short header
pub short_more : (t : Tag) (vr : Vr) (v : List ℕ) (es : List Element) → is_long_of vr ≡ false
    → elements_size (bytes_element t vr v ∷ es) ≡ 8 + length v + elements_size es
short_more t vr v es short =
    let e = length-element t (Some vr) (bytes v) (elements_of es) in
    let f = length-bytes (Some vr) v in
    let g : shape_length (Some vr) ≡ 4 = ap (λ (b : Bool). cond b 8 4) short in
    omega arith

-- two groups of elements
pub size-append : (es fs : List Element) → elements_size (es ++ fs) ≡ elements_size es + elements_size fs
size-append [] fs = omega arith
size-append (e ∷ es) fs =
    let a = length-element e.tag e.vr e.content (elements_of (es ++ fs)) in
    let b = length-element e.tag e.vr e.content (elements_of es) in
    let c = size-append es fs in
    omega arith
