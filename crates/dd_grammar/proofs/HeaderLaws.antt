-- What the eight bytes of a header say, and the header that stands after a tag.
use Rattle.std.proofs.Common.{◌≡◌, ℕ, ◌^◌, ◌<◌, ◌≤◌, Bool, true, false, ◌==◌, if◌then◌else◌, List, [], ◌∷◌, ◌++◌}
use Rattle.std.proofs.Common.{length, take, drop, Option, Some, None, Ok, refl, sym, ap, ap₂, subst, ◌∙◌, append_assoc}
use Rattle.std.proofs.Common.{append-nil, arith, inl, inr}
use Rattle.std.specs.Int.{w16, w32, from_le_bytes}
use Rattle.std.specs.Str.{bytes_eq}
use Rattle.std.proofs.lemmas.Bool.{eqb-true, and_parts}
use Rattle.std.proofs.lemmas.List.{take-append-drop, length-drop, drop-drop}
use Rattle.std.proofs.lemmas.Slice.Eq.{bytes_eq-Decides}
use Rattle.byteorder.specs.Endian.{little_bytes}
use Rattle.dd_elem.specs.declared.vr.Vr.{Vr}
use Rattle.dd_elem.specs.Vr.{letters_of, is_long_of, all_vrs, vr_of}
use Rattle.dd_grammar.specs.declared.fault.SetFault.TheVariants.{Reserved}
use Rattle.dd_encoding.specs.declared.syntax.Syntax.{Syntax}
use Rattle.dd_stream.specs.Bytes.{AreBytes}
use Rattle.dd_elem.specs.declared.tag.Tag.{Tag}
use Rattle.dd_encoding.specs.Spelling.{tag_text, shape_text, header_text, undefined_length, length_limit, names_vr}
use Rattle.dd_grammar.specs.Reading.{At, take_at, tag_of, long_of, short_of, is_tag, Shape, long_length_at, long_at}
use Rattle.dd_grammar.specs.Reading.{explicit_at, shape_at, shape_where}
use Rattle.dd_grammar.proofs.Steps.{bind_ok, allowed, chosen, ok_is, AreBytes-drop, AreBytes-take, short_text}
use Rattle.dd_grammar.proofs.Steps.{long_text, short_below, long_below, found_passes}
use Rattle.dd_grammar.proofs.Taken.{Takes, Takes-none, taken}

-- ---- the eight bytes

-- the tag in them
pub head_tag : (head : List ℕ) → length head ≡ 8 → AreBytes head → tag_text (tag_of head) ≡ take 4 head
head_tag [] len fits = absurd (omega arith)
head_tag (a ∷ []) len fits = absurd (omega arith)
head_tag (a ∷ b ∷ []) len fits = absurd (omega arith)
head_tag (a ∷ b ∷ c ∷ []) len fits = absurd (omega arith)
head_tag (a ∷ b ∷ c ∷ d ∷ rest) len fits =
    let group : little_bytes 2 (from_le_bytes w16 (a ∷ b ∷ [])) ≡ a ∷ b ∷ [] =
    short_text (a ∷ b ∷ []) refl (AreBytes-take 2 (a ∷ b ∷ c ∷ d ∷ rest) fits) in
    let number : little_bytes 2 (from_le_bytes w16 (c ∷ d ∷ [])) ≡ c ∷ d ∷ [] =
    short_text (c ∷ d ∷ []) refl (AreBytes-take 2 (c ∷ d ∷ rest) (AreBytes-drop 2 (a ∷ b ∷ c ∷ d ∷ rest) fits)) in
    ap₂ (λ (x y : List ℕ). x ++ y) group number

-- the longer number in them
pub head_long : (head : List ℕ) → length head ≡ 8 → AreBytes head → little_bytes 4 (long_of head) ≡ drop 4 head
head_long head len fits = long_text (drop 4 head) (omega (arith, length-drop 4 head)) (AreBytes-drop 4 head fits)

-- the shorter number
pub head_short : (head : List ℕ) → length head ≡ 8 → AreBytes head → little_bytes 2 (short_of head) ≡ drop 6 head
head_short head len fits = short_text (drop 6 head) (omega (arith, length-drop 6 head)) (AreBytes-drop 6 head fits)

-- the whole of them, by its tag and what follows
pub head_is : (head : List ℕ) (tag : Tag) → length head ≡ 8 → AreBytes head → is_tag tag head ≡ true
    → head ≡ header_text tag None (long_of head)
head_is head tag len fits is =
    let both = and_parts ((tag_of head).group == tag.group) ((tag_of head).element == tag.element) is in
    let g : (tag_of head).group ≡ tag.group = eqb-true _ _ both.0 in
    let n : (tag_of head).element ≡ tag.element = eqb-true _ _ both.1 in
    let front : take 4 head ≡ tag_text tag = sym (head_tag head len fits)
    ∙ ap₂ (λ (x y : ℕ). little_bytes 2 x ++ little_bytes 2 y) g n in
    sym (take-append-drop 4 head) ∙ ap₂ (λ (x y : List ℕ). x ++ y) front (sym (head_long head len fits))

-- ---- the value representation and the length

-- a header of this syntax has one, or has none
abbrev pub HasFormWhere : Bool → Option Vr → Type 0
HasFormWhere true (Some vr) = Unit {0}
HasFormWhere true None = ⊥
HasFormWhere false None = Unit {0}
HasFormWhere false (Some vr) = ⊥

abbrev pub HasForm : Syntax → Option Vr → Type 0
HasForm syntax vr = HasFormWhere (names_vr syntax) vr

-- the numbers that fit the length of a header are below this
abbrev pub width_limit : Option Vr → ℕ
width_limit None = 2 ^ 32
width_limit (Some vr) = if is_long_of vr then 2 ^ 32 else 2 ^ 16

-- no header has room for more than 32 bits
pub width_at_most : (vr : Option Vr) → width_limit vr ≤ 2 ^ 32
width_at_most None = omega arith
width_at_most (Some vr) = go (is_long_of vr)
  where
    go : (b : Bool) → (if b then 2 ^ 32 else 2 ^ 16) ≤ 2 ^ 32
    go true = omega arith
    go false = omega arith

-- a length that a header can hold, and that is not the undefined one
pub within_limit : (vr : Option Vr) (n : ℕ) → n < width_limit vr → (n ≡ undefined_length → ⊥) → n < length_limit vr
within_limit None n lt ne = omega arith
within_limit (Some vr) n lt ne = go (is_long_of vr) lt
  where
    go : (b : Bool) → n < (if b then 2 ^ 32 else 2 ^ 16) → n < (if b then undefined_length else 2 ^ 16)
    go true h = omega arith
    go false h = h

-- a length below its limit fits its header
pub limit_within : (vr : Option Vr) (n : ℕ) → n < length_limit vr → n < width_limit vr
limit_within None n lt = omega arith
limit_within (Some vr) n lt = go (is_long_of vr) lt
  where
    go : (b : Bool) → n < (if b then undefined_length else 2 ^ 16) → n < (if b then 2 ^ 32 else 2 ^ 16)
    go true h = omega arith
    go false h = h

-- the bytes and the room of a header with a length of 32 bits, and with one of 16
pub long_shape : (vr : Vr) (n : ℕ) → is_long_of vr ≡ true → shape_text (Some vr) n ≡ letters_of vr
    ++ (0 ∷ 0 ∷ little_bytes 4 n)
long_shape vr n e = ap (λ (b : Bool). letters_of vr ++ (if b then 0 ∷ 0 ∷ little_bytes 4 n else little_bytes 2 n)) e

pub short_shape : (vr : Vr) (n : ℕ) → is_long_of vr ≡ false → shape_text (Some vr) n ≡ letters_of vr ++ little_bytes 2 n
short_shape vr n e = ap (λ (b : Bool). letters_of vr ++ (if b then 0 ∷ 0 ∷ little_bytes 4 n else little_bytes 2 n)) e

pub long_width : (vr : Vr) → is_long_of vr ≡ true → width_limit (Some vr) ≡ 2 ^ 32
long_width vr e = ap (λ (b : Bool). if b then 2 ^ 32 else 2 ^ 16) e

pub short_width : (vr : Vr) → is_long_of vr ≡ false → width_limit (Some vr) ≡ 2 ^ 16
short_width vr e = ap (λ (b : Bool). if b then 2 ^ 32 else 2 ^ 16) e

-- the one that two letters name has these letters
pub vr_letters : (letters : List ℕ) (vr : Vr) → vr_of letters ≡ Some vr → letters_of vr ≡ letters
vr_letters letters vr e = (bytes_eq-Decides (letters_of vr) letters).0
    (found_passes (λ v. bytes_eq (letters_of v) letters) all_vrs vr e)

-- after the tag stand this value representation and this length
pub record Shaped (named : Bool) (head : List ℕ) (at : At) (shape : Shape) (next : At) : Type 0 where
  pub text : List ℕ
  pub takes : Takes at text next
  pub whole : drop 4 head ++ text ≡ shape_text shape.vr shape.length
  pub form : HasFormWhere named shape.vr
  pub below : shape.length < width_limit shape.vr

-- the letters stand in front of the last two bytes
head_letters : (head letters : List ℕ) → letters ≡ take 2 (drop 4 head) → drop 4 head ≡ letters ++ drop 6 head
head_letters head letters e = sym (take-append-drop 2 (drop 4 head))
    ∙ ap₂ (λ (x y : List ℕ). x ++ y) (sym e) (drop-drop 2 4 head)

-- what such a header gives, with its length
long_made : Vr → ℕ × At → Shape × At
long_made vr n = (record { vr = Some vr; length = n.0 }, n.1)

-- a header with a length of 32 bits
long_takes : (vr : Vr) (head : List ℕ) (at : At) (x : Shape × At) → length head ≡ 8 → AreBytes head → AreBytes at.bytes
    → letters_of vr ≡ take 2 (drop 4 head) → is_long_of vr ≡ true → long_at vr head at ≡ Ok x
    → Shaped true head at x.0 x.1
unfolding long_at long_length_at long_made
long_takes vr head at x len hfits fits letters long e =
    let a = allowed (short_of head == 0) Reserved _ x e in
    let l = bind_ok (long_length_at at) (λ n. Ok (long_made vr n)) x a.1 in
    let b = bind_ok (take_at 4 at) (λ n. Ok (from_le_bytes w32 n.0, n.1)) l.0 l.1 in
    let t = taken 4 at b.0 fits b.1 in
    let shape : Shape = record { vr = Some vr; length = from_le_bytes w32 b.0.0 } in
    let none : drop 6 head ≡ 0 ∷ 0 ∷ [] = sym (head_short head len hfits)
    ∙ ap (λ (n : ℕ). little_bytes 2 n) (eqb-true _ _ a.0) in
    let front : drop 4 head ≡ letters_of vr ++ (0 ∷ 0 ∷ []) = head_letters head (letters_of vr) letters
    ∙ ap (λ (y : List ℕ). letters_of vr ++ y) none in
    let number : little_bytes 4 (from_le_bytes w32 b.0.0) ≡ b.0.0 = long_text b.0.0 t.1 t.2 in
    let whole : drop 4 head ++ b.0.0 ≡ shape_text shape.vr shape.length =
    ap₂ (λ (y z : List ℕ). y ++ z) front (sym number) ∙ append_assoc (letters_of vr) (0 ∷ 0 ∷ [])
    (little_bytes 4 shape.length) ∙ sym (long_shape vr shape.length long) in
    let below : shape.length < width_limit shape.vr = subst (λ (n : ℕ). shape.length < n) (sym (long_width vr long))
    (long_below b.0.0 t.2) in
    let all : Shaped true head at shape b.0.1 = record {
      text = b.0.0;
      takes = t.0;
      whole = whole;
      form =
          tt;
      below = below;
    } in
    let made : (shape, b.0.1) ≡ x = ap (long_made vr) (ok_is (from_le_bytes w32 b.0.0, b.0.1) l.0 b.2)
    ∙ ok_is (long_made vr l.0) x l.2 in
    subst (λ (y : Shape × At). Shaped true head at y.0 y.1) made all

-- a header with a value representation
explicit_takes : (o : Option Vr) (head : List ℕ) (at : At) (x : Shape × At) → length head ≡ 8 → AreBytes head
    → AreBytes at.bytes → vr_of (take 2 (drop 4 head)) ≡ o → explicit_at o head at ≡ Ok x
    → Shaped true head at x.0 x.1
explicit_takes None head at x len hfits fits named e = absurd cc
explicit_takes (Some vr) head at x len hfits fits named e =
    let letters : letters_of vr ≡ take 2 (drop 4 head) = vr_letters (take 2 (drop 4 head)) vr named in
    elim (chosen (is_long_of vr) (long_at vr head at) (Ok (record { vr = Some vr; length = short_of head }, at)) (Ok x)
    e) [
      | inl a ↦ long_takes vr head at x len hfits fits letters a.0 a.1
      | inr b ↦
          let shape : Shape = record { vr = Some vr; length = short_of head } in
          let front : drop 4 head ≡ shape_text shape.vr shape.length = head_letters head (letters_of vr) letters
          ∙ ap (λ (y : List ℕ). letters_of vr ++ y) (sym (head_short head len hfits))
          ∙ sym (short_shape vr (short_of head) b.0) in
          let whole : drop 4 head ++ [] ≡ shape_text shape.vr shape.length = append-nil (drop 4 head) ∙ front in
          let below : shape.length < width_limit shape.vr = subst (λ (n : ℕ). shape.length < n)
          (sym (short_width vr b.0)) (short_below (drop 6 head) (AreBytes-drop 6 head hfits)) in
          let all : Shaped true head at shape at = record
          { text = []; takes = Takes-none at fits; whole = whole; form = tt; below = below } in
          subst (λ (y : Shape × At). Shaped true head at y.0 y.1) (ok_is (shape, at) x b.1) all
    ]

-- where headers name a value representation, and where they do not
takes_where : (named : Bool) (head : List ℕ) (at : At) (x : Shape × At) → length head ≡ 8 → AreBytes head
    → AreBytes at.bytes → shape_where named head at ≡ Ok x → Shaped named head at x.0 x.1
takes_where true head at x len hfits fits e = explicit_takes (vr_of (take 2 (drop 4 head))) head at x len hfits fits
    refl e
takes_where false head at x len hfits fits e =
    let shape : Shape = record { vr = None; length = long_of head } in
    let whole : drop 4 head ++ [] ≡ shape_text shape.vr shape.length = append-nil (drop 4 head)
    ∙ sym (head_long head len hfits) in
    let all : Shaped false head at shape at = record {
      text = [];
      takes = Takes-none at fits;
      whole = whole;
      form =
          tt;
      below = long_below (drop 4 head) (AreBytes-drop 4 head hfits);
    } in
    subst (λ (y : Shape × At). Shaped false head at y.0 y.1) (ok_is (shape, at) x e) all

-- each header
pub shape_takes : (syntax : Syntax) (head : List ℕ) (at : At) (x : Shape × At) → length head ≡ 8 → AreBytes head
    → AreBytes at.bytes → shape_at syntax head at ≡ Ok x → Shaped (names_vr syntax) head at x.0 x.1
unfolding shape_at
shape_takes syntax head at x len hfits fits e = takes_where (names_vr syntax) head at x len hfits fits e
