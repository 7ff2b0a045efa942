-- A value that may stand in a set has a header of its syntax, with room for its length.
use Rattle.std.proofs.Common.{◌≡◌, ◌≢◌, ℕ, ◌%◌, ◌^◌, ◌<◌, Bool, true, false, ◌==◌, if◌then◌else◌, List, length, Option}
use Rattle.std.proofs.Common.{Some, None, refl, sym, subst, arith}
use Rattle.std.proofs.lemmas.Bool.{ne_eqb}
use Rattle.dd_elem.specs.declared.vr.Vr.{Vr}
use Rattle.dd_elem.specs.declared.vr.Vr.TheVariants.{OB, SQ, UN}
use Rattle.dd_encoding.specs.declared.syntax.Length.{Length}
use Rattle.dd_encoding.specs.declared.syntax.Length.TheVariants.{Defined, Undefined}
use Rattle.dd_encoding.specs.declared.syntax.Syntax.{Syntax}
use Rattle.dd_encoding.specs.declared.syntax.Syntax.TheVariants.{Explicit, Implicit, Encapsulated}
use Rattle.dd_encoding.specs.Elements.{Content, bytes, items, fragments}
use Rattle.dd_encoding.specs.Spelling.{undefined_length, length_of, items_text, FitsLong, length_limit, names_vr}
use Rattle.dd_encoding.specs.Spelling.{named_item_syntax, item_syntax, item_syntax_where, HoldsBytes, HoldsBytesWhere}
use Rattle.dd_encoding.specs.Spelling.{IsContent, AreItems, encapsulates, is_of_bytes}
use Rattle.dd_grammar.proofs.HeaderLaws.{HasForm, HasFormWhere, width_limit, limit_within}
use Rattle.dd_grammar.proofs.Sound.{content_length}
use Rattle.dd_encoding.proofs.Even.{some_of}

-- ---- a value

-- a length that the check of odd ones passes
pub even_not_odd : (n : ℕ) → n % 2 ≡ 0 → (n % 2 == 1) ≡ false
even_not_odd n e = ne_eqb (n % 2) 1 (λ f. omega arith)

-- bytes stand where no sequence may
not_sequence : (syntax : Syntax) (vr : Vr) → vr ≢ SQ → named_item_syntax syntax vr Defined ≡ None
not_sequence syntax SQ h = absurd (h refl)
not_sequence syntax UN h = refl
not_sequence syntax _ h = refl

-- the same where headers name it, and where they do not
none_where : (named : Bool) (syntax : Syntax) (vr : Option Vr) → HoldsBytesWhere named vr
    → item_syntax_where named syntax vr Defined ≡ None
none_where true syntax None h = absurd h
none_where true syntax (Some vr) h = not_sequence syntax vr h
none_where false syntax None h = refl
none_where false syntax (Some vr) h = absurd h

pub holds_none : (syntax : Syntax) (vr : Option Vr) → HoldsBytes syntax vr → item_syntax syntax vr Defined ≡ None
holds_none syntax vr h = none_where (names_vr syntax) syntax vr h

-- what a header in this syntax has
form_where : (named : Bool) (vr : Option Vr) → HoldsBytesWhere named vr → HasFormWhere named vr
form_where true None h = absurd h
form_where true (Some vr) h = tt
form_where false None h = tt
form_where false (Some vr) h = absurd h

-- the same where it may hold items
item_form_where : (named : Bool) (syntax : Syntax) (vr : Option Vr) (form : Length) (inner : Syntax)
    → item_syntax_where named syntax vr form ≡ Some inner → HasFormWhere named vr
item_form_where true syntax None form inner e = absurd cc
item_form_where true syntax (Some vr) form inner e = tt
item_form_where false syntax None form inner e = tt
item_form_where false syntax (Some vr) Defined inner e = absurd cc
item_form_where false syntax (Some vr) Undefined inner e = absurd cc

-- a value representation that may hold a sequence has room for a length of 32 bits
named_wide : (syntax : Syntax) (vr : Vr) (form : Length) (inner : Syntax)
    → named_item_syntax syntax vr form ≡ Some inner → width_limit (Some vr) ≡ 2 ^ 32
named_wide syntax SQ form inner e = refl
named_wide syntax UN form inner e = refl
named_wide syntax _ form inner e = absurd cc

-- the same where headers name it, and where they do not
wide_where : (named : Bool) (syntax : Syntax) (vr : Option Vr) (form : Length) (inner : Syntax)
    → item_syntax_where named syntax vr form ≡ Some inner → width_limit vr ≡ 2 ^ 32
wide_where true syntax None form inner e = absurd cc
wide_where true syntax (Some vr) form inner e = named_wide syntax vr form inner e
wide_where false syntax None form inner e = refl
wide_where false syntax (Some vr) Defined inner e = absurd cc
wide_where false syntax (Some vr) Undefined inner e = absurd cc

-- fragments stand where a header names a value representation with room for a length of 32 bits
encapsulates_form : (syntax : Syntax) (vr : Option Vr) → encapsulates syntax vr ≡ true → HasForm syntax vr
encapsulates_form Explicit vr e = absurd cc
encapsulates_form Implicit vr e = absurd cc
encapsulates_form Encapsulated None e = absurd cc
encapsulates_form Encapsulated (Some vr) e = tt

of_bytes_wide : (vr : Vr) → is_of_bytes vr ≡ true → width_limit (Some vr) ≡ 2 ^ 32
of_bytes_wide OB e = refl
of_bytes_wide _ e = absurd cc

encapsulates_wide : (syntax : Syntax) (vr : Option Vr) → encapsulates syntax vr ≡ true → width_limit vr ≡ 2 ^ 32
encapsulates_wide Explicit vr e = absurd cc
encapsulates_wide Implicit vr e = absurd cc
encapsulates_wide Encapsulated None e = absurd cc
encapsulates_wide Encapsulated (Some vr) e = of_bytes_wide vr e

-- and no sequence stands there
holds_no_items : (syntax : Syntax) (vr : Vr) (form : Length) (inner : Syntax)
    → named_item_syntax syntax vr form ≡ Some inner → is_of_bytes vr ≡ false
holds_no_items syntax SQ form inner e = refl
holds_no_items syntax UN form inner e = refl
holds_no_items syntax _ form inner e = absurd cc

pub holds_no_fragments : (syntax : Syntax) (vr : Option Vr) (form : Length) (inner : Syntax)
    → item_syntax syntax vr form ≡ Some inner → encapsulates syntax vr ≡ false
holds_no_fragments Explicit vr form inner e = refl
holds_no_fragments Implicit vr form inner e = refl
holds_no_fragments Encapsulated None form inner e = refl
holds_no_fragments Encapsulated (Some vr) form inner e = holds_no_items Encapsulated vr form inner e

-- a value that fits has a header of its syntax
pub content_form : (syntax : Syntax) (d : ℕ) (vr : Option Vr) (c : Content) → IsContent syntax d vr c
    → HasForm syntax vr
content_form syntax d vr (bytes v) h = form_where (names_vr syntax) vr h.0
content_form syntax d vr (fragments fs) h = encapsulates_form syntax vr h.0
content_form syntax d vr (items form parts) h =
    let inner = some_of (item_syntax syntax vr form) (λ i. AreItems i d parts) h.0 in
    item_form_where (names_vr syntax) syntax vr form inner.0 inner.1

-- a length that fits has 32 bits
pub fits_width : (form : Length) (text : List ℕ) → FitsLong form text → length_of form text < 2 ^ 32
fits_width Defined text h = let low : length text < undefined_length = h in omega arith
fits_width Undefined text h = omega arith

-- a value that fits has a length that its header has room for
pub content_width : (syntax : Syntax) (d : ℕ) (vr : Option Vr) (c : Content) → IsContent syntax d vr c
    → content_length c < width_limit vr
content_width syntax d vr (bytes v) h = limit_within vr (length v) h.2
content_width syntax d vr (fragments fs) h = subst (λ (n : ℕ). undefined_length < n)
    (sym (encapsulates_wide syntax vr h.0)) (omega arith)
content_width syntax d vr (items form parts) h =
    let inner = some_of (item_syntax syntax vr form) (λ i. AreItems i d parts) h.0 in
    subst (λ (n : ℕ). length_of form (items_text parts) < n)
    (sym (wide_where (names_vr syntax) syntax vr form inner.0 inner.1))
    (fits_width form (items_text parts) h.1)

-- no limit is above the mark of an undefined length
pub limit_most : (vr : Option Vr) (n : ℕ) → n < length_limit vr → n < undefined_length
limit_most None n h = h
limit_most (Some vr) n h = go _ h
  where
    go : (b : Bool) → n < (if b then undefined_length else 2 ^ 16) → n < undefined_length
    go true h = h
    go false h = omega arith
