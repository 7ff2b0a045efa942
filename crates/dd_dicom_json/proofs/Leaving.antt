-- A text that goes piece by piece: what of it is left.
use Rattle.std.proofs.Common.{◌≡◌, ◌∙◌, ℕ, List, [], ◌++◌, Result, refl, sym, ap, subst}
use Rattle.std.proofs.Common.{append_assoc, append-nil}
use Rattle.std.specs.Prelude.{IsErr}
use Rattle.dd_lines.specs.Telling.{Fails, GoesOn, Tells, Way}
use Rattle.dd_lines.proofs.GoingOn.{fails_front, fails_next, goes_none, goes_then, tells_err, tells_then}

-- the text up to `rest` went
pub record Leaves (text rest : List ℕ) (old new : Way) : Type 0 where
  pub gone : List ℕ
  pub all : text ≡ gone ++ rest
  pub went : GoesOn gone old new

pub leaves_all : (text : List ℕ) (w : Way) → Leaves text text w w
leaves_all text w = record { gone = []; all = refl; went = goes_none w }

-- a piece more went
pub leaves_next : (text rest piece after : List ℕ) (a b c : Way) → rest ≡ piece ++ after → Leaves text rest a b
    → GoesOn piece b c → Leaves text after a c
leaves_next text rest piece after a b c is so_far next = record {
  gone = so_far.gone ++ piece;
  all = so_far.all ∙ ap (λ (xs : List ℕ). so_far.gone ++ xs) is ∙ sym (append_assoc so_far.gone piece after);
  went = goes_then so_far.gone piece a b c so_far.went next;
}

-- the first piece went
pub leaves_first : (text piece after : List ℕ) (a b : Way) → text ≡ piece ++ after → GoesOn piece a b
    → Leaves text after a b
leaves_first text piece after a b is next = record { gone = piece; all = is; went = next }

-- what was left is answered for
pub leaves_last : {T E : Type 0} (r : Result T E) (text rest : List ℕ) (a b c : Way) → Leaves text rest a b
    → Tells r rest b c → Tells r text a c
leaves_last r text rest a b c so_far last =
    subst (λ (all : List ℕ). Tells r all a c) (sym so_far.all)
    (tells_then r so_far.gone rest a b c so_far.went last)

-- nothing is left
pub leaves_none : (text rest : List ℕ) (a b : Way) → rest ≡ [] → Leaves text rest a b → GoesOn text a b
leaves_none text rest a b none so_far =
    subst (λ (all : List ℕ). GoesOn all a b)
    (sym (so_far.all ∙ ap (λ (xs : List ℕ). so_far.gone ++ xs) none ∙ append-nil so_far.gone)) so_far.went

-- the writer failed in the next piece
pub leaves_fails : {T E : Type 0} (r : Result T E) (text rest piece after : List ℕ) (a b c : Way) → IsErr r
    → rest ≡ piece ++ after → Leaves text rest a b → Fails piece b c → Tells r text a c
leaves_fails r text rest piece after a b c err is so_far failed =
    tells_err r text a c err
    (subst (λ (all : List ℕ). Fails all a c)
    (sym (so_far.all ∙ ap (λ (xs : List ℕ). so_far.gone ++ xs) is))
    (fails_next so_far.gone (piece ++ after) a b c so_far.went (fails_front piece after b c failed)))

-- the writer failed in the first piece
pub first_fails : {T E : Type 0} (r : Result T E) (text piece after : List ℕ) (a b : Way) → IsErr r
    → text ≡ piece ++ after → Fails piece a b → Tells r text a b
first_fails r text piece after a b err is failed =
    tells_err r text a b err
    (subst (λ (all : List ℕ). Fails all a b) (sym is) (fails_front piece after a b failed))

-- ---- two texts and three

pub second_tells : {T E : Type 0} (r : Result T E) (text one two : List ℕ) (a b c : Way) → text ≡ one ++ two
    → GoesOn one a b → Tells r two b c → Tells r text a c
second_tells r text one two a b c is first second =
    leaves_last r text two a b c (leaves_first text one two a b is first) second

pub middle_fails : {T E : Type 0} (r : Result T E) (text one two three : List ℕ) (a b c : Way) → IsErr r
    → text ≡ one ++ (two ++ three) → GoesOn one a b → Fails two b c → Tells r text a c
middle_fails r text one two three a b c err is first failed =
    leaves_fails r text (two ++ three) two three a b c err refl (leaves_first text one (two ++ three) a b is first) failed

pub third_tells : {T E : Type 0} (r : Result T E) (text one two three : List ℕ) (a b c d : Way)
    → text ≡ one ++ (two ++ three) → GoesOn one a b → GoesOn two b c → Tells r three c d → Tells r text a d
third_tells r text one two three a b c d is first second last =
    leaves_last r text three a c d
    (leaves_next text (two ++ three) two three a b c refl (leaves_first text one (two ++ three) a b is first) second) last

-- what was left is this text
pub leaves_ends : {T E : Type 0} (r : Result T E) (text rest last : List ℕ) (a b c : Way) → rest ≡ last
    → Leaves text rest a b → Tells r last b c → Tells r text a c
leaves_ends r text rest last a b c is so_far tells =
    leaves_last r text rest a b c so_far (subst (λ (xs : List ℕ). Tells r xs b c) (sym is) tells)

pub tells_same : {T E : Type 0} (r : Result T E) (text other : List ℕ) (a b : Way) → text ≡ other → Tells r other a b
    → Tells r text a b
tells_same r text other a b is tells = subst (λ (xs : List ℕ). Tells r xs a b) (sym is) tells
