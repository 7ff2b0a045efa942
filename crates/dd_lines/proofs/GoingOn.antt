-- Texts that go on their way to a writer, one after the other.
use Rattle.std.proofs.Common.{◌≡◌, ◌∙◌, ℕ, zero, suc, List, [], ◌∷◌, ◌++◌, ◌+◌, ◌-◌, ◌<◌, ◌≤◌, Option, Result, Ok, Err}
use Rattle.std.proofs.Common.{length}
use Rattle.std.proofs.Common.{take, drop, get_or, refl, sym, ap, subst, arith, append_assoc, append-nil}
use Rattle.std.proofs.KnownBytes.{Appends-trans}
use Rattle.std.proofs.lemmas.List.{drop_more, map-append, take-append-drop, take_all, take_more}
use Rattle.std.proofs.lemmas.List.Concat.{flat_map_single}
use Rattle.std.proofs.lemmas.Grind.{flat_map-append}
use Rattle.std.specs.Prelude.{IsErr, OnErr, OnOk}
use Rattle.std.specs.Borrow.{Bor}
use Rattle.std.specs.List.{concat, flat_map, repeat}
use Rattle.dd_lines.specs.Telling.{Fails, GoesOn, Tells, Way, parts_of, shown, shown_byte, shown_line, way}
use Rattle.dd_lines.specs.Text.{FailsAmid, Sent, TakesAll}
use Rattle.dd_lines.proofs.TextLemmas.{fails_before, fails_more, sent_last, rest_fails}
use Rattle.dd_elem.proofs.Known.{appends_none}

-- ---- two texts

pub goes_none : (w : Way) → GoesOn [] w w
goes_none w = record { gone = []; parts = append-nil w.waits; took = (refl, appends_none w.holds) }

pub goes_then : (one two : List ℕ) (a b c : Way) → GoesOn one a b → GoesOn two b c → GoesOn (one ++ two) a c
goes_then one two a b c first second = record {
  gone = first.gone ++ second.gone;
  parts = sym (append_assoc a.waits one two) ∙ ap (λ (xs : List ℕ). xs ++ two) first.parts
      ∙ append_assoc first.gone b.waits two ∙ ap (λ (xs : List ℕ). first.gone ++ xs) second.parts
      ∙ sym (append_assoc first.gone second.gone c.waits);
  took = (
    second.took.0 ∙ first.took.0,
    Appends-trans a.holds b.holds c.holds first.gone second.gone first.took.1 second.took.1,
  );
}

pub fails_front : (one two : List ℕ) (a b : Way) → Fails one a b → Fails (one ++ two) a b
fails_front one two a b failed =
    subst (λ (xs : List ℕ). FailsAmid a.holds b.holds a.failures b.failures xs) (append_assoc a.waits one two)
    (fails_before (a.waits ++ one) two a.holds b.holds a.failures b.failures failed)

pub fails_next : (one two : List ℕ) (a b c : Way) → GoesOn one a b → Fails two b c → Fails (one ++ two) a c
fails_next one two a b c first failed =
    let all : a.waits ++ (one ++ two) ≡ first.gone ++ ((b.waits ++ two) ++ []) =
    sym (append_assoc a.waits one two) ∙ ap (λ (xs : List ℕ). xs ++ two) first.parts
    ∙ append_assoc first.gone b.waits two
    ∙ ap (λ (xs : List ℕ). first.gone ++ xs) (sym (append-nil (b.waits ++ two))) in
    let so_far : Sent (a.waits ++ (one ++ two)) ((b.waits ++ two) ++ []) a.holds b.holds a.failures b.failures =
    record { gone = first.gone; parts = all; took = first.took } in
    fails_more (a.waits ++ (one ++ two)) (b.waits ++ two) [] a.holds b.holds c.holds a.failures b.failures c.failures
    so_far failed

-- the answer for the second text is the answer for both
pub tells_then : {T E : Type 0} (r : Result T E) (one two : List ℕ) (a b c : Way)
    → GoesOn one a b → Tells r two b c → Tells r (one ++ two) a c
tells_then (Ok done) one two a b c first second = goes_then one two a b c first second
tells_then (Err fault) one two a b c first second = fails_next one two a b c first second

-- a failure in the first text is one in both
pub tells_more : {T E : Type 0} (r : Result T E) (one two : List ℕ) (a b : Way)
    → IsErr r → Tells r one a b → Tells r (one ++ two) a b
tells_more (Ok done) one two a b is tells = absurd (cc)
tells_more (Err fault) one two a b is failed = fails_front one two a b failed

pub tells_both : {T E : Type 0} (r : Result T E) (text : List ℕ) (a b : Way)
    → OnOk r (GoesOn text a b) → OnErr r (Fails text a b) → Tells r text a b
tells_both (Ok done) text a b sent unsent = sent
tells_both (Err fault) text a b sent unsent = unsent

-- so is a failure in all of a text
pub tells_err : {T E : Type 0} (r : Result T E) (text : List ℕ) (a b : Way)
    → IsErr r → Fails text a b → Tells r text a b
tells_err (Ok done) text a b is failed = absurd (cc)
tells_err (Err fault) text a b is failed = failed

-- ---- all that waited goes at the end

pub all_goes : (text : List ℕ) (a b : Way) (c : Option (List ℕ)) (h : ℕ) → a.waits ≡ [] → GoesOn text a b
    → TakesAll b.holds c b.failures h b.waits → TakesAll a.holds c a.failures h text
all_goes text a b c h none goes took =
    sent_last text b.waits a.holds b.holds c a.failures b.failures h
    (subst (λ (xs : List ℕ). Sent (xs ++ text) b.waits a.holds b.holds a.failures b.failures) none goes) took

pub none_goes : (text : List ℕ) (a b : Way) (c : Option (List ℕ)) (h : ℕ) → a.waits ≡ [] → GoesOn text a b
    → FailsAmid b.holds c b.failures h b.waits → FailsAmid a.holds c a.failures h text
none_goes text a b c h none goes failed =
    rest_fails text b.waits a.holds b.holds c a.failures b.failures h
    (subst (λ (xs : List ℕ). Sent (xs ++ text) b.waits a.holds b.holds a.failures b.failures) none goes) failed

pub fails_of_none : (text : List ℕ) (a b : Way) → a.waits ≡ [] → Fails text a b
    → FailsAmid a.holds b.holds a.failures b.failures text
fails_of_none text a b none failed =
    subst (λ (xs : List ℕ). FailsAmid a.holds b.holds a.failures b.failures (xs ++ text)) none failed

pub text_sent : {T E : Type 0} (r : Result T E) (text start rest : List ℕ) (a b c : Option (List ℕ)) (f g h : ℕ)
    → start ≡ [] → GoesOn text (way start a f) (way rest b g) → OnOk r (TakesAll b c g h rest)
    → OnOk r (TakesAll a c f h text)
text_sent (Ok done) text start rest a b c f g h none goes took =
    all_goes text (way start a f) (way rest b g) c h none goes took
text_sent (Err fault) text start rest a b c f g h none goes took = tt

pub text_unsent : {T E : Type 0} (r : Result T E) (text start rest : List ℕ) (a b c : Option (List ℕ)) (f g h : ℕ)
    → start ≡ [] → GoesOn text (way start a f) (way rest b g) → OnErr r (FailsAmid b c g h rest)
    → OnErr r (FailsAmid a c f h text)
text_unsent (Ok done) text start rest a b c f g h none goes failed = tt
text_unsent (Err fault) text start rest a b c f g h none goes failed =
    none_goes text (way start a f) (way rest b g) c h none goes failed

-- ---- the texts of a list's elements

-- the texts of the first `i` elements went
abbrev pub Went : {A : Type 0} → (A → List ℕ) → List A → ℕ → Way → Way → Type 0
Went t xs i old new = GoesOn (flat_map t (take i xs)) old new

pub one_more : {A B : Type 0} (t : A → List B) (xs : List A) (i : ℕ) (d : A) → i < length xs
    → flat_map t (take (i + 1) xs) ≡ flat_map t (take i xs) ++ t (get_or xs i d)
one_more t xs i d within =
    ap (λ (ys : List _). flat_map t ys) (take_more xs i d within)
    ∙ flat_map-append t (take i xs) (get_or xs i d ∷ [])
    ∙ ap (λ (ys : List _). flat_map t (take i xs) ++ ys) (append-nil (t (get_or xs i d)))

pub parted : {A B : Type 0} (t : A → List B) (xs : List A) (i : ℕ) (d : A) → i < length xs
    → flat_map t xs ≡ (flat_map t (take i xs) ++ t (get_or xs i d)) ++ flat_map t (drop (i + 1) xs)
parted t xs i d within =
    ap (λ (ys : List _). flat_map t ys) (sym (take-append-drop i xs))
    ∙ flat_map-append t (take i xs) (drop i xs)
    ∙ ap (λ (ys : List _). flat_map t (take i xs) ++ flat_map t ys) (drop_more xs i d within)
    ∙ sym (append_assoc (flat_map t (take i xs)) (t (get_or xs i d)) (flat_map t (drop (i + 1) xs)))

pub went_none : {A : Type 0} (t : A → List ℕ) (xs : List A) (w : Way) → Went t xs 0 w w
went_none t xs w = goes_none w

-- one more
pub went_more : {A : Type 0} (t : A → List ℕ) (xs : List A) (i : ℕ) (d : A) (piece : List ℕ) (a b c : Way)
    → i < length xs → piece ≡ t (get_or xs i d) → Went t xs i a b → GoesOn piece b c → Went t xs (i + 1) a c
went_more t xs i d piece a b c within is so_far next =
    subst (λ (text : List ℕ). GoesOn text a c)
    (ap (λ (ys : List ℕ). flat_map t (take i xs) ++ ys) is ∙ sym (one_more t xs i d within))
    (goes_then (flat_map t (take i xs)) piece a b c so_far next)

-- all of them
pub went_all : {A : Type 0} (t : A → List ℕ) (xs : List A) (i : ℕ) (text : List ℕ) (a b : Way)
    → length xs ≤ i → text ≡ flat_map t xs → Went t xs i a b → GoesOn text a b
went_all t xs i text a b past is so_far =
    subst (λ (all : List ℕ). GoesOn all a b)
    (ap (λ (ys : List _). flat_map t ys) (take_all i xs past) ∙ sym is) so_far

-- the writer failed in the next one
pub went_fails : {A T E : Type 0} (r : Result T E) (t : A → List ℕ) (xs : List A) (i : ℕ) (d : A)
    (piece text : List ℕ) (a b c : Way) → IsErr r → i < length xs → piece ≡ t (get_or xs i d)
    → text ≡ flat_map t xs → Went t xs i a b → Fails piece b c → Tells r text a c
went_fails r t xs i d piece text a b c err within is whole so_far failed =
    let front = flat_map t (take i xs) in
    let all : text ≡ (front ++ piece) ++ flat_map t (drop (i + 1) xs) =
    whole ∙ parted t xs i d within
    ∙ ap (λ (ys : List ℕ). (front ++ ys) ++ flat_map t (drop (i + 1) xs)) (sym is) in
    tells_err r text a c err (subst (λ (whole : List ℕ). Fails whole a c) (sym all)
    (fails_front (front ++ piece) (flat_map t (drop (i + 1) xs)) a c
    (fails_next front piece a b c so_far failed)))

-- ---- texts as the texts of elements

pub shown_each : (text : List ℕ) → shown text ≡ flat_map (λ (byte : ℕ). shown_byte byte ∷ []) text
shown_each text = sym (flat_map_single shown_byte text)

pub shown_parts : (parts : List (Bor (List ℕ)))
    → shown (concat (parts_of parts)) ≡ flat_map (λ (part : Bor (List ℕ)). shown part.now) parts
shown_parts [] = refl
shown_parts (part ∷ parts) =
    map-append shown_byte part.now (concat (parts_of parts))
    ∙ ap (λ (xs : List ℕ). shown part.now ++ xs) (shown_parts parts)

-- ---- a line

abbrev pub PartsWent : List (Bor (List ℕ)) → ℕ → Way → Way → Type 0
PartsWent parts i old new = Went (λ (part : Bor (List ℕ)). shown part.now) parts i old new

pub part_fails : {T E : Type 0} (r : Result T E) (parts : List (Bor (List ℕ))) (i : ℕ) (d : Bor (List ℕ)) (a b c : Way)
    → IsErr r → i < length parts → PartsWent parts i a b → Fails (shown (get_or parts i d).now) b c
    → Tells r (shown (concat (parts_of parts))) a c
part_fails r parts i d a b c err within so_far failed =
    went_fails r (λ (part : Bor (List ℕ)). shown part.now) parts i d (shown (get_or parts i d).now)
    (shown (concat (parts_of parts))) a b c err within refl (shown_parts parts) so_far failed

-- its words, and then its end
pub line_fails : {T E : Type 0} (r : Result T E) (words : List (List ℕ)) (a b : Way)
    → IsErr r → Fails (shown (concat words)) a b → Tells r (shown_line words) a b
line_fails r words a b err failed =
    tells_err r (shown_line words) a b err (fails_front (shown (concat words)) (10 ∷ []) a b failed)

pub line_ends : {T E : Type 0} (r : Result T E) (words : List (List ℕ)) (a b c : Way)
    → GoesOn (shown (concat words)) a b → Tells r (10 ∷ []) b c → Tells r (shown_line words) a c
line_ends r words a b c so_far end = tells_then r (shown (concat words)) (10 ∷ []) a b c so_far end

-- ---- a text that is repeated

pub repeat_rest : (i n : ℕ) (xs : List ℕ) → repeat (i + n) xs ≡ repeat i xs ++ repeat n xs
repeat_rest zero n xs = ap (λ (k : ℕ). repeat k xs) (omega arith)
repeat_rest (suc i) n xs =
    let on : suc i + n ≡ suc (i + n) = omega arith in
    ap (λ (k : ℕ). repeat k xs) on
    ∙ ap (λ (ys : List ℕ). xs ++ ys) (repeat_rest i n xs) ∙ sym (append_assoc xs (repeat i xs) (repeat n xs))

pub repeat_more : (n : ℕ) (xs : List ℕ) → repeat (n + 1) xs ≡ repeat n xs ++ xs
repeat_more n xs = repeat_rest n 1 xs ∙ ap (λ (ys : List ℕ). repeat n xs ++ ys) (append-nil xs)

pub repeat_fails : {T E : Type 0} (r : Result T E) (i n : ℕ) (xs : List ℕ) (a b c : Way) → IsErr r → i < n
    → GoesOn (repeat i xs) a b → Fails xs b c → Tells r (repeat n xs) a c
repeat_fails r i n xs a b c err within so_far failed =
    let on : n ≡ (i + 1) + (n - (i + 1)) = omega (arith, within) in
    let all : repeat n xs ≡ (repeat i xs ++ xs) ++ repeat (n - (i + 1)) xs =
    ap (λ (k : ℕ). repeat k xs) on ∙ repeat_rest (i + 1) (n - (i + 1)) xs
    ∙ ap (λ (ys : List ℕ). ys ++ repeat (n - (i + 1)) xs) (repeat_more i xs) in
    tells_err r (repeat n xs) a c err (subst (λ (text : List ℕ). Fails text a c) (sym all)
    (fails_front (repeat i xs ++ xs) (repeat (n - (i + 1)) xs) a c
    (fails_next (repeat i xs) xs a b c so_far failed)))

pub repeat_goes : (i : ℕ) (xs : List ℕ) (a b c : Way) → GoesOn (repeat i xs) a b → GoesOn xs b c
    → GoesOn (repeat (i + 1) xs) a c
repeat_goes i xs a b c so_far next =
    subst (λ (text : List ℕ). GoesOn text a c) (sym (repeat_more i xs)) (goes_then (repeat i xs) xs a b c so_far next)
