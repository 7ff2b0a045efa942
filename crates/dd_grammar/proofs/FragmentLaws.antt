-- Fragments: what is read is spelled so, what is spelled so is read again, and reading them one after the other.
use Rattle.std.proofs.Common.{◌≡◌, ◌≢◌, ℕ, zero, suc, ◌-◌, ◌%◌, ◌^◌, ◌<◌, ◌==◌, if◌then◌else◌, List, [], ◌∷◌, ◌++◌}
use Rattle.std.proofs.Common.{length, drop, Option, Some, None, Ok, Err, refl, sym, ap, subst, ◌∙◌, append_assoc}
use Rattle.std.proofs.Common.{append-nil, arith, inl, inr}
use Rattle.std.proofs.lemmas.Bool.{eqb-true, eqb-false, ne_eqb}
use Rattle.std.proofs.lemmas.List.{length-append}
use Rattle.byteorder.specs.Endian.{little_bytes}
use Rattle.dd_grammar.specs.declared.fault.SetFault.{SetFault}
use Rattle.dd_grammar.specs.declared.fault.SetFault.TheVariants.{OddLength, UndefinedLength, UnexpectedTag}
use Rattle.dd_grammar.specs.declared.fault.SetFault.TheVariants.{BadDelimiter}
use Rattle.dd_encoding.specs.declared.syntax.Length.TheVariants.{Undefined}
use Rattle.dd_stream.specs.Bytes.{AreBytes}
use Rattle.dd_grammar.specs.AnswersAs.{FailsAs}
use Rattle.dd_grammar.specs.Faults.{is_memory}
use Rattle.dd_encoding.specs.Spelling.{undefined_length, header_text, item_tag, item_tag_text, sequence_end_tag}
use Rattle.dd_encoding.specs.Spelling.{sequence_end_text, fragment_text, fragments_text, AreFragments}
use Rattle.dd_grammar.specs.Reading.{At, Reads, ◌>>=◌, there, take_at, eight_at, head_at, long_of, is_item}
use Rattle.dd_grammar.specs.Reading.{is_sequence_end, item_opening, after_item_head, item_front_at, fragment_length}
use Rattle.dd_grammar.specs.Reading.{fragment_after, fragment_at, next_fragments, fragments_at, fragments_here}
use Rattle.dd_grammar.proofs.Steps.{done, bind_ok, passes, allowed, chosen, ok_is, long_below, long_again}
use Rattle.dd_grammar.proofs.Steps.{AreBytes-drop}
use Rattle.dd_grammar.proofs.Taken.{Takes, Takes-then, taken}
use Rattle.dd_grammar.proofs.HeaderLaws.{head_is}
use Rattle.dd_grammar.proofs.Before.{more, before, after, before-append, past, onward, take_again}
use Rattle.dd_grammar.proofs.Loops.{fails_along}

-- ---- what is read is spelled so

-- the header of a fragment, or the end of the list, that was read
abbrev FrontTaken : At → Option ℕ → At → Type 0
FrontTaken at None next = Takes at sequence_end_text next
FrontTaken at (Some n) next = Takes at (item_tag_text ++ little_bytes 4 n) next × (n < 2 ^ 32)

opening_takes : (at : At) (head : List ℕ) (end : At) (o : Option ℕ) → Takes at head end → length head ≡ 8
    → AreBytes head → item_opening Undefined head ≡ Ok o → FrontTaken at o end
unfolding item_opening
opening_takes at head end o took len fits e =
    elim (chosen (is_sequence_end head) (if long_of head == 0 then Ok None else Err BadDelimiter)
    (if is_item head then Ok (Some (long_of head)) else Err UnexpectedTag) (Ok o) e) [
      | inl ends ↦
          let none = allowed (long_of head == 0) BadDelimiter (Ok None) o ends.1 in
          let mark : head ≡ sequence_end_text = head_is head sequence_end_tag len fits ends.0
          ∙ ap (λ (n : ℕ). header_text sequence_end_tag None n) (eqb-true _ _ none.0) in
          subst (λ (y : Option ℕ). FrontTaken at y end) (ok_is None o none.1)
          (subst (λ (y : List ℕ). Takes at y end) mark took)
      | inr goes ↦
          let is = allowed (is_item head) UnexpectedTag (Ok (Some (long_of head))) o goes.1 in
          let front : head ≡ item_tag_text ++ little_bytes 4 (long_of head) = head_is head item_tag len fits is.0 in
          let low : long_of head < 2 ^ 32 = long_below (drop 4 head) (AreBytes-drop 4 head fits) in
          subst (λ (y : Option ℕ). FrontTaken at y end) (ok_is (Some (long_of head)) o is.1)
          (subst (λ (y : List ℕ). Takes at y end) front took, low)
    ]

front_takes : (at : At) (x : Option ℕ × At) → AreBytes at.bytes → item_front_at Undefined at ≡ Ok x
    → FrontTaken at x.0 x.1
unfolding item_front_at head_at
front_takes at x fits e =
    let b = bind_ok (eight_at at) (after_item_head Undefined) x e in
    let h = bind_ok (take_at 8 at) there b.0 b.1 in
    let head : List ℕ = h.0.0 in
    let end : At = h.0.1 in
    let t = taken 8 at h.0 fits h.1 in
    let opened : after_item_head Undefined (Some head, end) ≡ Ok x =
    ap (λ (y : Option (List ℕ) × At). after_item_head Undefined y) (ok_is (Some head, end) b.0 h.2) ∙ b.2 in
    let i = bind_ok (item_opening Undefined head) (λ length. Ok (length, end)) x opened in
    subst (λ (y : Option ℕ × At). FrontTaken at y.0 y.1) (ok_is (i.0, end) x i.2)
    (opening_takes at head end i.0 t.0 t.1 t.2 i.1)

-- a fragment that was read, or the end of the list
abbrev FragmentTaken : At → Option (List ℕ) → At → Type 0
FragmentTaken at None next = Takes at sequence_end_text next
FragmentTaken at (Some f) next = Takes at (fragment_text f) next × (length f % 2 ≡ 0) × (length f < undefined_length)

-- a length that a fragment may have
length_is : (n k : ℕ) → n < 2 ^ 32 → fragment_length n ≡ Ok k → (n ≡ k) × (k % 2 ≡ 0) × (k < undefined_length)
unfolding fragment_length
length_is n k lt e =
    let a = passes (n == undefined_length) UndefinedLength (if n % 2 == 1 then Err OddLength else Ok n) k e in
    let b = passes (n % 2 == 1) OddLength (Ok n) k a.1 in
    let same : n ≡ k = ok_is n k b.1 in
    let ne : n ≡ undefined_length → ⊥ = eqb-false _ _ a.0 in
    let even : n % 2 ≢ 1 = eqb-false _ _ b.0 in
    (same, omega arith, omega arith)

after_takes : (at : At) (o : Option ℕ) (mid : At) (x : Option (List ℕ) × At) → AreBytes mid.bytes
    → FrontTaken at o mid → fragment_after (o, mid) ≡ Ok x → FragmentTaken at x.0 x.1
after_takes at None mid x fits took e = subst (λ (y : Option (List ℕ) × At). FragmentTaken at y.0 y.1)
    (ok_is (None, mid) x e) took
after_takes at (Some n) mid x fits took e =
    let l = bind_ok (fragment_length n) (λ k. take_at k mid >>= there) x e in
    let is = length_is n l.0 took.1 l.1 in
    let t = bind_ok (take_at l.0 mid) there x l.2 in
    let f : List ℕ = t.0.0 in
    let k = taken l.0 mid t.0 fits t.1 in
    let len : length f ≡ n = k.1 ∙ sym is.0 in
    let both : Takes at ((item_tag_text ++ little_bytes 4 n) ++ f) t.0.1 =
    Takes-then at mid t.0.1 (item_tag_text ++ little_bytes 4 n) f took.0 k.0 in
    let whole : Takes at (fragment_text f) t.0.1 = subst (λ (m : ℕ). Takes at
    ((item_tag_text ++ little_bytes 4 m) ++ f) t.0.1) (sym len) both in
    let even : length f % 2 ≡ 0 = ap (λ (m : ℕ). m % 2) k.1 ∙ is.1 in
    let low : length f < undefined_length = subst (λ (m : ℕ). m < undefined_length) (sym k.1) is.2 in
    subst (λ (y : Option (List ℕ) × At). FragmentTaken at y.0 y.1) (ok_is (Some f, t.0.1) x t.2) (whole, even, low)

front_fits : (at : At) (o : Option ℕ) (mid : At) → FrontTaken at o mid → AreBytes mid.bytes
front_fits at None mid h = h.fits
front_fits at (Some n) mid h = h.0.fits

fragment_takes : (at : At) (x : Option (List ℕ) × At) → AreBytes at.bytes → fragment_at at ≡ Ok x
    → FragmentTaken at x.0 x.1
unfolding fragment_at
fragment_takes at x fits e =
    let b = bind_ok (item_front_at Undefined at) fragment_after x e in
    let t = front_takes at b.0 fits b.1 in
    after_takes at b.0.0 b.0.1 x (front_fits at b.0.0 b.0.1 t) t b.2

-- fragments that were read, to the end of their list
abbrev pub FragmentsTaken : At → List (List ℕ) → At → Type 0
FragmentsTaken at fs next = Takes at (fragments_text fs ++ sequence_end_text) next × AreFragments fs

fragment_fits : (at : At) (o : Option (List ℕ)) (next : At) → FragmentTaken at o next → AreBytes next.bytes
fragment_fits at None next h = h.fits
fragment_fits at (Some f) next h = h.0.fits

next_takes : (at : At) (others : At → Reads (List (List ℕ)))
    → ((a : At) (y : List (List ℕ) × At) → AreBytes a.bytes → others a ≡ Ok y → FragmentsTaken a y.0 y.1)
    → (o : Option (List ℕ)) (next : At) (x : List (List ℕ) × At) → FragmentTaken at o next
    → next_fragments others (o, next) ≡ Ok x → FragmentsTaken at x.0 x.1
next_takes at others ih None next x h e = subst (λ (y : List (List ℕ) × At). FragmentsTaken at y.0 y.1)
    (ok_is ([], next) x e) (h, tt)
next_takes at others ih (Some f) next x h e =
    let a = bind_ok (others next) (λ y. Ok (f ∷ y.0, y.1)) x e in
    let r = ih next a.0 h.0.fits a.1 in
    let tail : List ℕ = fragments_text a.0.0 ++ sequence_end_text in
    let both : Takes at (fragment_text f ++ tail) a.0.1 = Takes-then at next a.0.1 (fragment_text f) tail h.0 r.0 in
    let whole : Takes at (fragments_text (f ∷ a.0.0) ++ sequence_end_text) a.0.1 =
    subst (λ (y : List ℕ). Takes at y a.0.1)
    (sym (append_assoc (fragment_text f) (fragments_text a.0.0) sequence_end_text)) both in
    subst (λ (y : List (List ℕ) × At). FragmentsTaken at y.0 y.1) (ok_is (f ∷ a.0.0, a.0.1) x a.2)
    (whole, (h.1, h.2, r.1))

pub fragments_take : (most : ℕ) (at : At) (x : List (List ℕ) × At) → AreBytes at.bytes → fragments_at most at ≡ Ok x
    → FragmentsTaken at x.0 x.1
unfolding fragments_at
fragments_take zero at x fits e = absurd cc
fragments_take (suc most) at x fits e =
    let a = bind_ok (fragment_at at) (next_fragments (fragments_at most)) x e in
    next_takes at (fragments_at most) (λ b y k r. fragments_take most b y k r) a.0.0 a.0.1 x
    (fragment_takes at a.0 fits a.1) a.2

-- ---- what is spelled so is read again

front_again : (n : ℕ) (left : Option ℕ) (rest : List ℕ) → n < 2 ^ 32
    → item_front_at Undefined (before left (item_tag_text ++ little_bytes 4 n) rest) ≡ Ok (Some n, after left rest)
unfolding item_front_at head_at item_opening
front_again n left rest lt =
    let head : List ℕ = item_tag_text ++ little_bytes 4 n in
    let start : At = before left head rest in
    onward (eight_at start) (Some head, after left rest) (after_item_head Undefined)
    (onward (take_at 8 start) (head, after left rest) there (take_again 8 left head rest refl))
    ∙ ap (λ (k : ℕ). done (Some k, after left rest)) (long_again n [] lt)

list_end_again : (left : Option ℕ) (rest : List ℕ)
    → item_front_at Undefined (before left sequence_end_text rest) ≡ Ok (None, after left rest)
unfolding item_front_at head_at item_opening
list_end_again left rest =
    let start : At = before left sequence_end_text rest in
    onward (eight_at start) (Some sequence_end_text, after left rest) (after_item_head Undefined)
    (onward (take_at 8 start) (sequence_end_text, after left rest) there
    (take_again 8 left sequence_end_text rest refl))

length_again : (n : ℕ) → n % 2 ≡ 0 → n < undefined_length → fragment_length n ≡ Ok n
unfolding fragment_length
length_again n even low =
    past (n == undefined_length) _ _ (ne_eqb n undefined_length (λ e. omega arith))
    ∙ past (n % 2 == 1) _ _ (ne_eqb (n % 2) 1 (λ e. omega arith))

fragment_again : (f : List ℕ) (left : Option ℕ) (rest : List ℕ) → length f % 2 ≡ 0 → length f < undefined_length
    → fragment_at (before left (fragment_text f) rest) ≡ Ok (Some f, after left rest)
unfolding fragment_at
fragment_again f left rest even low =
    let head : List ℕ = item_tag_text ++ little_bytes 4 (length f) in
    let middle : At = before left f rest in
    let split : before left (fragment_text f) rest ≡ before (more left (length f)) head (f ++ rest) =
    before-append left head f rest in
    ap (λ (at : At). item_front_at Undefined at >>= fragment_after) split
    ∙ onward (item_front_at Undefined (before (more left (length f)) head (f ++ rest))) (Some (length f), middle)
    fragment_after (front_again (length f) (more left (length f)) (f ++ rest) (omega arith))
    ∙ onward (fragment_length (length f)) (length f) (λ k. take_at k middle >>= there)
    (length_again (length f) even low)
    ∙ onward (take_at (length f) middle) (f, after left rest) there (take_again (length f) left f rest refl)

list_over_again : (left : Option ℕ) (rest : List ℕ)
    → fragment_at (before left sequence_end_text rest) ≡ Ok (None, after left rest)
unfolding fragment_at
list_over_again left rest = onward (item_front_at Undefined (before left sequence_end_text rest))
    (None, after left rest) fragment_after (list_end_again left rest)

pub fragments_again : (fs : List (List ℕ)) (most : ℕ) (left : Option ℕ) (rest : List ℕ) → AreFragments fs
    → length (fragments_text fs) < most
    → fragments_at most (before left (fragments_text fs ++ sequence_end_text) rest) ≡ Ok (fs, after left rest)
unfolding fragments_at
fragments_again fs zero left rest h lt = absurd (omega arith)
fragments_again [] (suc most) left rest h lt =
    onward (fragment_at (before left sequence_end_text rest)) (None, after left rest)
    (next_fragments (fragments_at most)) (list_over_again left rest)
fragments_again (f ∷ fs) (suc most) left rest h lt =
    let tail : List ℕ = fragments_text fs ++ sequence_end_text in
    let start : before left (fragments_text (f ∷ fs) ++ sequence_end_text) rest ≡ before (more left (length tail))
    (fragment_text f) (tail ++ rest) =
    ap (λ (y : List ℕ). before left y rest) (append_assoc (fragment_text f) (fragments_text fs) sequence_end_text)
    ∙ before-append left (fragment_text f) tail rest in
    let fewer : length (fragments_text fs) < most =
    let e = length-append (fragment_text f) (fragments_text fs) in omega arith in
    ap (λ (at : At). fragments_at (suc most) at) start
    ∙ onward (fragment_at (before (more left (length tail)) (fragment_text f) (tail ++ rest)))
    (Some f, before left tail rest) (next_fragments (fragments_at most))
    (fragment_again f (more left (length tail)) (tail ++ rest) h.0 h.1)
    ∙ onward (fragments_at most (before left tail rest)) (fs, after left rest) (λ x. done (f ∷ x.0, x.1))
    (fragments_again fs most left rest h.2 fewer)

-- a whole list
pub list_again : (fs : List (List ℕ)) (left : Option ℕ) (rest : List ℕ) → AreFragments fs
    → fragments_here (before left (fragments_text fs ++ sequence_end_text) rest) ≡ Ok (fs, after left rest)
list_again fs left rest h =
    let text : List ℕ = fragments_text fs ++ sequence_end_text in
    let a = length-append text rest in
    let b = length-append (fragments_text fs) sequence_end_text in
    fragments_again fs (suc (length (text ++ rest))) left rest h (omega arith)

-- ---- one after the other

-- what was read before, and what is still read
abbrev pub with_fragments : List (List ℕ) → Reads (List (List ℕ)) → Reads (List (List ℕ))
with_fragments front read = read >>= λ x. Ok (front ++ x.0, x.1)

regroup : (front : List (List ℕ)) (f : List ℕ) (read : Reads (List (List ℕ)))
    → with_fragments front (read >>= λ x. Ok (f ∷ x.0, x.1)) ≡ with_fragments (front ++ f ∷ []) read
regroup front f (Ok x) = ap (λ (fs : List (List ℕ)). Ok (fs, x.1)) (sym (append_assoc front (f ∷ []) x.0))
regroup front f (Err e) = refl

pub with_no_fragments : (r : Reads (List (List ℕ))) → with_fragments [] r ≡ r
with_no_fragments (Ok x) = refl
with_no_fragments (Err e) = refl

pub fragments_more : (n most : ℕ) (front : List (List ℕ)) (at end : At) (f : List ℕ) (total : Reads (List (List ℕ)))
    → n < most → fragment_at at ≡ Ok (Some f, end) → with_fragments front (fragments_at most at) ≡ total
    → with_fragments (front ++ f ∷ []) (fragments_at (most - 1) end) ≡ total
unfolding fragments_at
fragments_more n zero front at end f total lt h so_far = absurd (omega arith)
fragments_more n (suc most) front at end f total lt h so_far =
    let k : suc most - 1 ≡ most = omega arith in
    let one : with_fragments front (fragments_at (suc most) at) ≡ with_fragments (front ++ f ∷ [])
    (fragments_at most end) = rw h (regroup front f (fragments_at most end)) in
    rw k (sym one ∙ so_far)

pub fragments_done : (n most : ℕ) (front : List (List ℕ)) (at end : At) (total : Reads (List (List ℕ))) → n < most
    → fragment_at at ≡ Ok (None, end) → with_fragments front (fragments_at most at) ≡ total → total ≡ Ok (front, end)
unfolding fragments_at
fragments_done n zero front at end total lt h so_far = absurd (omega arith)
fragments_done n (suc most) front at end total lt h so_far =
    let one : with_fragments front (fragments_at (suc most) at) ≡ Ok (front, end) =
    rw h (ap (λ (fs : List (List ℕ)). Ok (fs, end)) (append-nil front)) in
    sym so_far ∙ one

pub fragments_fail : (n most : ℕ) (front : List (List ℕ)) (at : At) (total : Reads (List (List ℕ))) (e : SetFault)
    → n < most → FailsAs is_memory e (fragment_at at) → with_fragments front (fragments_at most at) ≡ total
    → FailsAs is_memory e total
unfolding fragments_at
fragments_fail n zero front at total e lt h so_far = absurd (omega arith)
fragments_fail n (suc most) front at total e lt h so_far = fails_along e (fragment_at at) total h
    (λ f k. sym so_far ∙ rw k refl)
