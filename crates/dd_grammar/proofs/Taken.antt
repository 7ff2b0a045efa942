-- What a step of reading took from the front of the bytes, and what the enclosing length leaves after it.
use Rattle.std.proofs.Common.{◌≡◌, ℕ, ◌+◌, ◌≤◌, true, false, nat_lt, List, [], ◌++◌, length, take, drop, Option, Some}
use Rattle.std.proofs.Common.{None, Ok, refl, sym, ap, subst, ◌∙◌, append_assoc, arith}
use Rattle.std.proofs.lemmas.Bool.{ltb-false, eqb-true}
use Rattle.std.proofs.lemmas.List.{take-append-drop, length-append, length-take-le}
use Rattle.dd_grammar.specs.declared.fault.SetFault.TheVariants.{Truncated, Overrun}
use Rattle.dd_encoding.specs.declared.syntax.Length.{Length}
use Rattle.dd_encoding.specs.declared.syntax.Length.TheVariants.{Defined, Undefined}
use Rattle.dd_stream.specs.Bytes.{AreBytes}
use Rattle.dd_encoding.specs.Spelling.{closed}
use Rattle.dd_grammar.specs.Reading.{At, Reads, leaves_fewer, left_after, take_at, no_byte_left, within}
use Rattle.dd_grammar.proofs.Steps.{bind_ok, passes, ok_is, AreBytes-drop, AreBytes-take}

-- n bytes of what one length leaves are taken, and the other is left
abbrev pub Leaves : Option ℕ → ℕ → Option ℕ → Type 0
Leaves None n None = Unit {0}
Leaves None n (Some after) = ⊥
Leaves (Some before) n None = ⊥
Leaves (Some before) n (Some after) = before ≡ n + after

-- none are taken
pub Leaves-none : (left : Option ℕ) → Leaves left 0 left
Leaves-none None = tt
Leaves-none (Some n) = omega arith

-- one count after another
pub Leaves-then : (a b c : Option ℕ) (n m : ℕ) → Leaves a n b → Leaves b m c → Leaves a (n + m) c
Leaves-then None None None n m p q = tt
Leaves-then (Some a) (Some b) (Some c) n m p q = omega arith
Leaves-then None (Some b) c n m p q = absurd p
Leaves-then (Some a) None c n m p q = absurd p
Leaves-then None None (Some c) n m p q = absurd q
Leaves-then (Some a) (Some b) None n m p q = absurd q

-- where no fewer are left
pub Leaves-left_after : (left : Option ℕ) (n : ℕ) → leaves_fewer left n ≡ false → Leaves left n (left_after left n)
Leaves-left_after None n h = tt
Leaves-left_after (Some left) n h = let enough : n ≤ left = ltb-false _ _ h in omega arith

-- reading took this text
pub record Takes (at : At) (text : List ℕ) (next : At) : Type 0 where
  pub parts : at.bytes ≡ text ++ next.bytes
  pub left : Leaves at.left (length text) next.left
  pub fits : AreBytes next.bytes

-- reading took nothing
pub Takes-none : (at : At) → AreBytes at.bytes → Takes at [] at
Takes-none at fits = record { parts = refl; left = Leaves-none at.left; fits = fits }

-- one text after another
pub Takes-then : (a b c : At) (x y : List ℕ) → Takes a x b → Takes b y c → Takes a (x ++ y) c
Takes-then a b c x y p q = record {
  parts = p.parts ∙ ap (λ (t : List ℕ). x ++ t) q.parts ∙ sym (append_assoc x y c.bytes);
  left = subst (λ (n : ℕ). Leaves a.left n c.left) (sym (length-append x y))
      (Leaves-then a.left b.left c.left (length x) (length y) p.left q.left);
  fits = q.fits;
}

-- bytes that are taken
pub taken : (n : ℕ) (at : At) (x : List ℕ × At) → AreBytes at.bytes → take_at n at ≡ Ok x → Takes at x.0 x.1
    × (length x.0 ≡ n) × AreBytes x.0
unfolding take_at
taken n at x fits e =
    let a = passes (leaves_fewer at.left n) Overrun _ x e in
    let b = passes (nat_lt (length at.bytes) n) Truncated _ x a.1 in
    let long : n ≤ length at.bytes = ltb-false _ _ b.0 in
    let len : length (take n at.bytes) ≡ n = length-take-le n at.bytes long in
    let next : At = record { left = left_after at.left n; bytes = drop n at.bytes } in
    let left : Leaves at.left (length (take n at.bytes)) next.left =
    subst (λ (k : ℕ). Leaves at.left k next.left) (sym len) (Leaves-left_after at.left n a.0) in
    let all : Takes at (take n at.bytes) next = record {
      parts = sym (take-append-drop n at.bytes);
      left = left;
      fits =
          AreBytes-drop n at.bytes fits;
    } in
    subst (λ (y : List ℕ × At). Takes at y.0 y.1 × (length y.0 ≡ n) × AreBytes y.0)
    (ok_is (take n at.bytes, next) x b.1) (all, len, AreBytes-take n at.bytes fits)

-- where the length is defined, no byte is left here
abbrev pub Ends : Length → At → Type 0
Ends Defined at = no_byte_left at.left at.bytes ≡ true
Ends Undefined at = Unit {0}

-- the mark of an end stands after all
pub closed-append : (form : Length) (mark x y : List ℕ) → closed form mark (x ++ y) ≡ x ++ closed form mark y
closed-append Defined mark x y = refl
closed-append Undefined mark x y = append_assoc x y mark

-- what n bytes alone hold is n bytes long
pub ended_length : (n k : ℕ) (next : At) → Leaves (Some n) k next.left → Ends Defined next → n ≡ k
ended_length n k next h over = go next.left h over
  where
    go : (left : Option ℕ) → Leaves (Some n) k left → no_byte_left left next.bytes ≡ true → n ≡ k
    go None h over = absurd h
    go (Some l) h over = let none : l ≡ 0 = eqb-true _ _ over in omega arith

-- reading within n bytes, up to their end
module _ {X : Type 0} (n : ℕ) (at : At) (read : At → Reads X) (text : X → List ℕ) (Valid : X → Type 0)
    (law : (x : X × At) → read (record { left = Some n; bytes = at.bytes }) ≡ Ok x
    → Takes (record { left = Some n; bytes = at.bytes }) (text x.0) x.1 × Valid x.0 × Ends Defined x.1) where
  pub within_takes : (x : X × At) → leaves_fewer at.left n ≡ false → within n at read ≡ Ok x → Takes at (text x.0) x.1
      × (n ≡ length (text x.0)) × Valid x.0
  within_takes x enough e =
      let inner : At = record { left = Some n; bytes = at.bytes } in
      let a = bind_ok (read inner) (λ (y : X × At). Ok (y.0, record { left = left_after at.left n; bytes = y.1.bytes })) x e
      in
      let y : X × At = a.0 in
      let l = law y a.1 in
      let len : n ≡ length (text y.0) = ended_length n (length (text y.0)) y.1 l.0.left l.2 in
      let next : At = record { left = left_after at.left n; bytes = y.1.bytes } in
      let left : Leaves at.left (length (text y.0)) next.left =
      subst (λ (k : ℕ). Leaves at.left k next.left) len (Leaves-left_after at.left n enough) in
      let all : Takes at (text y.0) next = record { parts = l.0.parts; left = left; fits = l.0.fits } in
      subst (λ (z : X × At). Takes at (text z.0) z.1 × (n ≡ length (text z.0)) × Valid z.0) (ok_is (y.0, next) x a.2)
      (all, len, l.1)
