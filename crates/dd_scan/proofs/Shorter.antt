-- No step of reading gives bytes back, and a header takes some.
use Rattle.std.proofs.Common.{◌≡◌, ◌<◌, ◌≤◌, ◌+◌, ℕ, Bool, true, false, if◌then◌else◌, List, length, take, drop, Option}
use Rattle.std.proofs.Common.{Some, None, Ok, Err, refl, ap, nat_lt, ◌==◌, arith}
use Rattle.std.proofs.lemmas.Bool.{ltb-false}
use Rattle.std.proofs.lemmas.List.{length-drop}
use Rattle.dd_elem.specs.declared.vr.Vr.{Vr}
use Rattle.dd_elem.specs.Tag.{number_of}
use Rattle.dd_elem.specs.Vr.{vr_of}
use Rattle.dd_grammar.specs.declared.fault.SetFault.{SetFault}
use Rattle.dd_grammar.specs.declared.fault.SetFault.TheVariants.{Truncated, Order, UnexpectedTag, Overrun}
use Rattle.dd_encoding.specs.declared.syntax.Length.{Length}
use Rattle.dd_encoding.specs.declared.syntax.Length.TheVariants.{Undefined}
use Rattle.dd_encoding.specs.declared.syntax.Syntax.{Syntax}
use Rattle.dd_grammar.specs.Reading.{Header, there, header_with, eight_at, head_at, header_at, opening_at, after_head}
use Rattle.dd_grammar.specs.Reading.{front_at, item_opening, after_item_head, item_front_at, At, Reads, ◌>>=◌}
use Rattle.dd_grammar.specs.Reading.{leaves_fewer, take_at, tag_of, is_over, shape_at, shape_where, explicit_at}
use Rattle.dd_grammar.specs.Reading.{long_length_at, long_at, fragment_length, fragment_after, fragment_at}
use Rattle.dd_encoding.specs.Spelling.{delimiter_group, names_vr}
use Rattle.dd_grammar.proofs.Steps.{passes, bind_ok, ok_is}

-- what was read left at most n bytes
record AtMost {X : Type 0} (n : ℕ) (r : Reads X) : Type 0 where
  pub left : (x : X × At) → r ≡ Ok x → length x.1.bytes ≤ n

-- where something was read, it left fewer than n
pub record Shortens {X : Type 0} (n : ℕ) (r : Reads (Option X)) : Type 0 where
  pub left : (x : X) (end : At) → r ≡ Ok (Some x, end) → length end.bytes < n

-- nothing is not something
nothing_read : {X : Type 0} (x : X) (a b : At) → ◌≡◌ {A = Reads (Option X)} (Ok (None, a)) (Ok (Some x, b)) → ⊥
nothing_read {X = X} x a b h = let e : ◌≡◌ {A = Option X} None (Some x) = ap (λ (y : Option X × At). y.0) (ok_is _ _ h)
    in absurd cc

at_most_here : {X : Type 0} (x : X × At) → AtMost (length x.1.bytes) (Ok x)
at_most_here x = record {
  left = λ y e. let same = ok_is _ _ e in
      omega (arith, ap (λ (z : _ × At). length z.1.bytes) same);
}

at_most_none : {X : Type 0} (n : ℕ) (e : SetFault) → AtMost {X = X} n (Err e)
at_most_none n e = record { left = λ y h. absurd cc }

at_most_either : {X : Type 0} (n : ℕ) (b : Bool) (r s : Reads X) → AtMost n r → AtMost n s
    → AtMost n (if b then r else s)
at_most_either n true r s h k = h
at_most_either n false r s h k = k

at_most_then : {X Y : Type 0} (n : ℕ) (r : Reads X) (f : X × At → Reads Y) → AtMost n r
    → ((x : X × At) → AtMost (length x.1.bytes) (f x)) → AtMost n (r >>= f)
at_most_then n (Ok x) f h k = record { left = λ y e. omega (arith, (k x).left y e, h.left x refl) }
at_most_then n (Err e) f h k = record { left = λ y h. absurd cc }

-- where n bytes are taken, n fewer are left
take_fewer : (n : ℕ) (at end : At) (x : List ℕ) → take_at n at ≡ Ok (x, end) → length end.bytes + n ≡ length at.bytes
unfolding take_at
take_fewer n at end x h =
    let a = passes (leaves_fewer at.left n) Overrun _ (x, end) h in
    let b = passes _ Truncated _ (x, end) a.1 in
    let rest : drop n at.bytes ≡ end.bytes = ap (λ (y : List ℕ × At). y.1.bytes) (ok_is _ _ b.1) in
    omega (arith, ltb-false _ _ b.0, length-drop n at.bytes, ap length rest)

take_at_most : (n : ℕ) (at : At) → AtMost (length at.bytes) (take_at n at)
take_at_most n at = record { left = λ x e. omega (arith, take_fewer n at x.1 x.0 e) }

shape_at_most : (syntax : Syntax) (head : List ℕ) (at : At) → AtMost (length at.bytes) (shape_at syntax head at)
unfolding shape_at long_at long_length_at
shape_at_most syntax head at = go (names_vr syntax)
  where
    long : (vr : Vr) → AtMost (length at.bytes) (long_at vr head at)
    long vr = at_most_either _ _ _ _ (at_most_then _ (long_length_at at) _
        (at_most_then _ (take_at 4 at) _ (take_at_most 4 at) (λ x. at_most_here (_, x.1)))
        (λ x. at_most_here (_, x.1))) (at_most_none _ _)

    explicit : (o : Option Vr) → AtMost (length at.bytes) (explicit_at o head at)
    explicit None = at_most_none _ _
    explicit (Some vr) = at_most_either _ _ _ _ (long vr) (at_most_here (_, at))

    go : (named : Bool) → AtMost (length at.bytes) (shape_where named head at)
    go true = explicit (vr_of (take 2 (drop 4 head)))
    go false = at_most_here (_, at)

header_at_most : (syntax : Syntax) (low : ℕ) (head : List ℕ) (at : At)
    → AtMost (length at.bytes) (header_at syntax low head at)
unfolding header_at
header_at_most syntax low head at =
    at_most_either _ ((tag_of head).group == delimiter_group) _ _ (at_most_none _ UnexpectedTag)
    (at_most_either _ (nat_lt (number_of (tag_of head)) low) _ _ (at_most_none _ Order)
    (at_most_then _ _ (header_with (tag_of head)) (shape_at_most syntax head at) (λ x. at_most_here (_, x.1))))

opening_at_most : (syntax : Syntax) (form : Length) (low : ℕ) (head : List ℕ) (at : At)
    → AtMost (length at.bytes) (opening_at syntax form low head at)
unfolding opening_at
opening_at_most syntax form low head at =
    at_most_either _ _ _ _ (at_most_either _ _ _ _ (at_most_here (None, at)) (at_most_none _ _))
    (at_most_then _ _ _ (header_at_most syntax low head at) (λ x. at_most_here (_, x.1)))

-- ---- headers

head_shortens : (form : Length) (at end : At) (head : List ℕ) → head_at form at ≡ Ok (Some head, end)
    → length end.bytes < length at.bytes
unfolding head_at
head_shortens form at end head = go (is_over form at)
  where
    go : (b : Bool) → (if b then Ok (None, at) else eight_at at) ≡ Ok (Some head, end)
        → length end.bytes < length at.bytes
    go true h = absurd (nothing_read head at end h)
    go false h =
        let e = bind_ok (take_at 8 at) there (Some head, end) h in
        let same : e.0.1 ≡ end = ap (λ (y : Option (List ℕ) × At). y.1) (ok_is _ _ e.2) in
        omega (arith, take_fewer 8 at e.0.1 e.0.0 e.1, ap (λ (a : At). length a.bytes) same)

-- the header of an element takes bytes
pub front_shortens : (syntax : Syntax) (form : Length) (low : ℕ) (at : At)
    → Shortens (length at.bytes) (front_at syntax form low at)
unfolding front_at
front_shortens syntax form low at = record {
  left = λ header end h.
      let e = bind_ok (head_at form at) (after_head syntax form low) (Some header, end) h in
      go e.0.0 e.0.1 header end e.1 e.2;
}
  where
    go : (o : Option (List ℕ)) (mid : At) (header : Header) (end : At) → head_at form at ≡ Ok (o, mid)
        → after_head syntax form low (o, mid) ≡ Ok (Some header, end) → length end.bytes < length at.bytes
    go None mid header end e h = absurd (nothing_read header mid end h)
    go (Some head) mid header end e h = omega (
      arith,
      head_shortens form at mid head e,
      (opening_at_most syntax form low head mid).left (Some header, end) h,
    )

-- the header of an item takes bytes
pub item_front_shortens : (form : Length) (at : At) → Shortens (length at.bytes) (item_front_at form at)
unfolding item_front_at
item_front_shortens form at = record {
  left = λ n end h.
      let e = bind_ok (head_at form at) (after_item_head form) (Some n, end) h in
      go e.0.0 e.0.1 n end e.1 e.2;
}
  where
    go : (o : Option (List ℕ)) (mid : At) (n : ℕ) (end : At) → head_at form at ≡ Ok (o, mid)
        → after_item_head form (o, mid) ≡ Ok (Some n, end) → length end.bytes < length at.bytes
    go None mid n end e h = absurd (nothing_read n mid end h)
    go (Some head) mid n end e h =
        let b = bind_ok (item_opening form head) _ (Some n, end) h in
        let same : mid ≡ end = ap (λ (y : Option ℕ × At). y.1) (ok_is _ _ b.2) in
        omega (arith, head_shortens form at mid head e, ap (λ (a : At). length a.bytes) same)

-- a fragment takes bytes
fragment_left : (at : At) (o : Option ℕ) (mid : At) (f : List ℕ) (end : At) → item_front_at Undefined at ≡ Ok (o, mid)
    → fragment_after (o, mid) ≡ Ok (Some f, end) → length end.bytes < length at.bytes
fragment_left at None mid f end e h = absurd (nothing_read f mid end h)
fragment_left at (Some n) mid f end e h =
    let l = bind_ok (fragment_length n) (λ k. take_at k mid >>= there) (Some f, end) h in
    let t = bind_ok (take_at l.0 mid) there (Some f, end) l.2 in
    let same : t.0.1 ≡ end = ap (λ (y : Option (List ℕ) × At). y.1) (ok_is _ _ t.2) in
    omega (
      arith,
      take_fewer l.0 mid t.0.1 t.0.0 t.1,
      (item_front_shortens Undefined at).left n mid e,
      ap (λ (a : At). length a.bytes) same,
    )

pub fragment_shortens : (at : At) → Shortens (length at.bytes) (fragment_at at)
unfolding fragment_at
fragment_shortens at = record {
  left = λ f end h.
      let b = bind_ok (item_front_at Undefined at) fragment_after (Some f, end) h in
      fragment_left at b.0.0 b.0.1 f end b.1 b.2;
}
