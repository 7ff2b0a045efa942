-- Where reading stands before a text and after it, and the steps between.
use Rattle.std.proofs.Common.{◌≡◌, ℕ, ◌+◌, ◌-◌, ◌^◌, ◌<◌, Bool, true, false, nat_lt, if◌then◌else◌, List, [], ◌∷◌, ◌++◌}
use Rattle.std.proofs.Common.{length, take, drop, Option, Some, None, Result, Ok, refl, sym, ap, ap₂, subst, ◌∙◌}
use Rattle.std.proofs.Common.{append_assoc, arith}
use Rattle.std.specs.Int.{w32, from_le_bytes}
use Rattle.std.proofs.lemmas.Bool.{le-ltb, ne_eqb}
use Rattle.std.proofs.lemmas.List.{take_at as take_front, drop_at as drop_front, length-append}
use Rattle.byteorder.specs.Endian.{little_bytes}
use Rattle.dd_elem.specs.declared.tag.Tag.{Tag}
use Rattle.dd_elem.specs.declared.vr.Vr.{Vr}
use Rattle.dd_elem.specs.Vr.{letters_of, is_long_of, vr_of}
use Rattle.dd_elem.proofs.Letters.{letters_two, vr_of-letters_of}
use Rattle.dd_grammar.specs.declared.fault.SetFault.{SetFault}
use Rattle.dd_encoding.specs.declared.syntax.Length.{Length}
use Rattle.dd_encoding.specs.declared.syntax.Length.TheVariants.{Defined, Undefined}
use Rattle.dd_encoding.specs.Spelling.{tag_text, shape_text}
use Rattle.dd_grammar.specs.Reading.{◌>>=◌, At, Reads, leaves_fewer, left_after, take_at, tag_of, short_of, no_byte_left}
use Rattle.dd_grammar.specs.Reading.{is_over, Shape, long_length_at, long_at, explicit_at, shape_where, within}
use Rattle.dd_grammar.proofs.Steps.{done, short_again, long_again}
use Rattle.dd_grammar.proofs.HeaderLaws.{HasFormWhere, width_limit, long_shape, short_shape, long_width, short_width}

-- what the enclosing length leaves before n bytes, where this is left after them
abbrev pub more : Option ℕ → ℕ → Option ℕ
more None n = None
more (Some left) n = Some (n + left)

abbrev pub before : Option ℕ → List ℕ → List ℕ → At
before left text rest = record { left = more left (length text); bytes = text ++ rest }

abbrev pub after : Option ℕ → List ℕ → At
after left rest = record { left = left; bytes = rest }

-- a place by its parts
abbrev here : Option ℕ → List ℕ → At
here left bs = record { left = left; bytes = bs }

-- before two counts of bytes
more-then : (left : Option ℕ) (n m k : ℕ) → k ≡ n + m → more left k ≡ more (more left m) n
more-then None n m k e = refl
more-then (Some left) n m k e = let sum : k + left ≡ n + (m + left) = omega arith in ap (λ (l : ℕ). Some l) sum

-- before none
more-none : (left : Option ℕ) → more left 0 ≡ left
more-none None = refl
more-none (Some left) = let same : 0 + left ≡ left = omega arith in ap (λ (l : ℕ). Some l) same

-- a text in two parts
pub before-append : (left : Option ℕ) (a b rest : List ℕ) → before left (a ++ b) rest ≡ before (more left (length b)) a
    (b ++ rest)
before-append left a b rest = ap₂ here (more-then left (length a) (length b) (length (a ++ b)) (length-append a b))
    (append_assoc a b rest)

-- before no text
pub before-none : (left : Option ℕ) (rest : List ℕ) → before left [] rest ≡ after left rest
before-none left rest = ap (λ (l : Option ℕ). here l rest) (more-none left)

-- no fewer are left before n bytes than n
pub fewer_not : (left : Option ℕ) (n : ℕ) → leaves_fewer (more left n) n ≡ false
fewer_not None n = refl
fewer_not (Some left) n = le-ltb (n + left) n (omega arith)

-- what is left after them
pub left_after-more : (left : Option ℕ) (n : ℕ) → left_after (more left n) n ≡ left
left_after-more None n = refl
left_after-more (Some left) n = let same : (n + left) - n ≡ left = omega arith in ap (λ (l : ℕ). Some l) same

-- a test that does not choose the first, as one that does not refuse
pub past : {A : Type 0} (b : Bool) (x y : A) → b ≡ false → (if b then x else y) ≡ y
past b x y e = ap (λ (c : Bool). if c then x else y) e

-- a test that chooses the first
pub into : {A : Type 0} (b : Bool) (x y : A) → b ≡ true → (if b then x else y) ≡ x
into b x y e = ap (λ (c : Bool). if c then x else y) e

-- the next step of a chain
pub onward : {A B : Type 0} (r : Result A SetFault) (x : A) (f : A → Result B SetFault) → r ≡ Ok x → (r >>= f) ≡ f x
onward {A = A} r x f e = ap (λ (q : Result A SetFault). q >>= f) e

-- a text is taken from in front of the rest
pub take_again : (n : ℕ) (left : Option ℕ) (text rest : List ℕ) → length text ≡ n
    → take_at n (before left text rest) ≡ Ok (text, after left rest)
unfolding take_at
take_again n left text rest len =
    let room : leaves_fewer (more left (length text)) n ≡ false =
    subst (λ (k : ℕ). leaves_fewer (more left (length text)) k ≡ false) len (fewer_not left (length text)) in
    let long : nat_lt (length (text ++ rest)) n ≡ false = le-ltb _ _ (omega (arith, length-append text rest)) in
    let left_is : left_after (more left (length text)) n ≡ left = subst (λ (k : ℕ). left_after (more left (length text)) k ≡ left)
    len (left_after-more left (length text)) in
    let at_is : here (left_after (more left (length text)) n) (drop n (text ++ rest)) ≡ here left rest =
    ap₂ here left_is (drop_front text rest n len) in
    let pair : ◌≡◌ {A = List ℕ × At} (
      take n (text ++ rest),
      here (left_after (more left (length text)) n)
          (drop n (text ++ rest)),
    ) (text, here left rest) = ap₂ (λ (x : List ℕ) (a : At). (x, a))
    (take_front text rest n len) at_is in
    past (leaves_fewer (more left (length text)) n) _ _ room ∙ past (nat_lt (length (text ++ rest)) n) _ _ long
    ∙ ap (λ (p : List ℕ × At). done p) pair

-- what n bytes alone hold
pub within_again : {X : Type 0} (left : Option ℕ) (text rest : List ℕ) (read : At → Reads X) (x : X)
    → read (before (Some 0) text rest) ≡ Ok (x, after (Some 0) rest)
    → within (length text) (before left text rest) read ≡ Ok (x, after left rest)
within_again {X} left text rest read x h =
    let whole : length text ≡ length text + 0 = omega arith in
    let there : here (Some (length text)) (text ++ rest) ≡ before (Some 0) text rest =
    ap (λ (n : ℕ). here (Some n) (text ++ rest)) whole in
    let made : read (here (Some (length text)) (text ++ rest)) ≡ Ok (x, after (Some 0) rest) = ap read there ∙ h in
    onward (read (here (Some (length text)) (text ++ rest))) (x, after (Some 0) rest)
    (λ y. Ok (y.0, here (left_after (more left (length text)) (length text)) y.1.bytes)) made
    ∙ ap (λ (l : Option ℕ). done (x, here l rest)) (left_after-more left (length text))

-- where the length is defined, no byte is left after this
abbrev pub Closes : Length → Option ℕ → List ℕ → Type 0
Closes Defined left rest = no_byte_left left rest ≡ true
Closes Undefined left rest = Unit {0}

-- nothing is over before a text
pub over_not : (form : Length) (left : Option ℕ) (text rest : List ℕ) → 0 < length text
    → is_over form (before left text rest) ≡ false
over_not Undefined left text rest h = refl
over_not Defined None text rest h = ne_eqb (length (text ++ rest)) 0
    (λ e. let l = length-append text rest in omega arith)
over_not Defined (Some left) text rest h = ne_eqb (length text + left) 0 (λ e. omega arith)

-- ---- headers

-- the tag that the bytes begin with
pub tag_again : (t : Tag) (rest : List ℕ) → t.group < 2 ^ 16 → t.element < 2 ^ 16 → tag_of (tag_text t ++ rest) ≡ t
tag_again t rest g n = ap₂ tagged (short_again t.group (little_bytes 2 t.element ++ rest) g)
    (short_again t.element rest n)
  where
    tagged : ℕ → ℕ → Tag
    tagged x y = record { group = x; element = y }

-- the first four bytes after a tag, what stands after those, and that they are read again
pub record ShapeAgain (named : Bool) (tag : Tag) (vr : Option Vr) (n : ℕ) : Type 0 where
  pub first : List ℕ
  pub second : List ℕ
  pub whole : shape_text vr n ≡ first ++ second
  pub four : length first ≡ 4
  pub again : (left : Option ℕ) (rest : List ℕ) → shape_where named (tag_text tag ++ first) (before left second rest)
      ≡ Ok (record { vr = vr; length = n }, after left rest)

-- two letters name their value representation
named : (vr : Vr) (a b : ℕ) → letters_of vr ≡ a ∷ b ∷ [] → vr_of (a ∷ b ∷ []) ≡ Some vr
named vr a b e = ap vr_of (sym e) ∙ vr_of-letters_of vr

-- what reading such a header gives
shaped : Option Vr → ℕ → At → Result (Shape × At) SetFault
shaped vr n at = Ok (record { vr = vr; length = n }, at)

-- a header with a length of 16 bits
short_shape_again : (tag : Tag) (vr : Vr) (n a b : ℕ) → letters_of vr ≡ a ∷ b ∷ [] → is_long_of vr ≡ false → n < 2 ^ 16
    → ShapeAgain true tag (Some vr) n
unfolding shaped
short_shape_again tag vr n a b letters long lt = record {
  first = a ∷ b ∷ little_bytes 2 n;
  second = [];
  whole = short_shape vr n long ∙ ap (λ (l : List ℕ). l ++ little_bytes 2 n) letters;
  four = refl;
  again = λ left rest. ap (λ (o : Option Vr). explicit_at o (tag_text tag ++ (a ∷ b ∷ little_bytes 2 n))
      (before left [] rest)) (named vr a b letters) ∙ past (is_long_of vr)
      (long_at vr (tag_text tag ++ (a ∷ b ∷ little_bytes 2 n)) (before left [] rest)) _ long
      ∙ ap₂ (λ (k : ℕ) (at : At). shaped (Some vr) k at) (short_again n [] lt) (before-none left rest);
}

-- a header with a length of 32 bits
long_shape_again : (tag : Tag) (vr : Vr) (n a b : ℕ) → letters_of vr ≡ a ∷ b ∷ [] → is_long_of vr ≡ true → n < 2 ^ 32
    → ShapeAgain true tag (Some vr) n
unfolding shaped long_at long_length_at
long_shape_again tag vr n a b letters long lt = record {
  first = a ∷ b ∷ 0 ∷ 0 ∷ [];
  second = little_bytes 4 n;
  whole = long_shape vr n long ∙ ap (λ (l : List ℕ). l ++ (0 ∷ 0 ∷ little_bytes 4 n)) letters;
  four = refl;
  again = λ left rest. ap (λ (o : Option Vr). explicit_at o (tag_text tag ++ (a ∷ b ∷ 0 ∷ 0 ∷ []))
      (before left (little_bytes 4 n) rest)) (named vr a b letters)
      ∙ into (is_long_of vr) _ (shaped (Some vr) (short_of (tag_text tag ++ (a ∷ b ∷ 0 ∷ 0 ∷ [])))
      (before left (little_bytes 4 n) rest)) long ∙ onward (long_length_at (before left (little_bytes 4 n) rest))
      (from_le_bytes w32 (little_bytes 4 n), after left rest) (λ y. shaped (Some vr) y.0 y.1)
      (onward (take_at 4 (before left (little_bytes 4 n) rest)) (little_bytes 4 n, after left rest)
      (λ y. Ok (from_le_bytes w32 y.0, y.1)) (take_again 4 left (little_bytes 4 n) rest refl))
      ∙ ap (λ (k : ℕ). shaped (Some vr) k (after left rest)) (long_again n [] lt);
}

-- a header without a value representation
bare_shape_again : (tag : Tag) (n : ℕ) → n < 2 ^ 32 → ShapeAgain false tag None n
unfolding shaped
bare_shape_again tag n lt = record {
  first = little_bytes 4 n;
  second = [];
  whole = refl;
  four = refl;
  again = λ left rest. ap₂ (λ (k : ℕ) (at : At). shaped None k at) (long_again n [] lt) (before-none left rest);
}

-- each header
pub shape_again : (named : Bool) (tag : Tag) (vr : Option Vr) (n : ℕ) → HasFormWhere named vr → n < width_limit vr
    → ShapeAgain named tag vr n
shape_again true tag None n form lt = absurd form
shape_again true tag (Some vr) n form lt = go (letters_two vr).0 (letters_two vr).1.0 (letters_two vr).1.1
    (is_long_of vr) refl
  where
    go : (a b : ℕ) → letters_of vr ≡ a ∷ b ∷ [] → (long : Bool) → is_long_of vr ≡ long
        → ShapeAgain true tag (Some vr) n
    go a b letters true long = long_shape_again tag vr n a b letters long
        (subst (λ (k : ℕ). n < k) (long_width vr long) lt)
    go a b letters false long = short_shape_again tag vr n a b letters long
        (subst (λ (k : ℕ). n < k) (short_width vr long) lt)
shape_again false tag None n form lt = bare_shape_again tag n lt
shape_again false tag (Some vr) n form lt = absurd form
