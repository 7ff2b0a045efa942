-- Reading a front of longer bytes: a refusal other than an early end stands whatever follows the front.
use Rattle.std.proofs.Common.{◌≡◌, ◌≢◌, ℕ, zero, suc, ◌+◌, ◌%◌, ◌≤◌, Bool, true, false, nat_lt, ◌==◌, if◌then◌else◌}
use Rattle.std.proofs.Common.{List, ◌∷◌, ◌++◌, length, take, drop, Option, Some, None, Result, Ok, Err, refl, sym, ap}
use Rattle.std.proofs.Common.{ap₂, subst, ◌∙◌, arith}
use Rattle.std.specs.Int.{w32, from_le_bytes}
use Rattle.std.proofs.lemmas.Bool.{le-ltb, ltb-false, ne_eqb, eqb-false}
use Rattle.std.proofs.lemmas.List.{length-append, take-append-le, drop-append-le}
use Rattle.dd_elem.specs.declared.vr.Vr.{Vr}
use Rattle.dd_elem.specs.Tag.{number_of}
use Rattle.dd_elem.specs.Vr.{is_long_of, vr_of}
use Rattle.dd_grammar.specs.declared.fault.SetFault.{SetFault}
use Rattle.dd_grammar.specs.declared.fault.SetFault.TheVariants.{Truncated, BadDelimiter}
use Rattle.dd_encoding.specs.declared.syntax.Length.{Length}
use Rattle.dd_encoding.specs.declared.syntax.Length.TheVariants.{Defined, Undefined}
use Rattle.dd_encoding.specs.declared.syntax.Syntax.{Syntax}
use Rattle.dd_encoding.specs.Elements.{Elements, element, Content, bytes, items, fragments, Element}
use Rattle.dd_encoding.specs.Spelling.{undefined_length, delimiter_group, names_vr, item_syntax}
use Rattle.dd_grammar.specs.Reading.{◌>>=◌, At, Reads, leaves_fewer, left_after, take_at, tag_of, long_of, short_of}
use Rattle.dd_grammar.specs.Reading.{no_byte_left, is_over, Shape, long_length_at, long_at, explicit_at, shape_at}
use Rattle.dd_grammar.specs.Reading.{shape_where, SequenceReader, Header, eight_at, head_at, item_opening}
use Rattle.dd_grammar.specs.Reading.{after_item_head, item_front_at, there, fragment_length, fragment_after}
use Rattle.dd_grammar.specs.Reading.{fragment_at, next_fragments, fragments_at, fragments_here, opens_fragments}
use Rattle.dd_grammar.specs.Reading.{open_at, SetReader, ItemReader, within, undefined_at, defined_at, content_at}
use Rattle.dd_grammar.specs.Reading.{ends_set, element_at, next_elements, elements_at}
use Rattle.dd_grammar.proofs.Cut.{body_at, whole_element, element_is}
use Rattle.dd_grammar.proofs.Before.{past, onward}

-- ---- words

-- the same place, with more bytes to come
abbrev pub longer : At → List ℕ → At
longer at q = record { left = at.left; bytes = at.bytes ++ q }

-- a length encloses it
abbrev pub has : Option ℕ → Bool
has None = false
has (Some n) = true

-- What reading longer bytes gives, by what reading the front gives: the same, with more to come, or the same refusal,
-- and any where the front ended too early. Enclosing lengths stay there, or stay away.
abbrev pub Extends : {X : Type 0} → Bool → List ℕ → Reads X → Reads X → Type 0
Extends c q (Ok x) r = (r ≡ Ok (x.0, longer x.1 q)) × (has x.1.left ≡ c)
Extends c q (Err e) r = e ≢ Truncated → r ≡ Err e

-- the refusals alone
abbrev pub FailsAlike : {X Y : Type 0} → Result X SetFault → Result Y SetFault → Type 0
FailsAlike (Ok x) r = Unit {0}
FailsAlike (Err e) r = e ≢ Truncated → r ≡ Err e

-- where the length is defined, some length encloses what is read
abbrev pub Encloses : Length → Bool → Type 0
Encloses Defined c = c ≡ true
Encloses Undefined c = Unit {0}

-- ---- chains

-- one step and then another
pub extends_then : {X Y : Type 0} (c : Bool) (q : List ℕ) (r s : Reads X) (f g : X × At → Reads Y) → Extends c q r s
    → ((x : X × At) → has x.1.left ≡ c → Extends c q (f x) (g (x.0, longer x.1 q))) → Extends c q (r >>= f) (s >>= g)
extends_then {Y = Y} c q (Ok x) s f g h k = subst (λ (t : Reads Y). Extends c q (f x) t)
    (sym (onward s (x.0, longer x.1 q) g h.0)) (k x h.1)
extends_then {Y = Y} c q (Err e) s f g h k = λ ne. ap (λ t. t >>= g) (h ne)

-- the same of refusals
fails_then : {X Y : Type 0} (c : Bool) (q : List ℕ) (r s : Reads X) (f g : X × At → Reads Y) → Extends c q r s
    → ((x : X × At) → has x.1.left ≡ c → FailsAlike (f x) (g (x.0, longer x.1 q))) → FailsAlike (r >>= f) (s >>= g)
fails_then {Y = Y} c q (Ok x) s f g h k = subst (λ (t : Reads Y). FailsAlike (f x) t)
    (sym (onward s (x.0, longer x.1 q) g h.0)) (k x h.1)
fails_then {Y = Y} c q (Err e) s f g h k = λ ne. ap (λ t. t >>= g) (h ne)

-- what is made of a value takes no refusal away
pub fails_on : {X Y : Type 0} (r s : Reads X) (f : X × At → Y) → FailsAlike r s
    → FailsAlike (r >>= λ x. Ok (f x)) (s >>= λ x. Ok (f x))
fails_on (Ok x) s f h = tt
fails_on (Err e) s f h = λ ne. ap (λ t. t >>= λ x. Ok (f x)) (h ne)

-- one test chooses for both
pub extends_if : {X : Type 0} (c : Bool) (q : List ℕ) (b : Bool) (x y v w : Reads X) → (b ≡ true → Extends c q x v)
    → (b ≡ false → Extends c q y w) → Extends c q (if b then x else y) (if b then v else w)
extends_if c q true x y v w h k = h refl
extends_if c q false x y v w h k = k refl

-- what reading gave, made into something else
pub extends_map : {X Y : Type 0} (c : Bool) (q : List ℕ) (r s : Reads X) (f : X → Y) → Extends c q r s
    → Extends c q (r >>= λ x. Ok (f x.0, x.1)) (s >>= λ x. Ok (f x.0, x.1))
extends_map c q r s f h = extends_then c q r s (λ x. Ok (f x.0, x.1)) (λ x. Ok (f x.0, x.1)) h
    (λ x has_it. (refl, has_it))

-- ---- steps

-- a length encloses what is left, or none does
has_left_after : (left : Option ℕ) (n : ℕ) → has (left_after left n) ≡ has left
has_left_after None n = refl
has_left_after (Some left) n = refl

-- bytes that are taken
pub take_extends : (c : Bool) (n : ℕ) (at : At) (q : List ℕ) → has at.left ≡ c
    → Extends c q (take_at n at) (take_at n (longer at q))
unfolding take_at
take_extends c n at q has_it =
    extends_if c q (leaves_fewer at.left n) _ _ _ _ (λ few. λ ne. refl) (λ enough. go (nat_lt (length at.bytes) n) refl)
  where
    taken : List ℕ → At → Reads (List ℕ)
    taken x a = Ok (x, a)

    go : (b : Bool) → nat_lt (length at.bytes) n ≡ b → Extends c q
        (if b then Err Truncated else taken (take n at.bytes)
        (record { left = left_after at.left n; bytes = drop n at.bytes }))
        (if nat_lt (length (at.bytes ++ q)) n then Err Truncated else taken (take n (at.bytes ++ q))
        (record { left = left_after at.left n; bytes = drop n (at.bytes ++ q) }))
    go true short = λ ne. absurd (ne refl)
    go false long =
        let enough : n ≤ length at.bytes = ltb-false _ _ long in
        let far : nat_lt (length (at.bytes ++ q)) n ≡ false = le-ltb _ _ (omega (arith, length-append at.bytes q)) in (
          past (nat_lt (length (at.bytes ++ q)) n) (Err Truncated) _ far
              ∙ ap₂ (λ (x y : List ℕ). taken x (record { left = left_after at.left n; bytes = y }))
              (take-append-le n at.bytes q enough) (drop-append-le n at.bytes q enough),
          has_left_after at.left n ∙ has_it,
        )

-- what the next n bytes alone hold
pub within_extends : {X : Type 0} (c : Bool) (q : List ℕ) (n : ℕ) (at : At) (read : At → Reads X) → has at.left ≡ c
    → Extends true q (read (record { left = Some n; bytes = at.bytes }))
    (read (record { left = Some n; bytes = at.bytes ++ q }))
    → Extends c q (within n at read) (within n (longer at q) read)
within_extends {X} c q n at read has_it h = go (read (record { left = Some n; bytes = at.bytes }))
    (read (record { left = Some n; bytes = at.bytes ++ q })) h
  where
    after : X × At → Reads X
    after x = Ok (x.0, record { left = left_after at.left n; bytes = x.1.bytes })

    go : (r s : Reads X) → Extends true q r s → Extends c q (r >>= after) (s >>= after)
    go (Ok x) s h = (onward s (x.0, longer x.1 q) after h.0, has_left_after at.left n ∙ has_it)
    go (Err e) s h = λ ne. ap (λ t. t >>= after) (h ne)

-- the end of what a length encloses stays where it is
pub over_same : (form : Length) (at : At) (q : List ℕ) → Encloses form (has at.left)
    → is_over form (longer at q) ≡ is_over form at
over_same Undefined at q h = refl
over_same Defined at q h = go at.left h
  where
    go : (left : Option ℕ) → has left ≡ true → no_byte_left left (at.bytes ++ q) ≡ no_byte_left left at.bytes
    go None h = absurd cc
    go (Some l) h = refl

-- ---- headers

-- a header with a length of 32 bits
long_extends : (c : Bool) (q : List ℕ) (vr : Vr) (head : List ℕ) (at : At) → has at.left ≡ c
    → Extends c q (long_at vr head at) (long_at vr head (longer at q))
unfolding long_at long_length_at
long_extends c q vr head at h =
    extends_if c q (short_of head == 0) _ _ _ _
    (λ none. extends_map c q (long_length_at at) (long_length_at (longer at q))
    (λ n. record { vr = Some vr; length = n })
    (extends_map c q (take_at 4 at) (take_at 4 (longer at q)) (λ n. from_le_bytes w32 n) (take_extends c 4 at q h)))
    (λ some. λ ne. refl)

-- a header with a value representation
explicit_extends : (c : Bool) (q : List ℕ) (o : Option Vr) (head : List ℕ) (at : At) → has at.left ≡ c
    → Extends c q (explicit_at o head at) (explicit_at o head (longer at q))
explicit_extends c q None head at h = λ ne. refl
explicit_extends c q (Some vr) head at h = extends_if c q (is_long_of vr) _ _ _ _
    (λ long. long_extends c q vr head at h) (λ short. (refl, h))

-- a header after its tag
shape_extends : (c : Bool) (q : List ℕ) (syntax : Syntax) (head : List ℕ) (at : At) → has at.left ≡ c
    → Extends c q (shape_at syntax head at) (shape_at syntax head (longer at q))
unfolding shape_at
shape_extends c q syntax head at h = go (names_vr syntax)
  where
    go : (named : Bool) → Extends c q (shape_where named head at) (shape_where named head (longer at q))
    go true = explicit_extends c q (vr_of (take 2 (drop 4 head))) head at h
    go false = (refl, h)

-- ---- fragments

-- the header of a fragment, or the end of the list
after_front_extends : (c : Bool) (q : List ℕ) (r : Result (Option ℕ) SetFault) (a : At) → has a.left ≡ c
    → Extends c q (r >>= λ length. Ok (length, a)) (r >>= λ length. Ok (length, longer a q))
after_front_extends c q (Ok n) a h = (refl, h)
after_front_extends c q (Err e) a h = λ ne. refl

front_goes : (c : Bool) (q : List ℕ) (o : Option (List ℕ)) (a : At) → has a.left ≡ c
    → Extends c q (after_item_head Undefined (o, a)) (after_item_head Undefined (o, longer a q))
front_goes c q None a h = (refl, h)
front_goes c q (Some head) a h = after_front_extends c q (item_opening Undefined head) a h

front_extends : (c : Bool) (q : List ℕ) (at : At) → has at.left ≡ c
    → Extends c q (item_front_at Undefined at) (item_front_at Undefined (longer at q))
unfolding item_front_at head_at
front_extends c q at h =
    extends_then c q (eight_at at) (eight_at (longer at q)) (after_item_head Undefined) (after_item_head Undefined)
    (extends_map c q (take_at 8 at) (take_at 8 (longer at q)) (λ x. Some x) (take_extends c 8 at q h))
    (λ x k. front_goes c q x.0 x.1 k)

-- what stands after it
piece_extends : (c : Bool) (q : List ℕ) (r : Result ℕ SetFault) (a : At) → has a.left ≡ c
    → Extends c q (r >>= λ k. take_at k a >>= there) (r >>= λ k. take_at k (longer a q) >>= there)
piece_extends c q (Ok k) a h = extends_map c q (take_at k a) (take_at k (longer a q)) (λ x. Some x)
    (take_extends c k a q h)
piece_extends c q (Err e) a h = λ ne. refl

fragment_goes : (c : Bool) (q : List ℕ) (o : Option ℕ) (a : At) → has a.left ≡ c
    → Extends c q (fragment_after (o, a)) (fragment_after (o, longer a q))
fragment_goes c q None a h = (refl, h)
fragment_goes c q (Some n) a h = piece_extends c q (fragment_length n) a h

fragment_extends : (c : Bool) (q : List ℕ) (at : At) → has at.left ≡ c
    → Extends c q (fragment_at at) (fragment_at (longer at q))
unfolding fragment_at
fragment_extends c q at h =
    extends_then c q (item_front_at Undefined at) (item_front_at Undefined (longer at q)) fragment_after
    fragment_after (front_extends c q at h) (λ x k. fragment_goes c q x.0 x.1 k)

-- fragments up to the end of their list
fragments_extend : (n m : ℕ) (c : Bool) (q : List ℕ) (at : At) → n ≤ m → has at.left ≡ c
    → Extends c q (fragments_at n at) (fragments_at m (longer at q))
unfolding fragments_at
fragments_extend zero m c q at le h = λ ne. absurd (ne refl)
fragments_extend (suc n) zero c q at le h = absurd (omega arith)
fragments_extend (suc n) (suc m) c q at le h =
    extends_then c q (fragment_at at) (fragment_at (longer at q))
    (next_fragments (fragments_at n)) (next_fragments (fragments_at m)) (fragment_extends c q at h)
    (λ x k. others_extend c q (fragments_at n) (fragments_at m)
    (λ a g. fragments_extend n m c q a (omega arith) g) x.0 x.1 k)
  where
    others_extend : (c : Bool) (q : List ℕ) (others those : At → Reads (List (List ℕ)))
        → ((a : At) → has a.left ≡ c → Extends c q (others a) (those (longer a q))) → (o : Option (List ℕ)) (a : At)
        → has a.left ≡ c → Extends c q (next_fragments others (o, a)) (next_fragments those (o, longer a q))
    others_extend c q others those ih None a k = (refl, k)
    others_extend c q others those ih (Some f) a k = extends_map c q (others a) (those (longer a q))
        (λ fs. f ∷ fs) (ih a k)

list_extends : (c : Bool) (q : List ℕ) (at : At) → has at.left ≡ c
    → Extends c q (fragments_here at) (fragments_here (longer at q))
list_extends c q at h = fragments_extend (suc (length at.bytes)) (suc (length (at.bytes ++ q))) c q at
    (omega (arith, length-append at.bytes q)) h

-- ---- what readers owe

abbrev pub SequenceExtends : SequenceReader → Type 0
SequenceExtends read = (c : Bool) (q : List ℕ) (syntax : Syntax) (form : Length) (at : At) → has at.left ≡ c
    → Encloses form c → Extends c q (read syntax form at) (read syntax form (longer at q))

abbrev pub SetExtends : SetReader → Type 0
SetExtends read = (c : Bool) (q : List ℕ) (syntax : Syntax) (form : Length) (at : At) → has at.left ≡ c
    → Encloses form c → Extends c q (read syntax form at) (read syntax form (longer at q))

abbrev pub PartExtends : ItemReader → Type 0
PartExtends read = (c : Bool) (q : List ℕ) (syntax : Syntax) (n : ℕ) (at : At) → has at.left ≡ c
    → Extends c q (read syntax n at) (read syntax n (longer at q))

-- ---- elements

module _ (sequence : SequenceReader) (law : SequenceExtends sequence) where
  -- a value of undefined length
  undefined_extends : (c : Bool) (q : List ℕ) (o : Option Syntax) (at : At) → has at.left ≡ c
      → Extends c q (undefined_at sequence o at) (undefined_at sequence o (longer at q))
  undefined_extends c q None at h = λ ne. refl
  undefined_extends c q (Some inner) at h = extends_map c q (sequence inner Undefined at)
      (sequence inner Undefined (longer at q)) (λ parts. items Undefined parts) (law c q inner Undefined at h tt)

  -- the same, or fragments
  open_extends : (c : Bool) (q : List ℕ) (opens : Bool) (o : Option Syntax) (at : At) → has at.left ≡ c
      → Extends c q (open_at sequence opens o at) (open_at sequence opens o (longer at q))
  open_extends c q false o at h = undefined_extends c q o at h
  open_extends c q true o at h = extends_map c q (fragments_here at) (fragments_here (longer at q))
      (λ fs. fragments fs) (list_extends c q at h)

  -- a value of this length
  defined_extends : (c : Bool) (q : List ℕ) (o : Option Syntax) (n : ℕ) (at : At) → has at.left ≡ c
      → Extends c q (defined_at sequence o n at) (defined_at sequence o n (longer at q))
  defined_extends c q None n at h = extends_map c q (take_at n at) (take_at n (longer at q)) (λ v. bytes v)
      (take_extends c n at q h)
  defined_extends c q (Some inner) n at h =
      extends_map c q (within n at (sequence inner Defined)) (within n (longer at q) (sequence inner Defined))
      (λ parts. items Defined parts)
      (within_extends c q n at (sequence inner Defined) h (law true q inner Defined
      (record { left = Some n; bytes = at.bytes }) refl refl))

  -- a value after its header
  content_extends : (c : Bool) (q : List ℕ) (syntax : Syntax) (header : Header) (at : At) → has at.left ≡ c
      → Extends c q (content_at sequence syntax header at) (content_at sequence syntax header (longer at q))
  unfolding content_at
  content_extends c q syntax header at h =
      extends_if c q (header.shape.length == undefined_length) _ _ _ _
      (λ u. open_extends c q (opens_fragments syntax header) (item_syntax syntax header.shape.vr Undefined) at h)
      (λ d. extends_if c q (header.shape.length % 2 == 1) _ _ _ _ (λ odd. λ ne. refl)
      (λ even. extends_if c q (leaves_fewer at.left header.shape.length) _ _ _ _ (λ few. λ ne. refl)
      (λ room. defined_extends c q (item_syntax syntax header.shape.vr Defined) header.shape.length at h)))

  -- an element after its first eight bytes
  body_extends : (c : Bool) (q : List ℕ) (syntax : Syntax) (low : ℕ) (head : List ℕ) (at : At) → has at.left ≡ c
      → Extends c q (body_at sequence syntax low head at) (body_at sequence syntax low head (longer at q))
  unfolding body_at
  body_extends c q syntax low head at h =
      extends_if c q ((tag_of head).group == delimiter_group) _ _ _ _ (λ d. λ ne. refl)
      (λ e. extends_if c q (nat_lt (number_of (tag_of head)) low) _ _ _ _ (λ below. λ ne. refl)
      (λ rises. extends_then c q (shape_at syntax head at) (shape_at syntax head (longer at q)) shape_then shape_then
      (shape_extends c q syntax head at h)
      (λ s k. extends_map c q (content_at sequence syntax (header_of s.0) s.1)
      (content_at sequence syntax (header_of s.0) (longer s.1 q))
      (λ x. element_of s.0.vr x) (content_extends c q syntax (header_of s.0) s.1 k))))
    where
      header_of : Shape → Header
      header_of shape = record { tag = tag_of head; shape = shape }

      element_of : Option Vr → Content → Element
      element_of vr x = record { tag = tag_of head; vr = vr; content = x }

      shape_then : Shape × At → Reads Element
      shape_then shape =
          content_at sequence syntax (header_of shape.0) shape.1 >>= λ x. Ok (element_of shape.0.vr x.0, x.1)

  -- an element or a delimiter, where the set is not over
  head_then : Syntax → Length → ℕ → List ℕ × At → Reads (Option Element)
  head_then syntax form low head =
      if ends_set form head.0
      then (if long_of head.0 == 0 then Ok (None, head.1) else Err BadDelimiter)
      else (body_at sequence syntax low head.0 head.1 >>= λ x. Ok (Some x.0, x.1))

  -- the same, read on
  going_extends : (c : Bool) (q : List ℕ) (syntax : Syntax) (form : Length) (low : ℕ) (at : At) → has at.left ≡ c
      → Extends c q (take_at 8 at >>= head_then syntax form low) (take_at 8 (longer at q) >>= head_then syntax form low)
  unfolding head_then
  going_extends c q syntax form low at h =
      extends_then c q (take_at 8 at) (take_at 8 (longer at q)) (head_then syntax form low) (head_then syntax form low)
      (take_extends c 8 at q h)
      (λ head k. extends_if c q (ends_set form head.0) _ _ _ _
      (λ ends. extends_if c q (long_of head.0 == 0) _ _ _ _ (λ none. (refl, k)) (λ some. λ ne. refl))
      (λ on. extends_map c q (body_at sequence syntax low head.0 head.1)
      (body_at sequence syntax low head.0 (longer head.1 q)) (λ e. Some e)
      (body_extends c q syntax low head.0 head.1 k)))

  -- the next element, or the end of the set
  element_extends : (c : Bool) (q : List ℕ) (syntax : Syntax) (form : Length) (low : ℕ) (at : At) → has at.left ≡ c
      → is_over form (longer at q) ≡ is_over form at → Extends c q (element_at sequence syntax form low at)
      (element_at sequence syntax form low (longer at q))
  unfolding whole_element head_then
  element_extends c q syntax form low at h same =
      rw (element_is sequence syntax form low at, element_is sequence syntax form low (longer at q))
      (subst (λ (b : Bool). Extends c q (if is_over form at then Ok (None, at) else
      (take_at 8 at >>= head_then syntax form low)) (if b then Ok (None, longer at q) else
      (take_at 8 (longer at q) >>= head_then syntax form low))) (sym same)
      (extends_if c q (is_over form at) _ _ _ _ (λ over. (refl, h)) (λ on. going_extends c q syntax form low at h)))

  -- elements up to the end of their set
  pub elements_extend : (n m : ℕ) (c : Bool) (q : List ℕ) (syntax : Syntax) (form : Length) (low : ℕ) (at : At) → n ≤ m
      → has at.left ≡ c → Encloses form c → Extends c q (elements_at sequence syntax form n low at)
      (elements_at sequence syntax form m low (longer at q))
  unfolding elements_at
  elements_extend zero m c q syntax form low at le h same = λ ne. absurd (ne refl)
  elements_extend (suc n) zero c q syntax form low at le h same = absurd (omega arith)
  elements_extend (suc n) (suc m) c q syntax form low at le h same =
      extends_then c q (element_at sequence syntax form low at) (element_at sequence syntax form low (longer at q))
      (next_elements (elements_at sequence syntax form n)) (next_elements (elements_at sequence syntax form m))
      (element_extends c q syntax form low at h (over_same form at q
      (subst (λ (b : Bool). Encloses form b) (sym h) same)))
      (λ x k. next_extends c q (elements_at sequence syntax form n) (elements_at sequence syntax form m)
      (λ l a g. elements_extend n m c q syntax form l a (omega arith) g same) x.0 x.1 k)
    where
      next_extends : (c : Bool) (q : List ℕ) (others those : ℕ → At → Reads Elements)
          → ((l : ℕ) (a : At) → has a.left ≡ c → Extends c q (others l a) (those l (longer a q)))
          → (o : Option Element) (a : At) → has a.left ≡ c → Extends c q (next_elements others (o, a))
          (next_elements those (o, longer a q))
      next_extends c q others those ih None a k = (refl, k)
      next_extends c q others those ih (Some e) a k = extends_map c q (others (number_of e.tag + 1) a)
          (those (number_of e.tag + 1) (longer a q)) (λ es. element e.tag e.vr e.content es)
          (ih (number_of e.tag + 1) a k)

  -- where no length encloses the set, its end is the end of the bytes
  still_on : (at : At) (q : List ℕ) → has at.left ≡ false → is_over Defined at ≡ false
      → is_over Defined (longer at q) ≡ false
  still_on at q h on = go at.left h on
    where
      go : (left : Option ℕ) → has left ≡ false → no_byte_left left at.bytes ≡ false
          → no_byte_left left (at.bytes ++ q) ≡ false
      go None h on = let some : length at.bytes ≡ 0 → ⊥ = eqb-false _ _ on in
          ne_eqb (length (at.bytes ++ q)) 0 (λ e. some (omega (arith, length-append at.bytes q)))
      go (Some l) h on = absurd cc

  -- elements up to the end of the bytes: refusals alone, for more bytes are more elements
  pub elements_fail : (n m : ℕ) (q : List ℕ) (syntax : Syntax) (low : ℕ) (at : At) → n ≤ m → has at.left ≡ false
      → FailsAlike (elements_at sequence syntax Defined n low at)
      (elements_at sequence syntax Defined m low (longer at q))
  unfolding elements_at whole_element head_then
  elements_fail zero m q syntax low at le h = λ ne. absurd (ne refl)
  elements_fail (suc n) zero q syntax low at le h = absurd (omega arith)
  elements_fail (suc n) (suc m) q syntax low at le h =
      rw (element_is sequence syntax Defined low at, element_is sequence syntax Defined low (longer at q))
      (go (is_over Defined at) refl (λ l a g. elements_fail n m q syntax l a (omega arith) g))
    where
      others : ℕ → At → Reads Elements
      others = elements_at sequence syntax Defined n

      those : ℕ → At → Reads Elements
      those = elements_at sequence syntax Defined m

      next_fails : ((l : ℕ) (a : At) → has a.left ≡ false → FailsAlike (others l a) (those l (longer a q)))
          → (o : Option Element) (a : At) → has a.left ≡ false
          → FailsAlike (next_elements others (o, a)) (next_elements those (o, longer a q))
      next_fails ih None a k = tt
      next_fails ih (Some e) a k = fails_on (others (number_of e.tag + 1) a) (those (number_of e.tag + 1) (longer a q))
          (λ x. (element e.tag e.vr e.content x.0, x.1)) (ih (number_of e.tag + 1) a k)

      go : (b : Bool) → is_over Defined at ≡ b → ((l : ℕ) (a : At) → has a.left ≡ false
          → FailsAlike (others l a) (those l (longer a q))) → FailsAlike
          ((if b then Ok (None, at) else (take_at 8 at >>= head_then syntax Defined low)) >>= next_elements others)
          ((if is_over Defined (longer at q) then Ok (None, longer at q) else
          (take_at 8 (longer at q) >>= head_then syntax Defined low)) >>= next_elements those)
      go true over ih = tt
      go false on ih =
          subst (λ (b : Bool). FailsAlike ((take_at 8 at >>= head_then syntax Defined low) >>= next_elements others)
          ((if b then Ok (None, longer at q) else (take_at 8 (longer at q) >>= head_then syntax Defined low)) >>=
          next_elements those)) (sym (still_on at q h on))
          (fails_then false q (take_at 8 at >>= head_then syntax Defined low)
          (take_at 8 (longer at q) >>= head_then syntax Defined low) (next_elements others) (next_elements those)
          (going_extends false q syntax Defined low at h) (λ x k. next_fails ih x.0 x.1 k))
