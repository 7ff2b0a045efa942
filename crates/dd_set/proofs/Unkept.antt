-- Reading where nothing has a place: it goes as reading does, up to the first item or element that was read whole.
use Rattle.std.proofs.Common.{◌≡◌, ℕ, zero, suc, ◌%◌, ◌≤◌, ◌⊎◌, inl, inr, Bool, true, false, ◌==◌, nat_lt}
use Rattle.std.proofs.Common.{if◌then◌else◌, List, length, Option, Some, None, Result, Ok, Err, refl, sym, ap, subst}
use Rattle.std.proofs.Common.{◌∙◌}
use Rattle.std.proofs.lemmas.Bool.{cases_lt, lt-ltb}
use Rattle.dd_elem.specs.Tag.{number_of}
use Rattle.dd_grammar.specs.declared.fault.SetFault.{SetFault}
use Rattle.dd_grammar.specs.declared.fault.SetFault.TheVariants.{Truncated, Memory}
use Rattle.dd_encoding.specs.declared.syntax.Length.{Length}
use Rattle.dd_encoding.specs.declared.syntax.Length.TheVariants.{Defined, Undefined}
use Rattle.dd_encoding.specs.declared.syntax.Syntax.{Syntax}
use Rattle.dd_encoding.specs.Elements.{Elements, Items, items, Element, Item}
use Rattle.dd_set.specs.Memory.{keeps_no_item, unkept_sequence, keeps_no_element, unkept_set, unkept_item, WantsMemory}
use Rattle.dd_set.specs.Memory.{WantsContent, WantsElement}
use Rattle.dd_grammar.specs.Reading.{Header, front_at, opens_fragments, open_at, At, Reads, Shape, ◌>>=◌}
use Rattle.dd_grammar.specs.Reading.{SequenceReader, SetReader, ItemReader, take_at, left_after, leaves_fewer, within}
use Rattle.dd_grammar.specs.Reading.{undefined_at, defined_at, content_at, tag_of, long_of, shape_at, is_over, ends_set}
use Rattle.dd_grammar.specs.Reading.{element_at, next_elements, elements_at, ends_sequence, is_item, item_at}
use Rattle.dd_grammar.specs.Reading.{next_items, items_at, part_at, sequence_with, set_with, item_reader}
use Rattle.dd_encoding.specs.Spelling.{undefined_length, item_syntax, delimiter_group}
use Rattle.dd_grammar.proofs.Cut.{body_at, whole_element, element_is, whole_item, item_is}
use Rattle.dd_grammar.proofs.ReadingOn.{element_found, content_refused}

-- the second reading lacks memory, or gives what the first one gives
abbrev pub Alike : {X : Type 0} → Result X SetFault → Result X SetFault → Type 0
Alike r u = (u ≡ Err Memory) ⊎ (u ≡ r)

-- ---- chains

-- one step and then another
alike_then : {X Y : Type 0} (r u : Result X SetFault) (f g : X → Result Y SetFault) → Alike r u
    → ((x : X) → Alike (f x) (g x)) → Alike (r >>= f) (u >>= g)
alike_then r u f g (inl e) h = inl (ap (λ t. t >>= g) e)
alike_then {Y = Y} (Ok x) u f g (inr e) h = subst (λ (t : Result Y SetFault). Alike (f x) t)
    (sym (ap (λ t. t >>= g) e)) (h x)
alike_then (Err d) u f g (inr e) h = inr (ap (λ t. t >>= g) e)

-- what is made of a value
alike_made : {X Y : Type 0} (r u : Result X SetFault) (f : X → Result Y SetFault) → Alike r u
    → Alike (r >>= f) (u >>= f)
alike_made r u f h = alike_then r u f f h (λ x. inr refl)

-- one test chooses for both
alike_if : {X : Type 0} (b : Bool) (r s u v : Result X SetFault) → Alike r u → Alike s v
    → Alike (if b then r else s) (if b then u else v)
alike_if true r s u v h k = h
alike_if false r s u v h k = k

-- ---- an element

module _ (full unkept : SequenceReader) (law : (syntax : Syntax) (form : Length) (at : At)
    → Alike (full syntax form at) (unkept syntax form at)) where
  undefined_alike : (inner : Option Syntax) (at : At)
      → Alike (undefined_at full inner at) (undefined_at unkept inner at)
  undefined_alike None at = inr refl
  undefined_alike (Some inner) at = alike_made (full inner Undefined at)
      (unkept inner Undefined at) (λ x. Ok (items Undefined x.0, x.1)) (law inner Undefined at)

  defined_alike : (inner : Option Syntax) (n : ℕ) (at : At)
      → Alike (defined_at full inner n at) (defined_at unkept inner n at)
  defined_alike None n at = inr refl
  defined_alike (Some inner) n at =
      let here : At = record { left = Some n; bytes = at.bytes } in
      alike_made (within n at (full inner Defined)) (within n at (unkept inner Defined))
      (λ x. Ok (items Defined x.0, x.1))
      (alike_made (full inner Defined here) (unkept inner Defined here)
      (λ x. Ok (x.0, record { left = left_after at.left n; bytes = x.1.bytes })) (law inner Defined here))

  open_alike : (opens : Bool) (inner : Option Syntax) (at : At)
      → Alike (open_at full opens inner at) (open_at unkept opens inner at)
  open_alike true inner at = inr refl
  open_alike false inner at = undefined_alike inner at

  content_alike : (syntax : Syntax) (header : Header) (at : At)
      → Alike (content_at full syntax header at) (content_at unkept syntax header at)
  unfolding content_at
  content_alike syntax header at =
      alike_if (header.shape.length == undefined_length) _ _ _ _
      (open_alike (opens_fragments syntax header) (item_syntax syntax header.shape.vr Undefined) at)
      (alike_if (header.shape.length % 2 == 1) _ _ _ _ (inr refl)
      (alike_if (leaves_fewer at.left header.shape.length) _ _ _ _ (inr refl)
      (defined_alike (item_syntax syntax header.shape.vr Defined) header.shape.length at)))

  body_alike : (syntax : Syntax) (low : ℕ) (head : List ℕ) (at : At)
      → Alike (body_at full syntax low head at) (body_at unkept syntax low head at)
  unfolding body_at
  body_alike syntax low head at =
      alike_if ((tag_of head).group == delimiter_group) _ _ _ _ (inr refl)
      (alike_if (nat_lt (number_of (tag_of head)) low) _ _ _ _ (inr refl)
      (alike_then (shape_at syntax head at) (shape_at syntax head at) _ _ (inr refl)
      (λ shape. alike_made (content_at full syntax (header_of shape.0) shape.1)
      (content_at unkept syntax (header_of shape.0) shape.1) _ (content_alike syntax (header_of shape.0) shape.1))))
    where
      header_of : Shape → Header
      header_of shape = record { tag = tag_of head; shape = shape }

  element_alike : (syntax : Syntax) (form : Length) (low : ℕ) (at : At)
      → Alike (element_at full syntax form low at) (element_at unkept syntax form low at)
  unfolding whole_element
  element_alike syntax form low at =
      rw (element_is full syntax form low at, element_is unkept syntax form low at)
      (alike_if (is_over form at) _ _ _ _ (inr refl)
      (alike_then (take_at 8 at) (take_at 8 at) _ _ (inr refl)
      (λ head. alike_if (ends_set form head.0) _ _ _ _ (inr refl)
      (alike_made (body_at full syntax low head.0 head.1) (body_at unkept syntax low head.0 head.1) _
      (body_alike syntax low head.0 head.1)))))

  -- where no element has a place
  elements_alike : (others : ℕ → At → Reads Elements) (x : Option Element × At)
      → Alike (next_elements others x) (keeps_no_element x)
  elements_alike others (None, at) = inr refl
  elements_alike others (Some e, at) = inl refl

-- ---- an item

module _ (full unkept : ItemReader) (law : (syntax : Syntax) (n : ℕ) (at : At)
    → Alike (full syntax n at) (unkept syntax n at)) where
  item_alike : (syntax : Syntax) (form : Length) (at : At)
      → Alike (item_at full syntax form at) (item_at unkept syntax form at)
  unfolding whole_item
  item_alike syntax form at =
      rw (item_is full syntax form at, item_is unkept syntax form at)
      (alike_if (is_over form at) _ _ _ _ (inr refl)
      (alike_then (take_at 8 at) (take_at 8 at) _ _ (inr refl)
      (λ head. alike_if (ends_sequence form head.0) _ _ _ _ (inr refl)
      (alike_if (is_item head.0) _ _ _ _ (alike_made (full syntax (long_of head.0) head.1)
      (unkept syntax (long_of head.0) head.1) _ (law syntax (long_of head.0) head.1)) (inr refl)))))

  items_alike : (others : At → Reads Items) (x : Option Item × At) → Alike (next_items others x) (keeps_no_item x)
  items_alike others (None, at) = inr refl
  items_alike others (Some p, at) = inl refl

  sequence_alike : (syntax : Syntax) (form : Length) (at : At)
      → Alike (sequence_with full syntax form at) (unkept_sequence unkept syntax form at)
  unfolding items_at
  sequence_alike syntax form at =
      alike_then (item_at full syntax form at) (item_at unkept syntax form at)
      (next_items (items_at full syntax form (length at.bytes))) keeps_no_item
      (item_alike syntax form at) (items_alike (items_at full syntax form (length at.bytes)))

  set_alike : (syntax : Syntax) (form : Length) (at : At)
      → Alike (set_with full syntax form at) (unkept_set unkept syntax form at)
  unfolding elements_at
  set_alike syntax form at =
      let sequence : SequenceReader = sequence_with full in
      let bare : SequenceReader = unkept_sequence unkept in
      alike_then (element_at sequence syntax form 0 at) (element_at bare syntax form 0 at)
      (next_elements (elements_at sequence syntax form (length at.bytes))) keeps_no_element
      (element_alike sequence bare sequence_alike syntax form 0 at) (elements_alike sequence bare sequence_alike
      (elements_at sequence syntax form (length at.bytes)))

-- ---- levels

part_alike : (full unkept : SetReader) (law : (syntax : Syntax) (form : Length) (at : At)
    → Alike (full syntax form at) (unkept syntax form at)) (syntax : Syntax) (n : ℕ) (at : At)
    → Alike (part_at full syntax n at) (part_at unkept syntax n at)
unfolding part_at
part_alike full unkept law syntax n at =
    let here : At = record { left = Some n; bytes = at.bytes } in
    alike_if (n == undefined_length) _ _ _ _ (alike_made (full syntax Undefined at) (unkept syntax Undefined at) _
    (law syntax Undefined at))
    (alike_if (n % 2 == 1) _ _ _ _ (inr refl)
    (alike_if (leaves_fewer at.left n) _ _ _ _ (inr refl)
    (alike_made (within n at (full syntax Defined)) (within n at (unkept syntax Defined)) _
    (alike_made (full syntax Defined here) (unkept syntax Defined here) _ (law syntax Defined here)))))

pub reader_alike : (levels : ℕ) (syntax : Syntax) (n : ℕ) (at : At)
    → Alike (item_reader levels syntax n at) (unkept_item levels syntax n at)
reader_alike zero syntax n at = inr refl
reader_alike (suc levels) syntax n at = part_alike (set_with (item_reader levels)) (unkept_set (unkept_item levels))
    (set_alike (item_reader levels) (unkept_item levels) (reader_alike levels)) syntax n at

-- ---- what was read whole finds no place

wanted : {X Y : Type 0} (r u : Reads (Option X)) (x : X) (end : At) (keeps : Option X × At → Reads Y) → Alike r u
    → r ≡ Ok (Some x, end) → keeps (Some x, end) ≡ Err Memory → (u >>= keeps) ≡ Err Memory
wanted r u x end keeps (inl e) is none = ap (λ t. t >>= keeps) e
wanted r u x end keeps (inr e) is none = ap (λ t. t >>= keeps) (e ∙ is) ∙ none

-- the first item of a sequence
pub item_wants : (levels : ℕ) (syntax : Syntax) (form : Length) (at end : At) (p : Item)
    → item_at (item_reader levels) syntax form at ≡ Ok (Some p, end)
    → unkept_sequence (unkept_item levels) syntax form at ≡ Err Memory
item_wants levels syntax form at end p is =
    wanted (item_at (item_reader levels) syntax form at)
    (item_at (unkept_item levels) syntax form at) p end keeps_no_item
    (item_alike (item_reader levels) (unkept_item levels) (reader_alike levels) syntax form at) is refl

-- the first element of a set
pub element_wants : (levels : ℕ) (syntax : Syntax) (form : Length) (at end : At) (e : Element)
    → element_at (sequence_with (item_reader levels)) syntax form 0 at ≡ Ok (Some e, end)
    → unkept_set (unkept_item levels) syntax form at ≡ Err Memory
element_wants levels syntax form at end e is =
    wanted (element_at (sequence_with (item_reader levels)) syntax form 0 at)
    (element_at (unkept_sequence (unkept_item levels)) syntax form 0 at) e end keeps_no_element
    (element_alike (sequence_with (item_reader levels)) (unkept_sequence (unkept_item levels))
    (sequence_alike (item_reader levels) (unkept_item levels) (reader_alike levels)) syntax form 0 at) is refl

-- ---- few bytes

too_few : {X Y Z : Type 0} (over few : Bool) (x : X) (y : Y) (z : Z) (next : Y → Result X SetFault)
    (keeps : X → Result Z SetFault) → few ≡ true → keeps x ≡ Ok z
    → ((if over then Ok x else ((if few then Err Truncated else Ok y) >>= next)) >>= keeps) ≡ Err Memory → ⊥
too_few true few x y z next keeps short kept h = let made : keeps x ≡ Err Memory = h in absurd cc
too_few false true x y z next keeps short kept h = absurd cc
too_few false false x y z next keeps short kept h = absurd cc

-- fewer bytes than a header has want no memory
pub wants_a_header : (syntax : Syntax) (bs : List ℕ) → WantsMemory syntax bs → 8 ≤ length bs
unfolding whole_element take_at
wants_a_header syntax bs h =
    elim (cases_lt (length bs) 8) [
      | inl short ↦ absurd (too_few (length bs == 0) (nat_lt (length bs) 8) _ _ _ _ keeps_no_element
          (lt-ltb _ _ short) refl (ap (λ r. r >>= keeps_no_element) (sym (element_is _ syntax Defined 0 _)) ∙ h))
      | inr long ↦ long
    ]

-- ---- code

-- the fault that was handed on is Memory where the answer's is
pub fault_is : {X : Type 0} (r : Result X SetFault) (y e : SetFault) → r ≡ Err y → y ≡ e → r ≡ Err Memory → e ≡ Memory
fault_is r y e is same memory = cc

-- ---- loops, which stand where they started or have read something whole

pub sequence_fails : (levels : ℕ) (syntax : Syntax) (form : Length) (start at : At)
    → (at ≡ start) ⊎ (unkept_sequence (unkept_item levels) syntax form start ≡ Err Memory)
    → item_at (unkept_item levels) syntax form at ≡ Err Memory
    → unkept_sequence (unkept_item levels) syntax form start ≡ Err Memory
sequence_fails levels syntax form start at (inl same) fails =
    ap (λ (a : At). unkept_sequence (unkept_item levels) syntax form a) (sym same) ∙ ap (λ t. t >>= keeps_no_item) fails
sequence_fails levels syntax form start at (inr wants) fails = wants

pub sequence_wants : (levels : ℕ) (syntax : Syntax) (form : Length) (start at end : At) (p : Item)
    → (at ≡ start) ⊎ (unkept_sequence (unkept_item levels) syntax form start ≡ Err Memory)
    → item_at (item_reader levels) syntax form at ≡ Ok (Some p, end)
    → unkept_sequence (unkept_item levels) syntax form start ≡ Err Memory
sequence_wants levels syntax form start at end p (inl same) is =
    ap (λ (a : At). unkept_sequence (unkept_item levels) syntax form a) (sym same)
    ∙ item_wants levels syntax form at end p is
sequence_wants levels syntax form start at end p (inr wants) is = wants

pub set_fails : (levels : ℕ) (syntax : Syntax) (form : Length) (low : ℕ) (start at : At)
    → (low ≡ 0) × (at ≡ start) ⊎ (unkept_set (unkept_item levels) syntax form start ≡ Err Memory)
    → element_at (unkept_sequence (unkept_item levels)) syntax form low at ≡ Err Memory
    → unkept_set (unkept_item levels) syntax form start ≡ Err Memory
set_fails levels syntax form low start at (inl same) fails =
    let first : element_at (unkept_sequence (unkept_item levels)) syntax form 0 at ≡ Err Memory =
    ap (λ (n : ℕ). element_at (unkept_sequence (unkept_item levels)) syntax form n at) (sym same.0) ∙ fails in
    ap (λ (a : At). unkept_set (unkept_item levels) syntax form a) (sym same.1) ∙ ap (λ t. t >>= keeps_no_element) first
set_fails levels syntax form low start at (inr wants) fails = wants

pub set_wants : (levels : ℕ) (syntax : Syntax) (form : Length) (low : ℕ) (start at end : At) (e : Element)
    → (low ≡ 0) × (at ≡ start) ⊎ (unkept_set (unkept_item levels) syntax form start ≡ Err Memory)
    → element_at (sequence_with (item_reader levels)) syntax form low at ≡ Ok (Some e, end)
    → unkept_set (unkept_item levels) syntax form start ≡ Err Memory
set_wants levels syntax form low start at end e (inl same) is =
    let first : element_at (sequence_with (item_reader levels)) syntax form 0 at ≡ Ok (Some e, end) =
    ap (λ (n : ℕ). element_at (sequence_with (item_reader levels)) syntax form n at) (sym same.0) ∙ is in
    ap (λ (a : At). unkept_set (unkept_item levels) syntax form a) (sym same.1)
    ∙ element_wants levels syntax form at end e first
set_wants levels syntax form low start at end e (inr wants) is = wants

-- an item is one level further in
pub deeper_unkept : (levels inner n : ℕ) (syntax : Syntax) (at : At) → levels ≡ suc inner
    → unkept_item levels syntax n at ≡ part_at (unkept_set (unkept_item inner)) syntax n at
deeper_unkept levels inner n syntax at e = rw e refl

-- ---- a refusal within an element

pub value_wants : (levels : ℕ) (syntax : Syntax) (form : Length) (low : ℕ) (at : At) (header : Header) (mid : At)
    → front_at syntax form low at ≡ Ok (Some header, mid)
    → WantsContent (content_at (sequence_with (item_reader levels)) syntax header mid)
    (content_at (unkept_sequence (unkept_item levels)) syntax header mid)
    → WantsElement (element_at (sequence_with (item_reader levels)) syntax form low at)
    (element_at (unkept_sequence (unkept_item levels)) syntax form low at)
value_wants levels syntax form low at header mid is (inl e) =
    inl (content_refused (unkept_sequence (unkept_item levels)) syntax form low at header mid Memory is e)
value_wants levels syntax form low at header mid is (inr whole) = inr (
  record { tag = header.tag; vr = header.shape.vr; content = whole.0 },
  whole.1,
  element_found (sequence_with (item_reader levels)) syntax form low at header mid whole.1 whole.0 is whole.2,
)

pub set_stops : (levels : ℕ) (syntax : Syntax) (form : Length) (low : ℕ) (start at : At)
    → (low ≡ 0) × (at ≡ start) ⊎ (unkept_set (unkept_item levels) syntax form start ≡ Err Memory)
    → WantsElement (element_at (sequence_with (item_reader levels)) syntax form low at)
    (element_at (unkept_sequence (unkept_item levels)) syntax form low at)
    → unkept_set (unkept_item levels) syntax form start ≡ Err Memory
set_stops levels syntax form low start at so (inl e) = set_fails levels syntax form low start at so e
set_stops levels syntax form low start at so (inr whole) =
    set_wants levels syntax form low start at whole.1 whole.0 so whole.2
