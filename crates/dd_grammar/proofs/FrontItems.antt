-- The same of items, and of the whole: a refusal other than an early end stands whatever follows the front.
use Rattle.std.proofs.Common.{◌≡◌, ◌≢◌, ℕ, zero, suc, ◌%◌, ◌≤◌, Bool, true, false, ◌==◌, if◌then◌else◌, List, ◌++◌}
use Rattle.std.proofs.Common.{length, Option, Some, None, Result, Ok, Err, refl, sym, subst, ◌∙◌, arith}
use Rattle.std.proofs.lemmas.List.{length-append}
use Rattle.dd_grammar.specs.declared.fault.SetFault.{SetFault}
use Rattle.dd_grammar.specs.declared.fault.SetFault.TheVariants.{Truncated, UnexpectedTag, BadDelimiter}
use Rattle.dd_encoding.specs.declared.syntax.Length.{Length}
use Rattle.dd_encoding.specs.declared.syntax.Length.TheVariants.{Defined, Undefined}
use Rattle.dd_encoding.specs.declared.syntax.Syntax.{Syntax}
use Rattle.dd_encoding.specs.Elements.{Items, item, Item}
use Rattle.dd_encoding.specs.Spelling.{undefined_length, max_levels}
use Rattle.dd_grammar.specs.Reading.{◌>>=◌, At, Reads, leaves_fewer, take_at, long_of, is_item, is_over, SetReader}
use Rattle.dd_grammar.specs.Reading.{ItemReader, within, ends_sequence, item_at, next_items, items_at, part_at}
use Rattle.dd_grammar.specs.Reading.{sequence_with, set_with, item_reader, read_all}
use Rattle.dd_grammar.proofs.Cut.{whole_item, item_is}
use Rattle.dd_grammar.proofs.Steps.{done}
use Rattle.dd_grammar.proofs.Fronts.{longer, has, Extends, FailsAlike, Encloses, extends_then, fails_on, extends_if}
use Rattle.dd_grammar.proofs.Fronts.{extends_map, take_extends, within_extends, over_same, SequenceExtends, SetExtends}
use Rattle.dd_grammar.proofs.Fronts.{PartExtends, elements_extend, elements_fail}

-- ---- items

module _ (part : ItemReader) (law : PartExtends part) where
  -- the next item, or the end of the sequence
  item_extends : (c : Bool) (q : List ℕ) (syntax : Syntax) (form : Length) (at : At) → has at.left ≡ c
      → is_over form (longer at q) ≡ is_over form at → Extends c q (item_at part syntax form at)
      (item_at part syntax form (longer at q))
  unfolding whole_item
  item_extends c q syntax form at h same =
      rw (item_is part syntax form at, item_is part syntax form (longer at q))
      (subst (λ (b : Bool). Extends c q (if is_over form at then Ok (None, at) else (take_at 8 at >>= head_goes))
      (if b then Ok (None, longer at q) else (take_at 8 (longer at q) >>= head_goes))) (sym same)
      (extends_if c q (is_over form at) _ _ _ _ (λ over. (refl, h))
      (λ on. extends_then c q (take_at 8 at) (take_at 8 (longer at q)) head_goes head_goes (take_extends c 8 at q h)
      (λ head k. extends_if c q (ends_sequence form head.0) _ _ _ _
      (λ ends. extends_if c q (long_of head.0 == 0) _ _ _ _ (λ none. (refl, k)) (λ some. λ ne. refl))
      (λ more. extends_if c q (is_item head.0) _ _ _ _
      (λ is. extends_map c q (part syntax (long_of head.0) head.1) (part syntax (long_of head.0) (longer head.1 q))
      (λ p. Some p) (law c q syntax (long_of head.0) head.1 k))
      (λ none. λ ne. refl))))))
    where
      head_goes : List ℕ × At → Reads (Option Item)
      head_goes head =
          if ends_sequence form head.0
          then (if long_of head.0 == 0 then Ok (None, head.1) else Err BadDelimiter)
          else (if is_item head.0 then (part syntax (long_of head.0) head.1 >>= λ x. Ok (Some x.0, x.1)) else Err
          UnexpectedTag)

  -- items up to the end of their sequence
  items_extend : (n m : ℕ) (c : Bool) (q : List ℕ) (syntax : Syntax) (form : Length) (at : At) → n ≤ m → has at.left ≡ c
      → Encloses form c → Extends c q (items_at part syntax form n at) (items_at part syntax form m (longer at q))
  unfolding items_at
  items_extend zero m c q syntax form at le h same = λ ne. absurd (ne refl)
  items_extend (suc n) zero c q syntax form at le h same = absurd (omega arith)
  items_extend (suc n) (suc m) c q syntax form at le h same =
      extends_then c q (item_at part syntax form at) (item_at part syntax form (longer at q))
      (next_items (items_at part syntax form n)) (next_items (items_at part syntax form m))
      (item_extends c q syntax form at h (over_same form at q (subst (λ (b : Bool). Encloses form b) (sym h) same)))
      (λ x k. next_extends c q (items_at part syntax form n) (items_at part syntax form m)
      (λ a g. items_extend n m c q syntax form a (omega arith) g same) x.0 x.1 k)
    where
      next_extends : (c : Bool) (q : List ℕ) (others those : At → Reads Items)
          → ((a : At) → has a.left ≡ c → Extends c q (others a) (those (longer a q))) → (o : Option Item) (a : At)
          → has a.left ≡ c → Extends c q (next_items others (o, a)) (next_items those (o, longer a q))
      next_extends c q others those ih None a k = (refl, k)
      next_extends c q others those ih (Some p) a k = extends_map c q (others a) (those (longer a q))
          (λ ps. item p.length p.set ps) (ih a k)

  -- a whole sequence
  sequence_extends : SequenceExtends (sequence_with part)
  sequence_extends c q syntax form at h same = items_extend (suc (length at.bytes)) (suc (length (at.bytes ++ q))) c q
      syntax form at (omega (arith, length-append at.bytes q)) h same

  -- a whole set
  set_extends : SetExtends (set_with part)
  set_extends c q syntax form at h same = elements_extend (sequence_with part) sequence_extends (suc (length at.bytes))
      (suc (length (at.bytes ++ q))) c q syntax form 0 at (omega (arith, length-append at.bytes q)) h same

  -- a whole set that nothing encloses
  set_fails : (q : List ℕ) (syntax : Syntax) (at : At) → has at.left ≡ false
      → FailsAlike (set_with part syntax Defined at) (set_with part syntax Defined (longer at q))
  set_fails q syntax at h = elements_fail (sequence_with part) sequence_extends (suc (length at.bytes))
      (suc (length (at.bytes ++ q))) q syntax 0 at (omega (arith, length-append at.bytes q)) h

-- an item one level further out
part_extends : (set : SetReader) → SetExtends set → PartExtends (part_at set)
unfolding part_at
part_extends set law c q syntax n at h =
    extends_if c q (n == undefined_length) _ _ _ _
    (λ u. extends_map c q (set syntax Undefined at) (set syntax Undefined (longer at q))
    (λ s. record { length = Undefined; set = s }) (law c q syntax Undefined at h tt))
    (λ d. extends_if c q (n % 2 == 1) _ _ _ _ (λ odd. λ ne. refl)
    (λ even. extends_if c q (leaves_fewer at.left n) _ _ _ _ (λ few. λ ne. refl)
    (λ room. extends_map c q (within n at (set syntax Defined)) (within n (longer at q) (set syntax Defined))
    (λ s. record { length = Defined; set = s })
    (within_extends c q n at (set syntax Defined) h (law true q syntax Defined
    (record { left = Some n; bytes = at.bytes }) refl refl)))))

-- an item in which a number of levels may nest, itself included
reader_extends : (d : ℕ) → PartExtends (item_reader d)
reader_extends zero c q syntax n at h = λ ne. refl
reader_extends (suc d) c q syntax n at h = part_extends (set_with (item_reader d))
    (set_extends (item_reader d) (reader_extends d)) c q syntax n at h

-- ---- the whole

-- a refusal that was carried over
alike_fails : {X : Type 0} (r s : Result X SetFault) (e : SetFault) → FailsAlike r s → r ≡ Err e → e ≢ Truncated
    → s ≡ Err e
alike_fails (Ok x) s e h same ne = absurd cc
alike_fails {X} (Err f) s e h same ne = let one : f ≡ e = err_is f e same in
    subst (λ (g : SetFault). s ≡ Err g) one (h (λ t. ne (sym one ∙ t)))
  where
    err_is : (a b : SetFault) → ◌≡◌ {A = Result X SetFault} (Err a) (Err b) → a ≡ b
    err_is a b e = cc

-- the whole, at any number of levels
whole_fails : (d : ℕ) (syntax : Syntax) (front more : List ℕ)
    → FailsAlike (set_with (item_reader d) syntax Defined (record { left = None; bytes = front }) >>= λ x. done x.0)
    (set_with (item_reader d) syntax Defined (record { left = None; bytes = front ++ more }) >>= λ x. done x.0)
whole_fails d syntax front more =
    fails_on (set_with (item_reader d) syntax Defined (record { left = None; bytes = front }))
    (set_with (item_reader d) syntax Defined (record { left = None; bytes = front ++ more })) (λ x. x.0)
    (set_fails (item_reader d) (reader_extends d) more syntax (record { left = None; bytes = front }) refl)

-- a refusal of a front, other than its early end, is the refusal of all bytes that begin with it
pub front_fails : (syntax : Syntax) (front more : List ℕ) (e : SetFault) → read_all syntax front ≡ Err e → e ≢ Truncated
    → read_all syntax (front ++ more) ≡ Err e
unfolding read_all
front_fails syntax front more e r ne = alike_fails (read_all syntax front) (read_all syntax (front ++ more)) e
    (whole_fails max_levels syntax front more) r ne
