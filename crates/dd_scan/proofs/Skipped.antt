-- Skipping what is read: nothing is kept of it, and reading goes on after it.
use Rattle.std.proofs.Common.{◌≡◌, ◌<◌, ◌≤◌, ℕ, suc, ◌+◌, ◌-◌, List, [], ◌∷◌, ◌++◌, length, Option, Some, None, Result}
use Rattle.std.proofs.Common.{Ok, Err, refl, arith}
use Rattle.dd_elem.specs.declared.tag.Tag.{Tag}
use Rattle.dd_elem.specs.Tag.{number_of}
use Rattle.dd_grammar.specs.declared.fault.SetFault.{SetFault}
use Rattle.dd_encoding.specs.declared.syntax.Length.{Length}
use Rattle.dd_encoding.specs.declared.syntax.Syntax.{Syntax}
use Rattle.dd_encoding.specs.Elements.{Elements, Items, Element, Item, elements_of, items_of}
use Rattle.dd_grammar.specs.AnswersAs.{FailsAs}
use Rattle.dd_grammar.specs.Faults.{is_memory}
use Rattle.dd_grammar.specs.Reading.{Header, front_at, item_front_at, At, Reads, ◌>>=◌, SequenceReader, ItemReader}
use Rattle.dd_grammar.specs.Reading.{content_at, element_at, elements_at, item_at, items_at, sequence_with, set_with}
use Rattle.dd_scan.specs.Skips.{IsThere, Skips}
use Rattle.dd_scan.proofs.Shorter.{front_shortens, item_front_shortens}
use Rattle.dd_grammar.proofs.Failing.{bind_fails}
use Rattle.dd_grammar.proofs.Loops.{with_items, with_elements, fails_along, items_more, items_done, items_fail}
use Rattle.dd_grammar.proofs.Loops.{elements_more, elements_done, elements_fail}
use Rattle.dd_grammar.proofs.ReadingOn.{element_found, item_found}

-- a value that is skipped is skipped with what it is put into
pub skips_along : {X Y Z : Type 0} (view : X → Y) (r : Result Z SetFault) (read : Reads X) (end : At)
    → Skips r read end → Skips r (read >>= λ x. Ok (view x.0, x.1)) end
skips_along view (Ok z) read end h = (view h.0, rw h.1 refl)
skips_along view (Err e) read end h = fails_along e _ _ h (λ f k. bind_fails read _ f k)

-- an element with this tag was read, and bytes with it
pub record ElementStep (sequence : SequenceReader) (syntax : Syntax) (form : Length) (low : ℕ) (left : Option ℕ)
    (tag : Tag) (bytes : List ℕ) (now : Option ℕ) (rest : List ℕ) : Type 0 where
  pub entry : Element
  pub tagged : entry.tag ≡ tag
  pub read : element_at sequence syntax form low (record { left = left; bytes = bytes }) ≡ Ok
      (Some entry, record { left = now; bytes = rest })
  pub shorter : length rest < length bytes

-- an item was read
pub record ItemStep (part : ItemReader) (syntax : Syntax) (form : Length) (left : Option ℕ) (bytes : List ℕ)
    (now : Option ℕ) (rest : List ℕ) : Type 0 where
  pub item : Item
  pub read : item_at part syntax form (record { left = left; bytes = bytes }) ≡ Ok
      (Some item, record { left = now; bytes = rest })
  pub shorter : length rest < length bytes

pub element_steps : (sequence : SequenceReader) (syntax : Syntax) (form : Length) (low : ℕ) (left : Option ℕ)
    (header : Header) (bytes : List ℕ) (after now : Option ℕ) (mid rest : List ℕ)
    → front_at syntax form low (record { left = left; bytes = bytes }) ≡ Ok
    (Some header, record { left = after; bytes = mid })
    → IsThere (content_at sequence syntax header (record { left = after; bytes = mid }))
    (record { left = now; bytes = rest })
    → length rest ≤ length mid
    → ElementStep sequence syntax form low left header.tag bytes now rest
element_steps sequence syntax form low left header bytes after now mid rest h k few = record {
  entry = record { tag = header.tag; vr = header.shape.vr; content = k.0 };
  tagged = refl;
  read = element_found sequence syntax form low (record { left = left; bytes = bytes }) header
      (record { left = after; bytes = mid }) (record { left = now; bytes = rest }) k.0 h k.1;
  shorter = omega (arith, (front_shortens syntax form low (record { left = left; bytes = bytes })).left header _ h);
}

pub item_steps : (part : ItemReader) (syntax : Syntax) (form : Length) (left : Option ℕ) (n : ℕ) (bytes : List ℕ)
    (after now : Option ℕ) (mid rest : List ℕ)
    → item_front_at form (record { left = left; bytes = bytes }) ≡ Ok (Some n, record { left = after; bytes = mid })
    → IsThere (part syntax n (record { left = after; bytes = mid })) (record { left = now; bytes = rest })
    → length rest ≤ length mid
    → ItemStep part syntax form left bytes now rest
item_steps part syntax form left n bytes after now mid rest h k few = record {
  item = k.0;
  read = item_found part syntax form (record { left = left; bytes = bytes }) n (record { left = after; bytes = mid })
      (record { left = now; bytes = rest }) k.0 h k.1;
  shorter = omega (arith, (item_front_shortens form (record { left = left; bytes = bytes })).left n _ h);
}

-- ---- several

-- some elements were read from the start of a set, and those that reading gives from here are the others
pub record ElementsGo (part : ItemReader) (syntax : Syntax) (form : Length) (first : Option ℕ) (bytes : List ℕ)
    (low : ℕ) (left : Option ℕ) (rest : List ℕ) : Type 0 where
  pub most : ℕ
  pub front : List Element
  pub enough : length rest < most
  pub so_far : with_elements front (elements_at (sequence_with part) syntax form most low
      (record { left = left; bytes = rest })) ≡ set_with part syntax form (record { left = first; bytes = bytes })

-- the same of items
pub record ItemsGo (part : ItemReader) (syntax : Syntax) (form : Length) (first : Option ℕ) (bytes : List ℕ)
    (left : Option ℕ) (rest : List ℕ) : Type 0 where
  pub most : ℕ
  pub front : List Item
  pub enough : length rest < most
  pub so_far : with_items front (items_at part syntax form most (record { left = left; bytes = rest })) ≡ sequence_with
      part syntax form (record { left = first; bytes = bytes })

pub with_no_elements : (r : Reads Elements) → with_elements [] r ≡ r
with_no_elements (Ok x) = refl
with_no_elements (Err e) = refl

with_no_items : (r : Reads Items) → with_items [] r ≡ r
with_no_items (Ok x) = refl
with_no_items (Err e) = refl

module _ (part : ItemReader) (syntax : Syntax) (form : Length) (first : Option ℕ) where
  pub elements_start : (bytes : List ℕ) → ElementsGo part syntax form first bytes 0 first bytes
  elements_start bytes = record {
    most = suc (length bytes);
    front = [];
    enough = omega arith;
    so_far =
        with_no_elements _;
  }

  pub items_start : (bytes : List ℕ) → ItemsGo part syntax form first bytes first bytes
  items_start bytes = record { most = suc (length bytes); front = []; enough = omega arith; so_far = with_no_items _ }

  module _ (bytes : List ℕ) (left : Option ℕ) (mid : List ℕ) where
    pub elements_go : (low : ℕ) (e : Element) (now : Option ℕ) (rest : List ℕ)
        → ElementsGo part syntax form first bytes low left mid
        → element_at (sequence_with part) syntax form low (record { left = left; bytes = mid }) ≡ Ok
        (Some e, record { left = now; bytes = rest }) → length rest < length mid
        → ElementsGo part syntax form first bytes (number_of e.tag + 1) now rest
    elements_go low e now rest go h shorter = record {
      most = go.most - 1;
      front = go.front ++ e ∷ [];
      enough = omega arith;
      so_far = elements_more (sequence_with part) syntax form (length mid) go.most low go.front
          (record { left = left; bytes = mid }) (record { left = now; bytes = rest }) e _ go.enough h go.so_far;
    }

    pub elements_end : (low : ℕ) (end : At) → (go : ElementsGo part syntax form first bytes low left mid)
        → element_at (sequence_with part) syntax form low (record { left = left; bytes = mid }) ≡ Ok (None, end)
        → set_with part syntax form (record { left = first; bytes = bytes }) ≡ Ok (elements_of go.front, end)
    elements_end low end go h = elements_done (sequence_with part) syntax form (length mid) go.most low go.front
        (record { left = left; bytes = mid }) end _ go.enough h go.so_far

    pub elements_stop : (low : ℕ) (e : SetFault) → ElementsGo part syntax form first bytes low left mid
        → FailsAs is_memory e (element_at (sequence_with part) syntax form low (record { left = left; bytes = mid }))
        → FailsAs is_memory e (set_with part syntax form (record { left = first; bytes = bytes }))
    elements_stop low e go h = elements_fail (sequence_with part) syntax form (length mid) go.most low go.front
        (record { left = left; bytes = mid }) _ e go.enough h go.so_far

    pub items_go : (p : Item) (now : Option ℕ) (rest : List ℕ) → ItemsGo part syntax form first bytes left mid
        → item_at part syntax form (record { left = left; bytes = mid }) ≡ Ok
        (Some p, record { left = now; bytes = rest }) → length rest < length mid
        → ItemsGo part syntax form first bytes now rest
    items_go p now rest go h shorter = record {
      most = go.most - 1;
      front = go.front ++ p ∷ [];
      enough = omega arith;
      so_far = items_more part syntax form (length mid) go.most go.front (record { left = left; bytes = mid })
          (record { left = now; bytes = rest }) p _ go.enough h go.so_far;
    }

    pub items_end : (end : At) → (go : ItemsGo part syntax form first bytes left mid)
        → item_at part syntax form (record { left = left; bytes = mid }) ≡ Ok (None, end)
        → sequence_with part syntax form (record { left = first; bytes = bytes }) ≡ Ok (items_of go.front, end)
    items_end end go h = items_done part syntax form (length mid) go.most go.front (record { left = left; bytes = mid })
        end _ go.enough h go.so_far

    pub items_stop : (e : SetFault) → ItemsGo part syntax form first bytes left mid
        → FailsAs is_memory e (item_at part syntax form (record { left = left; bytes = mid }))
        → FailsAs is_memory e (sequence_with part syntax form (record { left = first; bytes = bytes }))
    items_stop e go h = items_fail part syntax form (length mid) go.most go.front (record { left = left; bytes = mid })
        _ e go.enough h go.so_far
