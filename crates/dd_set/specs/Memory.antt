-- Where reading allocates: the same reading where nothing has a place, so that the first item or element that was
-- read whole lacks memory. All else about the bytes is checked as by `Reading`.
use Rattle.std.specs.Prelude.{◌≡◌, ◌⊎◌, ℕ, zero, suc, List, Option, Some, None, Ok, Err}
use Rattle.dd_grammar.specs.declared.fault.SetFault.TheVariants.{TooDeep, Memory}
use Rattle.dd_encoding.specs.declared.syntax.Length.TheVariants.{Defined}
use Rattle.dd_encoding.specs.declared.syntax.Syntax.{Syntax}
use Rattle.dd_encoding.specs.Elements.{Elements, no_elements, Content, Items, no_items, Element, Item}
use Rattle.dd_grammar.specs.Reading.{At, Reads, ◌>>=◌, SequenceReader, SetReader, ItemReader, element_at, item_at}
use Rattle.dd_grammar.specs.Reading.{part_at}
use Rattle.dd_encoding.specs.Spelling.{max_levels}

-- an item that was read has no place
abbrev pub keeps_no_item : Option Item × At → Reads Items
keeps_no_item (None, at) = Ok (no_items, at)
keeps_no_item (Some p, at) = Err Memory

abbrev pub unkept_sequence : ItemReader → SequenceReader
unkept_sequence part syntax form at = item_at part syntax form at >>= keeps_no_item

-- an element that was read has no place
abbrev pub keeps_no_element : Option Element × At → Reads Elements
keeps_no_element (None, at) = Ok (no_elements, at)
keeps_no_element (Some e, at) = Err Memory

abbrev pub unkept_set : ItemReader → SetReader
unkept_set part syntax form at = element_at (unkept_sequence part) syntax form 0 at >>= keeps_no_element

-- an item where this number of levels may still nest
abbrev pub unkept_item : ℕ → ItemReader
unkept_item zero syntax n at = Err TooDeep
unkept_item (suc levels) syntax n at = part_at (unkept_set (unkept_item levels)) syntax n at

-- Within an element: where nothing has a place the reading lacks memory, or it gives the whole of it, as a list of
-- fragments, which then has no place.
abbrev pub WantsContent : Reads Content → Reads Content → Type 0
WantsContent full unkept = (unkept ≡ Err Memory) ⊎ ((c : Content) × (end : At) × (full ≡ Ok (c, end)))

abbrev pub WantsElement : Reads (Option Element) → Reads (Option Element) → Type 0
WantsElement full unkept = (unkept ≡ Err Memory) ⊎ ((e : Element) × (end : At) × (full ≡ Ok (Some e, end)))

-- reading the bytes allocates: an item or an element was read whole before a check failed
abbrev pub WantsMemory : Syntax → List ℕ → Type 0
WantsMemory syntax bs = unkept_set (unkept_item max_levels) syntax Defined (record { left = None; bytes = bs })
    ≡ Err Memory
