-- Where bytes are refused as a stage.
use Rattle.std.specs.Prelude.{◌≡◌, ◌≢◌, ◌<◌, ◌^◌, ℕ, zero, suc, ◌+◌, Bool, true, false, List, ◌∷◌, ◌++◌, length, map}
use Rattle.std.specs.Prelude.{Vec}
use Rattle.std.specs.Global.{Global}
use Rattle.std.specs.List.{AllByRecursion}
use Rattle.dd_encoding.specs.declared.syntax.Syntax.TheVariants.{Explicit}
use Rattle.dd_encoding.specs.Spelling.{Spells}
use Rattle.dd_encoding.specs.Elements.{Item, Items, items_of}
use Rattle.dd_grammar.specs.declared.fault.SetFault.{SetFault}
use Rattle.dd_grammar.specs.declared.fault.SetFault.TheVariants as set_faults
use Rattle.dd_staged.specs.declared.stage_fault.StageFault.{StageFault}
use Rattle.dd_staged.specs.declared.stage_fault.StageFault.TheVariants.{BadStage, Memory}
use Rattle.dd_staged.specs.declared.staged.Staged.{Staged}
use Rattle.dd_staged.specs.Sources.{IsSource, Source, source_view}
use Rattle.dd_staged.specs.Stages.{source_item, stage_set}

-- the item spells no source
abbrev pub SpellsNone : Item → Type 0
SpellsNone bad = (source : Source) → IsSource source → bad ≢ source_item source

-- the item with this number, from 1, is the first that spells no source: before it are the items of sources
pub record IsBadItem (number : ℕ) (parts : Items) : Type 0 where
  pub sources : List Source
  pub bad : Item
  pub others : List Item
  pub each : AllByRecursion IsSource sources
  pub none : SpellsNone bad
  pub is : parts ≡ items_of (map source_item sources ++ bad ∷ others)
  pub count : number ≡ length sources + 1

-- ---- of bytes

-- the bytes spell a list of these items, which may spell sources or not
pub record IsListOf (bytes : List ℕ) (parts : Items) : Type 0 where
  pub spells : Spells Explicit (stage_set parts) bytes
  pub short : length bytes < 2 ^ 32

-- a list with a bad item
pub record IsBadList (number : ℕ) (bytes : List ℕ) : Type 0 where
  pub parts : Items
  pub list : IsListOf bytes parts
  pub item : IsBadItem number parts

-- 0 where the bytes are no list of items
abbrev pub IsBadStage : ℕ → List ℕ → Type 0
IsBadStage zero bytes = (parts : Items) → ¬ IsListOf bytes parts
IsBadStage (suc n) bytes = IsBadList (suc n) bytes

-- ---- an answer

-- bytes that spell no data set
abbrev pub stage_fault_of : SetFault → StageFault
stage_fault_of set_faults.Memory = Memory
stage_fault_of fault = BadStage 0

abbrev pub sources_view : Vec Staged Global → List Source
sources_view list = map source_view list.items

abbrev pub is_memory : StageFault → Bool
is_memory (BadStage n) = false
is_memory Memory = true
