-- A data set as definitions see it: elements in order, with nothing of where they lie in memory (PS3.5 section 7).
use Rattle.std.specs.Prelude.{ℕ, List, [], ◌∷◌, Option}
use Rattle.dd_elem.specs.declared.tag.Tag.{Tag}
use Rattle.dd_elem.specs.declared.vr.Vr.{Vr}
use Rattle.dd_encoding.specs.declared.syntax.Length.{Length}

mutual
  -- the elements of a data set: each its tag, its value representation where it has one, and its value
  pub data Elements : Type 0 where
    no_elements : Elements
    element : Tag → Option Vr → Content → Elements → Elements

  -- a value: bytes, or a sequence of items and what ends it, or the fragments of pixel data
  pub data Content : Type 0 where
    bytes : List ℕ → Content
    items : Length → Items → Content
    fragments : List (List ℕ) → Content

  -- the items of a sequence: each what ends it, and its data set
  pub data Items : Type 0 where
    no_items : Items
    item : Length → Elements → Items → Items

-- an element by itself
pub record Element : Type 0 where
  pub tag : Tag
  pub vr : Option Vr
  pub content : Content

-- an item by itself
pub record Item : Type 0 where
  pub length : Length
  pub set : Elements

abbrev pub elements_of : List Element → Elements
elements_of [] = no_elements
elements_of (e ∷ es) = element e.tag e.vr e.content (elements_of es)

abbrev pub items_of : List Item → Items
items_of [] = no_items
items_of (p ∷ ps) = item p.length p.set (items_of ps)
