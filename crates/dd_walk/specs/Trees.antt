-- Records as trees: each with those below it and those that come after it (PS3.3 section F.4).
use Rattle.std.specs.Prelude.{ℕ, Bool, List, [], ◌∷◌, ◌++◌, Option}
use Rattle.dd_encoding.specs.Elements.{Elements}

-- a record: its offset, its type, whether it is in use, and its elements
pub record Node : Type 0 where
  pub at : ℕ
  pub kind : List ℕ
  pub in_use : Bool
  pub set : Elements

-- trees in a row: a record, the trees below it, and the trees after it
pub data Trees : Type 0 where
  no_trees : Trees
  tree : Node → Trees → Trees → Trees

-- the offsets of all records, depth first
abbrev pub offsets : Trees → List ℕ
offsets no_trees = []
offsets (tree node below after) = node.at ∷ (offsets below ++ offsets after)

-- the offset of the last of these trees, and `before` where there is no tree
abbrev pub last_offset_or : ℕ → Trees → ℕ
last_offset_or before no_trees = before
last_offset_or before (tree node below after) = last_offset_or node.at after

-- what a directory says beside its records: its UID, its File-set ID, and the value that names its withdrawn UIDs,
-- where it has one
pub record Beside : Type 0 where
  pub uid : List ℕ
  pub id : List ℕ
  pub withdrawn : Option (List ℕ)

-- what following the offsets of a directory gives: what it says beside its records, the records reached, and how many
-- were not reached
pub record Walk : Type 0 where
  pub beside : Beside
  pub trees : Trees
  pub unreached : ℕ
