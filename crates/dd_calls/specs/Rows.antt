-- The records of a directory as rows of a table, and their values as texts in a row.
use Rattle.std.specs.Prelude.{◌≡◌, ℕ, ◌+◌, ◌/◌, ◌%◌, ◌<◌, ◌≤◌, ◌⊎◌, min, List, [], ◌∷◌, ◌++◌, length, map}
use Rattle.std.specs.Prelude.{if◌then◌else◌}
use Rattle.std.specs.List.{flat_map}
use Rattle.std.specs.Str.{bytes_eq}
use Rattle.dd_elem.specs.declared.tag.Tag.{Tag}
use Rattle.dd_records.specs.declared.level.Level.TheVariants.{Patient, Study, Series, Image}
use Rattle.dd_records.specs.Records.{kind_of}
use Rattle.dd_walk.specs.ForestViews.{Branch}
use Rattle.dd_walk.specs.Reading.{IsWalk}
use Rattle.dd_walk.specs.Saying.{key_of}
use Rattle.dd_walk.specs.Trees.{Node, Trees, Walk, no_trees, tree}
use Rattle.dd_calls.specs.declared.answer.Answer.{Answer}
use Rattle.dd_calls.specs.declared.table.Row.{Row}
use Rattle.dd_calls.specs.declared.table.Table.{Table}
use Rattle.dd_calls.specs.Sizes.{over, sized}
use Rattle.dd_calls.specs.Texts.{AreTexts, Puts}

-- ---- the records, depth first

-- a record, and how many stand above it
pub record Leveled : Type 0 where
  pub level : ℕ
  pub node : Node

abbrev pub deeper : ℕ → ℕ
deeper level = min (level + 1) 4294967295

abbrev pub rows_of : ℕ → Trees → List Leveled
rows_of level no_trees = []
rows_of level (tree node below after) =
    (record { level = level; node = node } ∷ rows_of (deeper level) below) ++ rows_of level after

-- of a record and of those below it
abbrev pub branch_rows : ℕ → Branch → List Leveled
branch_rows level branch = record { level = level; node = branch.node } ∷ rows_of (deeper level) branch.below

-- ---- their rows

abbrev pub kind_number : List ℕ → ℕ
kind_number kind =
    if bytes_eq kind (kind_of Patient) then 1
    else (if bytes_eq kind (kind_of Study) then 2
    else (if bytes_eq kind (kind_of Series) then 3
    else (if bytes_eq kind (kind_of Image) then 4 else 0)))

abbrev pub row_view : Leveled → Row
row_view r = record {
  at = r.node.at;
  level = r.level;
  kind = kind_number r.node.kind;
  in_use = if r.node.in_use then 1 else 0;
}

-- ---- their values

abbrev pub tag_of : ℕ → Tag
tag_of n = record { group = n / 65536; element = n % 65536 }

-- the values that a record has at these tags, without their padding: no bytes where it has no value, or items
abbrev pub values_at : List ℕ → Node → List (List ℕ)
values_at tags node = map (λ n. key_of (tag_of n) node.set) tags

abbrev pub values_of : List ℕ → List Leveled → List (List ℕ)
values_of tags rows = flat_map (λ r. values_at tags r.node) rows

-- ---- a table that grows

-- these rows were added, and these values
pub record AddsRows (rows : List Row) (values : List (List ℕ)) (old new : Table) : Type 0 where
  pub rows_are : new.rows.items ≡ old.rows.items ++ rows
  pub values_are : Puts values old.values new.values

-- these records were, and their values at these tags
abbrev pub Adds : List ℕ → List Leveled → Table → Table → Type 0
Adds tags records old new = AddsRows (map row_view records) (values_of tags records) old new

-- ---- the table of a directory

-- the table has a row for each record of the walk of the bytes, and the values of each at these tags
pub record IsTable (bytes tags : List ℕ) (table : Table) : Type 0 where
  pub walk : Walk
  pub is_walk : IsWalk bytes walk
  pub rows : table.rows.items ≡ map row_view (rows_of 0 walk.trees)
  pub values : AreTexts (values_of tags (rows_of 0 walk.trees)) table.values

-- it was given whole
pub record AreGiven (bytes tags : List ℕ) (old_rows : List Row) (old_ends old_text : List ℕ) (rows : List Row)
    (ends text : List ℕ) (answer : Answer) : Type 0 where
  pub table : Table
  pub is_table : IsTable bytes tags table
  pub fit_rows : length table.rows.items ≤ length old_rows
  pub fit_ends : length table.values.ends.items ≤ length old_ends
  pub fit_text : length table.values.text.items ≤ length old_text
  pub rows_are : rows ≡ over table.rows.items old_rows
  pub ends_are : ends ≡ over table.values.ends.items old_ends
  pub text_is : text ≡ over table.values.text.items old_text
  pub size : answer ≡ sized (length table.values.text.items) (length table.rows.items) 0

-- one of its three parts is longer than its room
pub record AreWider (bytes tags : List ℕ) (room_rows room_ends room_text : ℕ) (answer : Answer) : Type 0 where
  pub table : Table
  pub is_table : IsTable bytes tags table
  pub longer : (room_rows < length table.rows.items)
      ⊎ ((room_ends < length table.values.ends.items) ⊎ (room_text < length table.values.text.items))
  pub size : answer ≡ sized (length table.values.text.items) (length table.rows.items) 0
