-- The long listing in JSON, whose records have the paths at which their files are found.
use Rattle.std.specs.Prelude.{◌≡◌, ℕ, All, List, [], ◌∷◌, ◌++◌, Option, None, Some, codes, map, option_map, string_bytes}
use Rattle.std.specs.List.{flat_map}
use Rattle.serde_json.specs.Data.{Data, null, string}
use Rattle.dd_elem.specs.Device.{counted}
use Rattle.dd_elem.specs.FileIdForm.{IsFileId}
use Rattle.dd_walk.specs.ForestViews.{Branch, tree_view}
use Rattle.dd_walk.specs.Trees.{Node, Trees, Walk, no_trees, tree}
use Rattle.dd_files.specs.Files.{Held}
use Rattle.dd_files.specs.FoundPaths.{IsFoundAt}
use Rattle.dd_files.specs.Paths.{IsPathIn, id_path}
use Rattle.dd_json.specs.Values.{json_line, object_of}
use Rattle.dd_json.specs.declared.value.Style.{Style}
use Rattle.dd_json.specs.declared.value.Style.TheVariants.{Text, Json}
use Rattle.dd_report.specs.declared.found_records.FoundRecord.{FoundRecord}
use Rattle.dd_report.specs.declared.known.Form.{Form}
use Rattle.dd_report.specs.declared.known.Form.TheVariants.{Short, Long}
use Rattle.dd_report.specs.Finding.{file_in}
use Rattle.dd_report.specs.Listing.{elements_in, end_lines, listing, record_members, set_line}

-- a record and its level
pub record Row : Type 0 where
  pub level : ℕ
  pub node : Node

abbrev pub row_of : ℕ → Node → Row
row_of level node = record { level = level; node = node }

-- the records depth first
abbrev pub rows_of : ℕ → Trees → List Row
rows_of level no_trees = []
rows_of level (tree node below after) =
    (row_of level node ∷ rows_of (counted level) below) ++ rows_of level after

-- a record and the path of its file
pub record FoundRow : Type 0 where
  pub row : Row
  pub path : Option (List ℕ)

abbrev pub found_row : FoundRecord → FoundRow
found_row found = record {
  row = row_of found.level (tree_view found.tree.now).node;
  path = option_map (λ path. string_bytes path) found.path;
}

abbrev pub found_rows : List FoundRecord → List FoundRow
found_rows records = map found_row records

abbrev pub rows_in : List FoundRow → List Row
rows_in found = map (λ (x : FoundRow). x.row) found

-- a record and those below it
abbrev pub branch_rows : ℕ → Branch → List Row
branch_rows level branch = row_of level branch.node ∷ rows_of (counted level) branch.below

-- ---- its object

abbrev pub path_data : Option (List ℕ) → Data
path_data None = null
path_data (Some path) = string path

-- a record has its path between the members of the short form and its data set
abbrev pub found_members : ℕ → Node → Option (List ℕ) → List (List ℕ × Data)
found_members level node path =
    (record_members level node ++ (codes "path", path_data path) ∷ []) ++ elements_in Long node.set

abbrev pub found_json : ℕ → Node → Option (List ℕ) → Data
found_json level node path = object_of ((codes "line", string (codes "RECORD")) ∷ found_members level node path)

abbrev pub found_line : FoundRow → List ℕ
found_line found = json_line (found_json found.row.level found.row.node found.path)

abbrev pub found_lines : List FoundRow → List ℕ
found_lines found = flat_map found_line found

-- the line that names the file-set, those of its records, and the last ones
abbrev pub found_listing : Walk → List FoundRow → List ℕ
found_listing walk found = set_line Json walk ++ (found_lines found ++ end_lines Json walk)

-- ---- what `list` prints of a file-set in this folder, where files may be shown so and hold this

module _ (IsShown : List ℕ → List ℕ → List ℕ → Type 0) (held : Option Held) (folder : List ℕ) where
  -- where the file of a record is found: nowhere, unless the record names it by a File ID
  pub record IsPathOf (node : Node) (path : Option (List ℕ)) : Type 0 where
    pub unnamed : ¬ IsFileId (file_in node) → path ≡ None
    pub named : IsFileId (file_in node) → (recorded : List ℕ) × IsPathIn folder (id_path (file_in node)) recorded
        × IsFoundAt (IsShown folder recorded) held recorded path

  abbrev pub IsFound : FoundRow → Type 0
  IsFound found = IsPathOf found.row.node found.path

  -- these records, each with the path of its file
  pub record AreFound (rows : List Row) (found : List FoundRow) : Type 0 where
    pub rows_are : rows_in found ≡ rows
    pub paths_are : All IsFound found

  -- the long listing in JSON has these paths
  abbrev pub IsListing : Style → Form → Walk → List ℕ → Type 0
  IsListing Text form walk text = text ≡ listing Text form walk
  IsListing Json Short walk text = text ≡ listing Json Short walk
  IsListing Json Long walk text =
      (found : List FoundRow) × AreFound (rows_of 0 walk.trees) found × (text ≡ found_listing walk found)

  -- records after others
  abbrev pub FindsMore : List Row → List FoundRow → List FoundRow → Type 0
  FindsMore rows old new = (found : List FoundRow) × AreFound rows found × (new ≡ old ++ found)
