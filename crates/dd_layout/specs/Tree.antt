-- The tree of a directory: the set of all paths that lead to its images, and what each has in it (PS3.3 sections F.3
-- and F.4).
-- A tree is the list of its paths in dictionary order; no definition here knows levels, a pass, or a place in a list.
use Rattle.std.specs.Prelude.{◌≡◌, ◌≢◌, ℕ, ◌+◌, ◌&&◌, ◌↔◌, true, List, [], length, map, filter, find, Option}
use Rattle.std.specs.Prelude.{Contains, sum_by}
use Rattle.std.specs.List.{flat_map}
use Rattle.dd_catalogue.specs.Best.{IsRising, best}
use Rattle.dd_layout.specs.Paths.{Path, path_cmp, is_path, is_before, prefixes, parent_of, leads_to, are_siblings}

-- ---- the tree as a relation

-- in dictionary order, and its members are exactly the paths that lead to one of these, the empty one left out
pub record IsTree (paths tree : List Path) : Type 0 where
  pub rising : IsRising (λ path. path) path_cmp tree
  pub each : (x : Path) → Contains tree x ↔ ((x ≢ []) × ((p : Path) × Contains paths p × (leads_to x p ≡ true)))

-- ---- the same as a function

-- these paths in dictionary order, each once
abbrev pub in_order : List Path → List Path
in_order paths = best (λ path. path) path_cmp path_cmp paths

-- all paths that lead to one of these, and themselves
abbrev pub tree_of : List Path → List Path
tree_of paths = in_order (flat_map prefixes paths)

-- ---- what each path has in a tree

-- the place among the children of one parent, counted from 1
abbrev pub rank : List Path → Path → ℕ
rank tree x = 1 + length (filter (λ y. are_siblings y x && is_before y x) tree)

-- its children
abbrev pub children : List Path → Path → List Path
children tree x = filter (λ y. is_path (parent_of y) x) tree

-- the bytes before its record, where a record's size is known by its path and `first` bytes stand before all records
abbrev pub offset : ℕ → (Path → ℕ) → List Path → Path → ℕ
offset first size tree x = first + sum_by size (filter (λ y. is_before y x) tree)

-- the least path after it that has its parent
abbrev pub next_sibling : List Path → Path → Option Path
next_sibling tree x = find (λ y. are_siblings y x && is_before x y) tree

-- the least path whose parent it is
abbrev pub first_child : List Path → Path → Option Path
first_child tree x = find (λ y. is_path (parent_of y) x) tree

-- the ranks of the paths that lead to it, and its own
abbrev pub ranks_along : List Path → Path → List ℕ
ranks_along tree x = map (rank tree) (prefixes x)
