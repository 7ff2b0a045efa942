-- Paths: what leads from the root of a directory down to a record (PS3.3 section F.4). A patient's path is its
-- Patient ID; a study's, a series' and an image's have their UIDs after it.
use Rattle.std.specs.Prelude.{ℕ, Bool, true, false, ◌&&◌, List, [], ◌∷◌, map}
use Rattle.std.specs.Cmp.Lexicographic.{slice_cmp}
use Rattle.std.specs.Ordering.{is_eq, is_lt}
use Rattle.std.specs.declared.cmp.Ordering.{Ordering}
use Rattle.dd_elem.specs.Ordered.{bytes_cmp}

abbrev pub Path : Type 0
Path = List (List ℕ)

-- the dictionary order of paths, in which what leads to a record comes before it
abbrev pub path_cmp : Path → Path → Ordering
path_cmp = slice_cmp bytes_cmp

abbrev pub is_path : Path → Path → Bool
is_path x y = is_eq (path_cmp x y)

abbrev pub is_before : Path → Path → Bool
is_before x y = is_lt (path_cmp x y)

-- the paths that lead to this one, and itself: its fronts of one part and more
abbrev pub prefixes : Path → List Path
prefixes [] = []
prefixes (part ∷ path) = (part ∷ []) ∷ map (λ q. part ∷ q) (prefixes path)

-- the path of the record above: all parts but the last
abbrev pub parent_of : Path → Path
parent_of [] = []
parent_of (part ∷ []) = []
parent_of (part ∷ next ∷ path) = part ∷ parent_of (next ∷ path)

-- they have one parent
abbrev pub are_siblings : Path → Path → Bool
are_siblings x y = is_path (parent_of x) (parent_of y)

-- it leads to the other, or is it: a front of it
abbrev pub leads_to : Path → Path → Bool
leads_to [] path = true
leads_to (part ∷ front) [] = false
leads_to (part ∷ front) (other ∷ path) = is_eq (bytes_cmp part other) && leads_to front path
