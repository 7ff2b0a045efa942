-- What following the offsets of a directory visits, in terms of the records in its bytes (PS3.3 sections F.4 and F.5).
use Rattle.std.specs.Prelude.{◌≡◌, ℕ, true, List, [], ◌∷◌, ◌++◌, length, map, filter, Contains, Option, Some, None}
use Rattle.dd_version.specs.declared.parts.Parts.{Parts}
use Rattle.dd_catalogue.specs.Harmony.{harmonised}
use Rattle.dd_catalogue.specs.Versions.{IsCatalogue}
use Rattle.dd_encoding.specs.Elements.{Elements, elements_of}
use Rattle.dd_records.specs.declared.label.Label.{Label}
use Rattle.dd_records.specs.ElementForms.{tag}
use Rattle.dd_layout.specs.Paths.{Path, is_path, leads_to, parent_of}
use Rattle.dd_layout.specs.Plans.{at, at_or_none, level_of, path_of, record_at, tree}
use Rattle.dd_records.specs.Records.{kind_of}
use Rattle.dd_dir.specs.Directories.{elements_for}
use Rattle.dd_walk.specs.Reading.{IsWalk}
use Rattle.dd_walk.specs.Saying.{key_of}
use Rattle.dd_walk.specs.Trees as trees
use Rattle.dd_walk.specs.Trees.{Node, Trees, Walk, no_trees}

-- ---- what is visited

-- the key by which a record below the records of this path is known: Patient ID, Study Instance UID, Series Instance
-- UID, Referenced SOP Instance UID in File
abbrev pub own_key : Path → Elements → List ℕ
own_key [] set = key_of (tag 0x0010 0x0020) set
own_key (patient ∷ []) set = key_of (tag 0x0020 0x000d) set
own_key (patient ∷ study ∷ []) set = key_of (tag 0x0020 0x000e) set
own_key (patient ∷ study ∷ series ∷ front) set = key_of (tag 0x0004 0x1511) set

-- a record that is visited: the keys of the records above it and its own, the offset of the record right above it or 0,
-- and the record
pub record Visit : Type 0 where
  pub path : Path
  pub above : ℕ
  pub node : Node

-- the records of these trees, depth first, below the record with these keys at this offset
abbrev pub visits_below : Path → ℕ → Trees → List Visit
visits_below front above no_trees = []
visits_below front above (trees.tree node below after) =
    let path = front ++ own_key front node.set ∷ [] in
    record { path = path; above = above; node = node }
    ∷ (visits_below path node.at below ++ visits_below front above after)

abbrev pub visits_of : Walk → List Visit
visits_of walk = visits_below [] 0 walk.trees

-- ---- what is to be visited

-- the offset of the record above, and 0 at the top
abbrev pub or_root : Path → Option Path
or_root [] = None
or_root (part ∷ path) = Some (part ∷ path)

abbrev pub above_of : Label → List Parts → Path → ℕ
above_of label versions x = at_or_none label versions (or_root (parent_of x))

-- the record of a path of the tree of these versions, which are in harmony
abbrev pub node_at : Label → List Parts → Path → Node
node_at label versions x = record {
  at = at label versions x;
  kind = kind_of (level_of x);
  in_use = true;
  set = elements_of (elements_for versions (record_at label versions x));
}

abbrev pub visit_at : Label → List Parts → Path → Visit
visit_at label versions x =
    record { path = x; above = above_of label versions x; node = node_at label versions x }

-- ---- the tree realised

-- Following the offsets visits each of these versions exactly once, beneath its own series, study and patient. It
-- visits no other instance, and no record that has none of them beneath it.
pub record VisitsEachOnce (m : List Parts) (paths : List Path) : Type 0 where
  pub once : (v : Parts) → Contains m v → length (filter (is_path (path_of v)) paths) ≡ 1
  pub others : (x : Path) → Contains paths x → (v : Parts) × Contains m v × (leads_to x (path_of v) ≡ true)

-- The versions are a catalogue: of each instance one. The bytes have one walk, with the UID and the File-set ID of the
-- label. The records that it visits are the records of the tree of these versions in harmony, one by one. Each has the
-- same keys as there, its own and of the records above it, read from its bytes. Each has the same offset, offset of the
-- record above, type and elements. All are in use, and none is left unreached.
pub record Realises (label : Label) (m : List Parts) (file : List ℕ) : Type 0 where
  pub catalogue : IsCatalogue m
  pub walk : Walk
  pub is_walk : IsWalk file walk
  pub only : (other : Walk) → IsWalk file other → other ≡ walk
  pub uid : walk.beside.uid ≡ label.uid
  pub id : walk.beside.id ≡ label.id
  pub visits : visits_of walk ≡ map (visit_at label (harmonised m)) (tree (harmonised m))
  pub reached : walk.unreached ≡ 0
  pub each : VisitsEachOnce m (map (λ visit. visit.path) (visits_of walk))
