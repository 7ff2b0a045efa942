-- The bytes of a directory realise the tree of its versions.
use Rattle.std.specs.Prelude.{◌≡◌, ℕ, List, [], ◌∷◌, map}
use Rattle.std.proofs.Common.{refl, sym, ◌∙◌, ap, subst}
use Rattle.dd_catalogue.specs.Harmony.{harmonised}
use Rattle.dd_catalogue.specs.Versions.{IsCatalogue}
use Rattle.dd_version.specs.declared.parts.Parts.{Parts}
use Rattle.dd_records.specs.declared.label.Label.{Label}
use Rattle.dd_layout.specs.Paths.{Path}
use Rattle.dd_layout.specs.Plans.{tree}
use Rattle.dd_dir.specs.Directories.{directory, directory_of}
use Rattle.dd_dir.specs.Keyed.{IsSent}
use Rattle.dd_dir.specs.SaysItself.{SaysItself}
use Rattle.dd_dir.specs.Visits.{Realises, Visit, VisitsEachOnce, visit_at, visits_of}
use Rattle.dd_dir.specs.Withdrawn.{AreRisingUids}
use Rattle.dd_dir.proofs.EachOnce.{tree_once}
use Rattle.dd_dir.proofs.OwnDirectories.{directory_says}
use Rattle.dd_dir.proofs.SetIds.{id_said}
use Rattle.dd_dir.proofs.TreeWalks.{tree_is_walked, tree_visits, tree_walk}
use Rattle.dd_walk.proofs.WalkFiles.{one_walk}

-- the paths that are visited
visited_paths : (label : Label) (versions : List Parts) (rows : List Path)
    → map (λ visit. visit.path) (map (visit_at label versions) rows) ≡ rows
visited_paths label versions [] = refl
visited_paths label versions (x ∷ rows) = ap (λ (l : List Path). x ∷ l) (visited_paths label versions rows)

tree_realised : (label : Label) (m : List Parts) (withdrawn : List (List ℕ)) → IsCatalogue m
    → IsSent label (harmonised m) withdrawn → Realises label m (directory label m withdrawn)
tree_realised label m withdrawn up sent =
    let versions = harmonised m in
    let walk = tree_walk label versions withdrawn in
    let is = tree_is_walked label versions withdrawn sent in
    let visits = tree_visits label versions withdrawn sent in
    let paths : map (λ visit. visit.path) (visits_of walk) ≡ tree versions =
    ap (λ (l : List Visit). map (λ visit. visit.path) l) visits ∙ visited_paths label versions (tree versions) in
    record {
      catalogue = up;
      walk = walk;
      is_walk = is;
      only = λ other so. one_walk (directory label m withdrawn) walk other is so;
      uid = refl;
      id = id_said label versions withdrawn sent.id;
      visits = visits;
      reached = refl;
      each = subst (VisitsEachOnce m) (sym paths) (tree_once m);
    }

-- ---- versions of a catalogue in harmony

pub realises : (label : Label) (versions m : List Parts) (withdrawn : List (List ℕ)) → IsSent label versions withdrawn
    → IsCatalogue m → versions ≡ harmonised m → Realises label m (directory_of label versions withdrawn)
realises label versions m withdrawn sent up is =
    subst (λ (vs : List Parts). IsSent label vs withdrawn → Realises label m (directory_of label vs withdrawn)) (sym is)
    (tree_realised label m withdrawn up) sent

pub says_itself : (label : Label) (versions m : List Parts) (withdrawn : List (List ℕ))
    → IsSent label versions withdrawn → IsCatalogue m → AreRisingUids withdrawn → versions ≡ harmonised m
    → SaysItself m withdrawn (directory_of label versions withdrawn)
says_itself label versions m withdrawn sent up uids is =
    subst (λ (vs : List Parts). IsSent label vs withdrawn → SaysItself m withdrawn (directory_of label vs withdrawn))
    (sym is) (directory_says label m withdrawn up uids) sent
