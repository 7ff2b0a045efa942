-- Harmony keeps the path of each version, and so the tree.
use Rattle.std.specs.Prelude.{◌≡◌, ℕ, List, [], ◌∷◌, map}
use Rattle.std.proofs.Common.{refl, ◌∙◌, ap, inl, inr}
use Rattle.dd_catalogue.specs.Agreement.{IsSameImage}
use Rattle.dd_catalogue.specs.Conflicts.{first_conflict}
use Rattle.dd_catalogue.specs.Harmony.{agreed, harmonised}
use Rattle.dd_catalogue.proofs.Images.{agreed_image}
use Rattle.dd_catalogue.proofs.Members.{Member}
use Rattle.dd_version.specs.declared.parts.Parts.{Parts}
use Rattle.dd_records.specs.declared.label.Label.{Label}
use Rattle.dd_layout.specs.Limits.{Limits}
use Rattle.dd_layout.specs.Plans.{path_of, size, tree}
use Rattle.dd_layout.specs.Refusal.{conflict_or, crowded, crowding_or, oversize, refusal}
use Rattle.dd_layout.specs.Tree.{tree_of}

same_path : (v w : Parts) → IsSameImage v w → path_of w ≡ path_of v
same_path v w same = rw (same.patient, same.study, same.series, same.instance) refl

same_paths : (f : Parts → Parts) (m : List Parts) → ((v : Parts) → Member v m → IsSameImage v (f v))
    → map path_of (map f m) ≡ map path_of m
same_paths f [] h = refl
same_paths f (v ∷ m) h =
    ap (λ p. p ∷ map path_of (map f m)) (same_path v (f v) (h v (inl refl)))
    ∙ ap (λ paths. path_of v ∷ paths) (same_paths f m (λ w i. h w (inr i)))

pub same_tree : (m : List Parts) → tree (harmonised m) ≡ tree m
same_tree m = ap tree_of (same_paths (agreed m) m (λ v i. agreed_image m v i))

pub refused_by_the_tree : (label : Label) (limits : Limits) (m : List Parts) (withdrawn : List (List ℕ))
    → refusal label limits m withdrawn
    ≡ conflict_or (first_conflict m) (crowding_or (crowded limits.per_level (tree m))
    (oversize limits.bytes (size label (harmonised m) withdrawn)))
refused_by_the_tree label limits m withdrawn =
    ap (λ t. conflict_or (first_conflict m) (crowding_or (crowded limits.per_level t)
    (oversize limits.bytes (size label (harmonised m) withdrawn)))) (same_tree m)
