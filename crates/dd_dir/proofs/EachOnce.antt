-- The tree of versions in harmony has each version's path once, and nothing that leads to none.
use Rattle.std.specs.Prelude.{◌≡◌, ◌≢◌, ℕ, suc, true, List, [], ◌∷◌, length, map, filter}
use Rattle.std.specs.declared.cmp.Ordering.{Ordering}
use Rattle.std.proofs.Common.{refl, sym, ◌∙◌, ap, subst, inl, inr}
use Rattle.dd_elem.specs.Ordered.{bytes_cmp}
use Rattle.dd_version.specs.Orders.{patient_total, patient_apart, study_total, study_apart}
use Rattle.dd_version.specs.Orders.{series_total, series_apart}
use Rattle.dd_version.specs.declared.parts.Parts.{Parts}
use Rattle.dd_catalogue.proofs.Members.{Member, contained, member_of}
use Rattle.dd_catalogue.proofs.BestMembers.{above_member, best_at_key}
use Rattle.dd_catalogue.specs.Harmony.{agreed, greatest_like, harmonised, patient_key, patient_of, series_key}
use Rattle.dd_catalogue.specs.Harmony.{series_of, study_key, study_of}
use Rattle.dd_catalogue.specs.Rising.{Orders, less_turned}
use Rattle.dd_catalogue.proofs.Harmonies.{best_like, member-map}
use Rattle.dd_catalogue.proofs.Places.{by_key}
use Rattle.dd_layout.specs.Paths.{Path, is_path, leads_to, path_cmp}
use Rattle.dd_layout.specs.Plans.{path_of, tree}
use Rattle.dd_layout.proofs.Blocks.{leads_itself, path_itself}
use Rattle.dd_layout.proofs.RowsByWalk.{Above, Rises, path_total}
use Rattle.dd_layout.proofs.Trees.{tree_is_tree}
use Rattle.dd_dir.specs.Visits.{VisitsEachOnce}

-- ---- harmony changes no path

like_key : {V T : Type 0} (tuple : V → T) {key : T → List ℕ} {order : T → T → Ordering}
    (o : Orders key bytes_cmp order) (m : List V) (v : V) → Member v m
    → key (greatest_like tuple key order m v) ≡ key (tuple v)
like_key tuple {key = key} {order = order} o m v i =
    best_at_key o (key (tuple v)) (map tuple m) (greatest_like tuple key order m v) (best_like tuple o m v i)

agreed_path : (m : List Parts) (v : Parts) → Member v m → path_of (agreed m v) ≡ path_of v
agreed_path m v i =
    let patient = like_key patient_of (by_key patient_key patient_total patient_apart) m v i in
    let study = like_key study_of (by_key study_key study_total study_apart) m v i in
    let series = like_key series_of (by_key series_key series_total series_apart) m v i in
    λ j. patient j ∷ study j ∷ series j ∷ v.instance ∷ []

-- the versions whose paths these are
of_agreed : (m n : List Parts) (p : Path) → Member p (map path_of (map (agreed m) n))
    → (v : Parts) × Member v n × (path_of (agreed m v) ≡ p)
of_agreed m [] p i = absurd i
of_agreed m (v ∷ n) p (inl e) = (v, inl refl, e)
of_agreed m (v ∷ n) p (inr i) = let rest = of_agreed m n p i in (rest.0, inr rest.1, rest.2)

-- ---- paths that rise have each once

none_above : (x : Path) (rows : List Path) → Above x rows → filter (is_path x) rows ≡ []
none_above x [] above = refl
none_above x (y ∷ rows) above = rw above.0 (none_above x rows above.1)

once_among : (x : Path) (rows : List Path) → Rises rows → Member x rows → length (filter (is_path x) rows) ≡ 1
once_among x [] up i = absurd i
once_among x (y ∷ rows) up (inl e) =
    subst (λ (z : Path). length (filter (is_path z) (y ∷ rows)) ≡ 1) e
    (rw (path_itself y) (ap (λ (l : List Path). suc (length l)) (none_above y rows up.0)))
once_among x (y ∷ rows) up (inr i) =
    let later = less_turned path_total y x (above_member (λ path. path) path_cmp y x rows up.0 i) in
    rw later (once_among x rows up.1 i)

-- ---- the tree

version_among : (m : List Parts) (v : Parts) → Member v m → Member (path_of v) (tree (harmonised m))
version_among m v i =
    let own = path_of (agreed m v) in
    let some : own ≢ [] = λ e. cc in
    let there = member-map path_of (agreed m v) (harmonised m) (member-map (agreed m) v m i) in
    let paths = map path_of (harmonised m) in
    subst (λ (p : Path). Member p (tree (harmonised m))) (agreed_path m v i)
    (member_of own (tree (harmonised m)) (((tree_is_tree paths).each own).1
    (some, (own, contained own paths there, leads_itself own))))

pub tree_once : (m : List Parts) → VisitsEachOnce m (tree (harmonised m))
tree_once m =
    let paths = map path_of (harmonised m) in
    let is = tree_is_tree paths in
    record {
      once = λ v c. once_among (path_of v) (tree (harmonised m)) is.rising (version_among m v (member_of v m c));
      others = λ x c.
          let led = ((is.each x).0 c).1 in
          let from = of_agreed m m led.0 (member_of led.0 paths led.1) in (
            from.0,
            contained from.0 m from.1,
            subst (λ (p : Path). leads_to x p ≡ true) (sym from.2 ∙ agreed_path m from.0 from.1) led.2,
          );
    }
