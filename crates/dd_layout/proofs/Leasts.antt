-- What each path of the tree of versions has: a level, and a version below it or at it.
use Rattle.std.specs.Prelude.{◌≡◌, ◌≢◌, ℕ, ◌+◌, ◌<◌, Bool, true, false, List, [], ◌∷◌, length, map, All, Contains}
use Rattle.std.specs.Prelude.{if◌then◌else◌, slice_index_or}
use Rattle.std.specs.List.{AllByRecursion}
use Rattle.std.specs.Ordering.{is_eq}
use Rattle.std.proofs.Common.{refl, sym, ◌∙◌, ap, subst, inl, inr, arith}
use Rattle.std.proofs.lemmas.List.{get_or-map, length-map}
use Rattle.std.proofs.lemmas.List.Elements.{All-map, Contains-get_or}
use Rattle.dd_elem.specs.Ordered.{bytes_cmp}
use Rattle.dd_catalogue.proofs.Members.{Member, member_of, contained}
use Rattle.dd_version.specs.declared.parts.Parts.{Parts}
use Rattle.dd_records.specs.declared.label.Label.{Label}
use Rattle.dd_records.specs.declared.record.PlanRecord.{PlanRecord}
use Rattle.dd_layout.specs.Layouts.{IsSound}
use Rattle.dd_layout.specs.Paths.{Path, leads_to}
use Rattle.dd_layout.specs.Plans.{path_of, tree, level_of, least_below, file_of, record_at, records_of}
use Rattle.dd_records.specs.Records.{IsFileOf}
use Rattle.dd_layout.specs.Stages.{numbered_at}
use Rattle.dd_layout.proofs.Blocks.{and_parts}
use Rattle.dd_layout.proofs.HasLevel.{HasLevel}
use Rattle.dd_layout.proofs.Trees.{tree_is_tree}

-- ---- the versions below a path

version_of : (versions : List Parts) (p : Path) → Member p (map path_of versions) → (v : Parts) × (p ≡ path_of v)
version_of [] p i = absurd i
version_of (v ∷ versions) p (inl e) = (v, sym e)
version_of (v ∷ versions) p (inr i) = version_of versions p i

-- what leads to a path of one of the versions
led : (versions : List Parts) (x : Path) → Contains (tree versions) x
    → (x ≢ []) × ((p : Path) × Contains (map path_of versions) p × (leads_to x p ≡ true))
led versions x c = ((tree_is_tree (map path_of versions)).each x).0 c

least_led : (versions : List Parts) (x p : Path) → Member p (map path_of versions) → leads_to x p ≡ true
    → least_below versions x < length versions
least_led [] x p i is = absurd i
least_led (v ∷ versions) x p (inl e) is =
    let here : leads_to x (path_of v) ≡ true = ap (leads_to x) e ∙ is in rw here (omega arith)
least_led (v ∷ versions) x p (inr i) is = go (leads_to x (path_of v)) (least_led versions x p i is) where
  go : (b : Bool) → least_below versions x < length versions
      → (if b then 0 else 1 + least_below versions x) < length (v ∷ versions)
  go true h = omega arith
  go false h = omega arith

-- the least one is one of them
pub least_in : (versions : List Parts) (x : Path) → Contains (tree versions) x
    → least_below versions x < length versions
least_in versions x c =
    let l = led versions x c in least_led versions x l.1.0 (member_of l.1.0 (map path_of versions) l.1.1) l.1.2

-- ---- the level of a path

four_parts : (x : Path) (v : Parts) → x ≢ [] → leads_to x (path_of v) ≡ true → HasLevel x
four_parts [] v some is = some refl
four_parts (a ∷ []) v some is = tt
four_parts (a ∷ b ∷ []) v some is = tt
four_parts (a ∷ b ∷ c ∷ []) v some is = tt
four_parts (a ∷ b ∷ c ∷ d ∷ []) v some is = tt
four_parts (a ∷ b ∷ c ∷ d ∷ e ∷ x) v some is =
    let one = and_parts (is_eq (bytes_cmp a v.patient.id)) (leads_to (b ∷ c ∷ d ∷ e ∷ x)
    (v.study.uid ∷ v.series.uid ∷ v.instance ∷ [])) is in
    let two = and_parts (is_eq (bytes_cmp b v.study.uid)) (leads_to (c ∷ d ∷ e ∷ x)
    (v.series.uid ∷ v.instance ∷ [])) one.1 in
    let three = and_parts (is_eq (bytes_cmp c v.series.uid)) (leads_to (d ∷ e ∷ x) (v.instance ∷ [])) two.1 in
    let four = and_parts (is_eq (bytes_cmp d v.instance)) false three.1 in
    let no : false ≡ true = four.1 in
    cc no

pub has_level : (versions : List Parts) (x : Path) → Contains (tree versions) x → HasLevel x
has_level versions x c =
    let l = led versions x c in
    let v = version_of versions l.1.0 (member_of l.1.0 (map path_of versions) l.1.1) in
    four_parts x v.0 l.0 (ap (leads_to x) (sym v.1) ∙ l.1.2)

have_levels : (versions : List Parts) (rows : List Path) → ((x : Path) → Member x rows → Contains (tree versions) x)
    → AllByRecursion HasLevel rows
have_levels versions [] h = tt
have_levels versions (x ∷ rows) h =
    (has_level versions x (h x (inl refl)), have_levels versions rows (λ y i. h y (inr i)))

pub all_have_levels : (versions : List Parts) → AllByRecursion HasLevel (tree versions)
all_have_levels versions = have_levels versions (tree versions) (λ x i. contained x (tree versions) i)

-- the path of a version has parts
pub paths_have_parts : (versions : List Parts) (p : Path) → Contains (map path_of versions) p → p ≢ []
paths_have_parts versions p c none =
    let v = version_of versions p (member_of p (map path_of versions) c) in
    let is : path_of v.0 ≡ [] = sym v.1 ∙ none in
    cc is

-- ---- the records

-- each is of one of the versions
pub least_of_each : (versions : List Parts)
    → All (λ (row : PlanRecord). row.of < length versions) (map (numbered_at versions) (tree versions))
least_of_each versions =
    All-map (λ (row : PlanRecord). row.of < length versions) (numbered_at versions) (tree versions)
    (λ k d h. least_in versions (slice_index_or (tree versions) k d) (Contains-get_or (tree versions) k d h))

file_at : (versions : List Parts)
    → All (λ row. IsFileOf row.level row.file) (map (numbered_at versions) (tree versions))
    → (k : ℕ) (d : Path) → k < length (tree versions)
    → IsFileOf (level_of (slice_index_or (tree versions) k d)) (file_of (tree versions)
    (slice_index_or (tree versions) k d))
file_at versions files k d h =
    let long = length-map (tree versions) (numbered_at versions) in
    subst (λ (row : PlanRecord). IsFileOf row.level row.file)
    (get_or-map (numbered_at versions) (tree versions) k d (numbered_at versions d) h)
    (files k (numbered_at versions d) (omega arith))

-- with its File ID, and of one of the versions
pub sound : (label : Label) (versions : List Parts)
    → All (λ row. IsFileOf row.level row.file) (map (numbered_at versions) (tree versions))
    → All (IsSound (length versions)) (records_of label versions)
sound label versions files =
    All-map (IsSound (length versions)) (record_at label versions) (tree versions)
    (λ k d h. (
      least_in versions (slice_index_or (tree versions) k d) (Contains-get_or (tree versions) k d h),
      file_at versions files k d h,
    ))
