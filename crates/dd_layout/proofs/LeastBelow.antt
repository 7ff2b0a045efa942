-- The least place below a path among versions in any order is the place of the first version below it.
use Rattle.std.specs.Prelude.{◌≡◌, ◌⊎◌, ◌+◌, ◌<◌, ◌≤◌, ℕ, suc, true, List, [], ◌∷◌, length, map}
use Rattle.std.specs.Prelude.{nat_lt}
use Rattle.std.specs.List.{flat_map}
use Rattle.std.specs.List.Sorted.{IsPermutation}
use Rattle.std.proofs.Common.{refl, sym, ◌∙◌, ap, subst, inl, inr, arith}
use Rattle.std.proofs.lemmas.Bool.{ltb-true, ltb-false}
use Rattle.std.proofs.lemmas.List.Sorted.{Contains-permutation, IsPermutation-sym}
use Rattle.dd_catalogue.proofs.Members.{Member, member_of, contained}
use Rattle.dd_catalogue.proofs.BestMembers.{best_of_same}
use Rattle.dd_catalogue.specs.Rising.{by_test}
use Rattle.dd_version.specs.declared.parts.Parts.{Parts}
use Rattle.dd_layout.specs.Paths.{Path, prefixes, leads_to}
use Rattle.dd_layout.specs.Plans.{path_of, least_below, tree}
use Rattle.dd_layout.specs.Stages.{bare, bare_at}
use Rattle.dd_layout.specs.Tree.{tree_of}
use Rattle.dd_layout.specs.Walk.{paths_from}
use Rattle.dd_layout.specs.WalkedRecords.{Standing, standings, AreInOrder, lesser, records_from}
use Rattle.dd_layout.proofs.RowsByWalk.{paths_ordered, row_prefix}
use Rattle.dd_layout.proofs.Blocks.{prefix_leads}
use Rattle.dd_layout.proofs.Trees.{of_one, from_one}
use Rattle.dd_layout.proofs.Walked.{paths, least_all, least_of, record_of, tree_in_order, walk_is_all, same_map}

-- one of these places is below the path
abbrev IsBelow : Path → ℕ → List Standing → Type 0
IsBelow x n run = (s : Standing) × Member s run × (leads_to x s.1 ≡ true) × (s.0 ≡ n)

-- and none that is below it is less
abbrev IsLower : Path → ℕ → List Standing → Type 0
IsLower x n run = (s : Standing) → Member s run → leads_to x s.1 ≡ true → n ≤ s.0

abbrev HasOne : Path → List Standing → Type 0
HasOne x run = (s : Standing) × Member s run × (leads_to x s.1 ≡ true)

-- ---- the lesser of two places

lesser_first : (n least : ℕ) → lesser n least ≤ n
lesser_first n least = by_test (nat_lt n least)
    (λ e. rw e (omega arith))
    (λ e. let not = ltb-false n least e in rw e (omega arith))

lesser_second : (n least : ℕ) → lesser n least ≤ least
lesser_second n least = by_test (nat_lt n least)
    (λ e. let is = ltb-true n least e in rw e (omega arith))
    (λ e. rw e (omega arith))

lesser_is : (n least : ℕ) → (lesser n least ≡ n) ⊎ (lesser n least ≡ least)
lesser_is n least = by_test (nat_lt n least) (λ e. inl (rw e refl)) (λ e. inr (rw e refl))

-- ---- the least among all

all_most : (x : Path) (least : ℕ) (run : List Standing) → least_all x least run ≤ least
all_most x least [] = omega arith
all_most x least (s ∷ run) = by_test (leads_to x s.1)
    (λ e. rw e (let rest = all_most x (lesser s.0 least) run in let first = lesser_second s.0 least in omega arith))
    (λ e. rw e (all_most x least run))

all_lower : (x : Path) (least : ℕ) (run : List Standing) → IsLower x (least_all x least run) run
all_lower x least [] r i h = absurd i
all_lower x least (s ∷ run) r (inl e) h =
    let here : leads_to x s.1 ≡ true = subst (λ (z : Standing). leads_to x z.1 ≡ true) (sym e) h in
    let same : s.0 ≡ r.0 = ap (λ (z : Standing). z.0) e in
    let rest = all_most x (lesser s.0 least) run in
    let first = lesser_first s.0 least in
    rw here (omega arith)
all_lower x least (s ∷ run) r (inr i) h = by_test (leads_to x s.1)
    (λ e. rw e (all_lower x (lesser s.0 least) run r i h))
    (λ e. rw e (all_lower x least run r i h))

all_below : (x : Path) (least : ℕ) (run : List Standing)
    → (least_all x least run ≡ least) ⊎ IsBelow x (least_all x least run) run
all_below x least [] = inl refl
all_below x least (s ∷ run) = by_test (leads_to x s.1)
    (λ e. rw e (elim (all_below x (lesser s.0 least) run) [
      | inl same ↦ elim (lesser_is s.0 least) [
        | inl is ↦ inr (s, inl refl, e, sym (same ∙ is))
        | inr is ↦ inl (same ∙ is)
      ]
      | inr there ↦ inr (there.0, inr there.1, there.2, there.3)
    ]))
    (λ e. rw e (elim (all_below x least run) [
      | inl same ↦ inl same
      | inr there ↦ inr (there.0, inr there.1, there.2, there.3)
    ]))

of_lower : (x : Path) (run : List Standing) → IsLower x (least_of x run) run
of_lower x [] r i h = absurd i
of_lower x (s ∷ run) r (inl e) h =
    let here : leads_to x s.1 ≡ true = subst (λ (z : Standing). leads_to x z.1 ≡ true) (sym e) h in
    let same : s.0 ≡ r.0 = ap (λ (z : Standing). z.0) e in
    let rest = all_most x s.0 run in
    rw here (omega arith)
of_lower x (s ∷ run) r (inr i) h = by_test (leads_to x s.1)
    (λ e. rw e (all_lower x s.0 run r i h))
    (λ e. rw e (of_lower x run r i h))

of_below : (x : Path) (run : List Standing) → HasOne x run → IsBelow x (least_of x run) run
of_below x [] one = absurd one.1
of_below x (s ∷ run) (r, inl e, h) =
    let here : leads_to x s.1 ≡ true = subst (λ (z : Standing). leads_to x z.1 ≡ true) (sym e) h in
    rw here (elim (all_below x s.0 run) [
      | inl same ↦ (s, inl refl, here, sym same)
      | inr there ↦ (there.0, inr there.1, there.2, there.3)
    ])
of_below x (s ∷ run) (r, inr i, h) = by_test (leads_to x s.1)
    (λ e. rw e (elim (all_below x s.0 run) [
      | inl same ↦ (s, inl refl, e, sym same)
      | inr there ↦ (there.0, inr there.1, there.2, there.3)
    ]))
    (λ e. rw e (let there = of_below x run (r, i, h) in (there.0, inr there.1, there.2, there.3)))

-- ---- the first of the versions

first_lower : (x : Path) (place : ℕ) (versions : List Parts)
    → IsLower x (place + least_below versions x) (standings place versions)
first_lower x place [] r i h = absurd i
first_lower x place (v ∷ versions) r (inl e) h =
    let here : leads_to x (path_of v) ≡ true = subst (λ (z : Standing). leads_to x z.1 ≡ true) (sym e) h in
    let same : place ≡ r.0 = ap (λ (z : Standing). z.0) e in
    rw here (omega arith)
first_lower x place (v ∷ versions) r (inr i) h =
    let rest = first_lower x (suc place) versions r i h in
    by_test (leads_to x (path_of v))
    (λ e. rw e (omega arith))
    (λ e. rw e (omega arith))

first_below : (x : Path) (place : ℕ) (versions : List Parts) → HasOne x (standings place versions)
    → IsBelow x (place + least_below versions x) (standings place versions)
first_below x place [] one = absurd one.1
first_below x place (v ∷ versions) (r, inl e, h) =
    let here : leads_to x (path_of v) ≡ true = subst (λ (z : Standing). leads_to x z.1 ≡ true) (sym e) h in
    rw here ((place, path_of v), inl refl, here, omega arith)
first_below x place (v ∷ versions) (r, inr i, h) = by_test (leads_to x (path_of v))
    (λ e. rw e ((place, path_of v), inl refl, e, omega arith))
    (λ e. let there = first_below x (suc place) versions (r, i, h) in
    let is = there.3 in
    rw e (there.0, inr there.1, there.2, omega arith))

-- a path of the tree has a version below it
led_within : (x : Path) (versions : List Parts) (p : Path) → Member p (map path_of versions) → leads_to x p ≡ true
    → least_below versions x < length versions
led_within x [] p i h = absurd i
led_within x (v ∷ versions) p (inl e) h =
    let here : leads_to x (path_of v) ≡ true = subst (λ (z : Path). leads_to x z ≡ true) (sym e) h in
    rw here (omega arith)
led_within x (v ∷ versions) p (inr i) h =
    let rest = led_within x versions p i h in
    by_test (leads_to x (path_of v)) (λ e. rw e (omega arith)) (λ e. rw e (omega arith))

-- ---- there is one least place

one_least : (x : Path) (n k : ℕ) (run other : List Standing) → ((s : Standing) → Member s run → Member s other)
    → ((s : Standing) → Member s other → Member s run)
    → IsBelow x n run → IsLower x n run → IsBelow x k other → IsLower x k other → n ≡ k
one_least x n k run other to from below lower below' lower' =
    let up = lower below'.0 (from below'.0 below'.1) below'.2 in
    let down = lower' below.0 (to below.0 below.1) below.2 in
    let here = below.3 in
    let there = below'.3 in
    omega arith

-- ---- versions in order have the members of the versions, and so their tree

module _ (versions : List Parts) (run : List Standing) (same : IsPermutation (standings 0 versions) run) where
  to : (s : Standing) → Member s run → Member s (standings 0 versions)
  to s i = member_of s (standings 0 versions)
      (Contains-permutation run (standings 0 versions) s (IsPermutation-sym (standings 0 versions) run same)
      (contained s run i))

  from : (s : Standing) → Member s (standings 0 versions) → Member s run
  from s i = member_of s run
      (Contains-permutation (standings 0 versions) run s same (contained s (standings 0 versions) i))

  least_is : (x : Path) → HasOne x run → least_of x run ≡ least_below versions x
  least_is x one =
      let there : HasOne x (standings 0 versions) = (one.0, to one.0 one.1, one.2) in
      let first = first_below x 0 versions there in
      let is = one_least x (least_of x run) (0 + least_below versions x) run (standings 0 versions) to from
      (of_below x run one) (of_lower x run) first (first_lower x 0 versions) in
      omega (arith, is)

path_member : (s : Standing) (run : List Standing) → Member s run → Member s.1 (paths run)
path_member s [] i = absurd i
path_member s (r ∷ run) (inl e) = inl (ap (λ (z : Standing). z.1) e)
path_member s (r ∷ run) (inr i) = inr (path_member s run i)

member_path : (p : Path) (run : List Standing) → Member p (paths run) → (s : Standing) × Member s run × (s.1 ≡ p)
member_path p [] i = absurd i
member_path p (r ∷ run) (inl e) = (r, inl refl, e)
member_path p (r ∷ run) (inr i) = let there = member_path p run i in (there.0, inr there.1, there.2)

paths_of : (place : ℕ) (versions : List Parts) → paths (standings place versions) ≡ map path_of versions
paths_of place [] = refl
paths_of place (v ∷ versions) = ap (λ m. path_of v ∷ m) (paths_of (suc place) versions)

moved : (run other : List Standing) (x : Path) → ((s : Standing) → Member s run → Member s other)
    → Member x (flat_map prefixes (paths run)) → Member x (flat_map prefixes (paths other))
moved run other x to i =
    let one = of_one x (paths run) i in
    let there = member_path one.0 run one.1 in
    from_one x one.0 (paths other)
    (subst (λ (z : Path). Member z (paths other)) there.2 (path_member there.0 other (to there.0 there.1))) one.2

same_tree : (versions : List Parts) (run : List Standing) → IsPermutation (standings 0 versions) run
    → tree_of (paths run) ≡ tree versions
same_tree versions run same =
    let all = standings 0 versions in
    best_of_same paths_ordered (flat_map prefixes (paths run)) (flat_map prefixes (paths all)) (λ x. (
      (λ c. contained x (flat_map prefixes (paths all))
          (moved run all x (to versions run same) (member_of x (flat_map prefixes (paths run)) c))),
      (λ c. contained x (flat_map prefixes (paths run))
          (moved all run x (from versions run same) (member_of x (flat_map prefixes (paths all)) c))),
    ))
    ∙ ap (λ m. tree_of m) (paths_of 0 versions)

-- ---- the walk gives the records of the tree

has_one : (x : Path) (run : List Standing) → Member x (paths_from [] (paths run)) → HasOne x run
has_one x run i =
    let one = of_one x (paths run) (row_prefix [] (paths run) x i) in
    let there = member_path one.0 run one.1 in
    (there.0, there.1, subst (λ (z : Path). leads_to x z ≡ true) (sym there.2) (prefix_leads one.0 x one.2))

pub walk_is_tree : (versions : List Parts) (run : List Standing) → IsPermutation (standings 0 versions) run
    → AreInOrder run → records_from [] run ≡ map (bare_at versions) (tree versions)
walk_is_tree versions run same up =
    walk_is_all [] run up
    ∙ same_map (record_of run) (bare_at versions) (paths_from [] (paths run))
    (λ x i. ap (bare x) (least_is versions run same x (has_one x run i)))
    ∙ ap (λ m. map (bare_at versions) m) (tree_in_order run up ∙ same_tree versions run same)
