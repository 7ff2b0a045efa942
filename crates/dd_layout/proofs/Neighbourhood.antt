-- Each row of a tree is known from the rows before and after it.
use Rattle.std.specs.Prelude.{◌≡◌, ◌≢◌, ℕ, List, [], ◌∷◌, ◌++◌, Contains}
use Rattle.std.specs.List.{flat_map}
use Rattle.std.proofs.Common.{refl, sym, ◌∙◌, subst, inl, inr}
use Rattle.dd_catalogue.specs.Best.{SameMembers}
use Rattle.dd_catalogue.specs.BestLaws.{rising-best}
use Rattle.dd_catalogue.proofs.Members.{Member, member_of, contained}
use Rattle.dd_catalogue.proofs.BestMembers.{best_is_best, best_of_same}
use Rattle.dd_layout.specs.Neighbours.{IsKnown}
use Rattle.dd_layout.specs.Paths.{Path, prefixes}
use Rattle.dd_layout.specs.Tree.{in_order, tree_of}
use Rattle.dd_layout.specs.Walk.{paths_from}
use Rattle.dd_layout.proofs.Blocks.{AllTails, HasBlocks, walk_tails}
use Rattle.dd_layout.proofs.Counts.{Linked, walk_linked, along, from_none}
use Rattle.dd_layout.proofs.RowsByWalk.{Rises, Above, paths_ordered, empty_above, prefix_parts, row_prefix}
use Rattle.dd_layout.proofs.RowsByWalk.{rows_by_walk, rows_rise}
use Rattle.dd_layout.proofs.Splits.{HaveParts, parts_at, next_is, lower_is, offset_is}
use Rattle.dd_layout.proofs.Trees.{greatest, of_one, from_one}

-- ---- paths in order have the members and the tree of these

sorted_member : (paths : List Path) (p : Path) → Member p (in_order paths) → Member p paths
sorted_member paths p i = member_of p paths (((best_is_best paths_ordered paths).each p).0 (contained p
    (in_order paths) i)).member

member_sorted : (paths : List Path) (p : Path) → Member p paths → Member p (in_order paths)
member_sorted paths p i =
    member_of p (in_order paths) (((best_is_best paths_ordered paths).each p).1 (greatest paths p
    (contained p paths i)))

same_prefixes : (paths : List Path) → SameMembers (flat_map prefixes paths) (flat_map prefixes (in_order paths))
same_prefixes paths x = (
  (λ c. let there = of_one x paths (member_of x (flat_map prefixes paths) c) in
      contained x (flat_map prefixes (in_order paths)) (from_one x there.0 (in_order paths)
      (member_sorted paths there.0 there.1) there.2)),
  (λ c. let there = of_one x (in_order paths) (member_of x (flat_map prefixes (in_order paths)) c) in
      contained x (flat_map prefixes paths) (from_one x there.0 paths (sorted_member paths there.0 there.1) there.2)),
)

pub rises : (paths : List Path) → Rises (in_order paths)
rises paths = rising-best paths_ordered paths

pub tree_is_walk : (paths : List Path) → tree_of paths ≡ paths_from [] (in_order paths)
tree_is_walk paths =
    best_of_same paths_ordered (flat_map prefixes paths) (flat_map prefixes (in_order paths)) (same_prefixes paths)
    ∙ sym (rows_by_walk (in_order paths) (rises paths))

-- ---- paths with parts

with_item : (p : Path) → p ≢ [] → (part : List ℕ) × (path : Path) × (p ≡ part ∷ path)
with_item [] some = absurd (some refl)
with_item (part ∷ path) some = (part, path, refl)

pub above_root : (paths : List Path) → ((p : Path) → Contains paths p → p ≢ []) → Above [] (in_order paths)
above_root paths some =
    empty_above (in_order paths) (λ p i. with_item p (some p (contained p paths (sorted_member paths p i))))

rows_have_parts : (paths rows : List Path) → ((q : Path) → Member q rows → Member q (flat_map prefixes paths))
    → HaveParts rows
rows_have_parts paths [] h = tt
rows_have_parts paths (x ∷ rows) h =
    let there = of_one x paths (h x (inl refl)) in
    (prefix_parts there.0 x there.2, rows_have_parts paths rows (λ q i. h q (inr i)))

tails_at : (P : Path → List Path → Type 0) (front : List Path) (x : Path) (rest : List Path)
    → AllTails P (front ++ x ∷ rest) → P x rest
tails_at P [] x rest h = h.0
tails_at P (y ∷ front) x rest h = tails_at P front x rest h.1

-- ---- a row of the walk

walk_known : (paths front : List Path) (x : Path) (rest : List Path) → Above [] paths → Rises paths
    → paths_from [] paths ≡ front ++ x ∷ rest
    → IsKnown (front ++ x ∷ rest) front x rest
walk_known paths front x rest above up is =
    let rise : Rises (front ++ x ∷ rest) = subst Rises is (rows_rise [] paths up) in
    let parts : HaveParts (front ++ x ∷ rest) = subst HaveParts is (rows_have_parts paths (paths_from [] paths)
    (row_prefix [] paths)) in
    let tails : AllTails HasBlocks (front ++ x ∷ rest) = subst (AllTails HasBlocks) is (walk_tails [] paths above up) in
    let linked : Linked [] (front ++ x ∷ rest) = subst (Linked []) is (walk_linked [] paths above up) in
    let blocks = tails_at HasBlocks front x rest tails in
    let own = parts_at front x rest parts in
    record {
      at = λ first size. offset_is first size front x rest rise;
      ranks = sym (along (front ++ x ∷ rest) [] [] front x rest [] refl rise parts linked (from_none
          (front ++ x ∷ rest)));
      next = next_is front x rest rise blocks own.0 own.1 own.2;
      lower = lower_is front x rest rise parts blocks;
    }

pub rows_are_known : (paths : List Path) → ((p : Path) → Contains paths p → p ≢ [])
    → (front : List Path) (x : Path) (rest : List Path)
    → tree_of paths ≡ front ++ x ∷ rest → IsKnown (tree_of paths) front x rest
rows_are_known paths some front x rest is =
    subst (λ (t : List Path). IsKnown t front x rest) (sym is)
    (walk_known (in_order paths) front x rest (above_root paths some) (rises paths) (sym (tree_is_walk paths) ∙ is))
