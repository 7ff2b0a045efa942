-- Where images are listed and no record fails, one is listed before any record fails.
use Rattle.std.proofs.Common.{◌≡◌, ◌≢◌, ◌⊎◌, List, [], ◌∷◌, ◌++◌, map, Ok, refl, sym, ◌∙◌, ap, inl, inr}
use Rattle.dd_dir.specs.declared.listed_images.Listed.{Listed as ListedValue}
use Rattle.dd_dir.specs.Own.{Above, Listed, ListsFirst, below, fault_at, level_in, listed_at, listed_in, listed_with}
use Rattle.dd_dir.specs.Own.{own, root, unless}
use Rattle.dd_dir.specs.OwnViews.{listed_view}
use Rattle.dd_walk.specs.Trees.{Trees, Walk, no_trees, tree}
use Rattle.dd_dir.proofs.CheckedRecords.{are_followed, no_fault, nothing_listed}

none_or_some : (images : List Listed) → (images ≡ []) ⊎ (images ≢ [])
none_or_some [] = inl refl
none_or_some (image ∷ images) = inr (λ e. cc)

-- of two lists that make one with images, the second has some where the first has none
second_some : (first second all : List Listed) → first ++ second ≡ all → all ≢ [] → first ≡ [] → second ≢ []
second_some first second all both some none =
    λ e. some (sym both ∙ ap (λ (xs : List Listed). xs ++ second) none ∙ e)

pub lists_first : (above : Above) (trees : Trees) (images : List Listed) → listed_in above trees ≡ Ok images
    → images ≢ [] → ListsFirst above trees
lists_first above no_trees images e some = absurd (some (sym (nothing_listed images e)))
lists_first above (tree node lower after) images e some =
    let under = listed_in (below above node.set) lower in
    let all = are_followed (listed_with above node under) (listed_in above after) images e in
    let here = are_followed (unless (fault_at (level_in above) node) (listed_at above node.set)) under all.first
    all.is_first in
    let own = no_fault (fault_at (level_in above) node) (listed_at above node.set) here.first here.is_first in
    elim (none_or_some all.first) [
      | inl none ↦ inr (
        all.first,
        all.is_first,
        lists_first above after all.then_come all.is_then
            (second_some all.first all.then_come images all.both some none),
      )
      | inr any ↦ inl (
        own.0,
        elim (none_or_some here.first) [
          | inl none ↦ inr (lists_first (below above node.set) lower here.then_come here.is_then
              (second_some here.first here.then_come all.first here.both any none))
          | inr first ↦ inl (λ e. first (sym own.1 ∙ e))
        ],
      )
    ]

none_seen : (items : List ListedValue) → map listed_view items ≡ [] → items ≡ []
none_seen [] e = refl
none_seen (item ∷ items) e = cc

-- so it is where the images of a walk are these
pub walk_lists : (walk : Walk) (images : List Listed) (items : List ListedValue) → own walk ≡ Ok images
    → map listed_view items ≡ images → items ≢ [] → ListsFirst root walk.trees
walk_lists walk images items is same some =
    lists_first root walk.trees images is (λ e. some (none_seen items (same ∙ e)))
