-- Trees in a row, each with what is left of it.
use Rattle.std.proofs.Common.{◌≡◌, ◌∙◌, ℕ, Bool, true, false, List, [], ◌∷◌, ◌++◌, map, append-nil, refl, sym, ap, not, length, ◌==◌, arith, rules}
use Rattle.std.proofs.lemmas.Grind.{common_steps}
use Rattle.std.specs.Prelude.{if◌then◌else◌}
use Rattle.std.specs.List.{flat_map}
use Rattle.dd_records.specs.declared.level.Level.{Level}
use Rattle.dd_records.specs.declared.level.Level.TheVariants.{Patient, Study, Series, Image}
use Rattle.dd_walk.specs.declared.forest.Tree.{Tree, out-Tree, the_lemmas}
use Rattle.dd_walk.specs.ForestViews.{Branch, tree_view, trees_of, trees_view}
use Rattle.dd_walk.specs.Trees.{Node, Trees, no_trees, tree}
use Rattle.dd_selection.specs.Selection.{Values, selects_all, left_below, has_one_of, left_of}
use Rattle.dd_selection.specs.Cuts.{kept_branch, cut, cut_branch}
use Rattle.dd_selection.specs.SelectedRecords.{kept, stays}
use Rattle.dd_selection.proofs.LeftBelow.{no_values, none_either}

-- ---- one after the other

kept_by : (stay : Bool) (node : Node) (lower : Trees) (after : List Branch)
    → (if stay then tree node lower (trees_of after) else trees_of after)
    ≡ trees_of ((if stay then record { node = node; below = lower } ∷ [] else []) ++ after)
kept_by true node lower after = refl
kept_by false node lower after = refl

kept_is : (lies : Bool) (node : Node) (lower : Trees) (after : List Branch)
    → kept lies node lower (trees_of after) ≡ trees_of (kept_branch lies node lower ++ after)
kept_is lies node lower after = kept_by (stays lies lower) node lower after

pub cut_each : (values : Values) (branches : List Branch)
    → cut values (trees_of branches) ≡ trees_of (flat_map (cut_branch values) branches)
cut_each values [] = refl
cut_each values (branch ∷ branches) =
    let left = left_below values branch.node in
    ap (λ (x : Trees). kept (selects_all left) branch.node (cut left branch.below) x)
    (cut_each values branches)
    ∙ kept_is (selects_all left) branch.node (cut left branch.below) (flat_map (cut_branch values) branches)

-- ---- where nothing is asked for, all stays

abbrev nothing : Values
nothing = record { patients = []; studies = []; series = []; instances = [] }

nothing_by : (p s r i : List (List ℕ))
    → selects_all (record { patients = p; studies = s; series = r; instances = i }) ≡ true
    → nothing ≡ record { patients = p; studies = s; series = r; instances = i }
nothing_by [] [] [] [] is = refl
nothing_by (value ∷ p) s r i is = absurd (cc)
nothing_by [] (value ∷ s) r i is = absurd (cc)
nothing_by [] [] (value ∷ r) i is = absurd (cc)
nothing_by [] [] [] (value ∷ i) is = absurd (cc)

none_left : (level : Level) (node : Node) → left_of level [] node ≡ no_values
none_left level node = none_either (has_one_of level [] node)

nothing_below : (node : Node) → left_below nothing node ≡ nothing
nothing_below node =
    ap (λ (x : List (List ℕ)). record { patients = x; studies = left_of Study [] node; series = left_of Series [] node; instances = left_of Image [] node }) (none_left Patient node)
    ∙ ap (λ (x : List (List ℕ)). record { patients = []; studies = x; series = left_of Series [] node; instances = left_of Image [] node }) (none_left Study node)
    ∙ ap (λ (x : List (List ℕ)). record { patients = []; studies = []; series = x; instances = left_of Image [] node }) (none_left Series node)
    ∙ ap (λ (x : List (List ℕ)). record { patients = []; studies = []; series = []; instances = x }) (none_left Image node)

all_stays : (trees : Trees) → cut nothing trees ≡ trees
all_stays no_trees = refl
all_stays (tree node lower after) =
    ap (λ (x : Values). kept (selects_all x) node (cut x lower) (cut nothing after)) (nothing_below node)
    ∙ ap (λ (x : Trees). tree node x (cut nothing after)) (all_stays lower)
    ∙ ap (λ (x : Trees). tree node lower x) (all_stays after)

pub all_selected : (values : Values) (trees : Trees) → selects_all values ≡ true → trees ≡ cut values trees
all_selected values trees is =
    sym (all_stays trees)
    ∙ ap (λ (x : Values). cut x trees)
    (nothing_by values.patients values.studies values.series values.instances is)

-- ---- a record

some_by : (lies : Bool) (below : List Tree) → lies ≡ false
    → not (length below == 0) ≡ stays lies (trees_view below)
some_by true below is = absurd (cc)
some_by false [] is = refl
some_by false (t ∷ ts) is = grind (arith, common_steps)

-- whether a record stays that does not lie under all
pub some_below : (lies : Bool) (below : List Tree) (none : Bool) → none ≡ (length below == 0) → lies ≡ false
    → not none ≡ stays lies (trees_view below)
some_below lies below none none_is is = ap not none_is ∙ some_by lies below is

below_is : (t : Tree) → trees_view (out-Tree t).below.items ≡ (tree_view t).below
below_is t = search (rules, the_lemmas)

-- What is left of a record, where `found` is still asked for below it, and `below` is left of the records below it.
pub branch_cut : (values found : Values) (t : Tree) (below passed : List Tree) (stay : Bool)
    → found ≡ left_below values (tree_view t).node → trees_view below ≡ cut found (trees_view (out-Tree t).below.items)
    → passed ≡ below → stay ≡ stays (selects_all found) (trees_view passed)
    → (if stay then record { node = (tree_view t).node; below = trees_view below } ∷ [] else [])
    ≡ cut_branch values (tree_view t)
branch_cut values found t below passed stay is lower same stay_is =
    let node = (tree_view t).node in
    let lies = selects_all found in
    ap (λ (x : Bool). if x then record { node = node; below = trees_view below } ∷ [] else [])
    (stay_is ∙ ap (λ (ts : List Tree). stays lies (trees_view ts)) same)
    ∙ ap (kept_branch lies node) (lower ∙ ap (cut found) (below_is t))
    ∙ ap (λ (x : Values). kept_branch (selects_all x) node (cut x (tree_view t).below)) is

-- ---- the trees so far

pub all_cut : (values : Values) (kept trees : List Tree)
    → map tree_view kept ++ [] ≡ flat_map (cut_branch values) (map tree_view trees)
    → trees_view kept ≡ cut values (trees_view trees)
all_cut values kept trees is =
    ap trees_of (sym (append-nil (map tree_view kept)) ∙ is) ∙ sym (cut_each values (map tree_view trees))
