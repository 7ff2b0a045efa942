-- The lines of trees, and how many records they have.
use Rattle.std.proofs.Common.{◌≡◌, ◌∙◌, ℕ, List, [], ◌∷◌, ◌++◌, ◌+◌, ◌<◌, Result, length, take, get_or}
use Rattle.std.proofs.Common.{refl, sym, ap, subst, arith, rules, length-append}
use Rattle.std.specs.Prelude.{IsErr}
use Rattle.std.specs.List.{flat_map}
use Rattle.dd_elem.specs.Device.{counted}
use Rattle.dd_walk.specs.declared.forest.Tree.{Tree, out-Tree, the_lemmas}
use Rattle.dd_walk.specs.declared.forest.Forest.{Forest}
use Rattle.dd_walk.specs.ForestViews.{tree_view, trees_view, walk_view}
use Rattle.dd_walk.specs.Trees.{Walk, offsets}
use Rattle.dd_walk.specs.WithdrawnPieces.{withdrawn_of}
use Rattle.dd_report.specs.declared.known.Form.{Form}
use Rattle.dd_report.specs.declared.known.Form.TheVariants.{Long}
use Rattle.dd_report.specs.Listing.{branch_lines, end_lines, lines_in, lines_of, long_listing, record_line, set_line}
use Rattle.dd_report.specs.Listing.{totals_line, withdrawn_lines}
use Rattle.dd_json.specs.declared.value.Style.{Style}
use Rattle.dd_lines.specs.Telling.{Fails, GoesOn, Tells, Way}
use Rattle.dd_lines.proofs.GoingOn.{fails_front, one_more, tells_err, tells_then}

-- ---- lines

abbrev pub tree_lines : Style → Form → ℕ → Tree → List ℕ
tree_lines style form level t = branch_lines style form level (tree_view t)

pub lines_each : (style : Style) (form : Form) (level : ℕ) (trees : List Tree)
    → lines_of style form level (trees_view trees) ≡ flat_map (tree_lines style form level) trees
lines_each style form level [] = refl
lines_each style form level (t ∷ trees) =
    ap (λ (xs : List ℕ). tree_lines style form level t ++ xs) (lines_each style form level trees)

pub below_is : (t : Tree) → (tree_view t).below ≡ trees_view (out-Tree t).below.items
below_is t = search (rules, the_lemmas)

-- the line of a record, and then the lines of the records below it
pub branch_goes : {T E : Type 0} (r : Result T E) (style : Style) (form : Form) (level deeper : ℕ) (t : Tree)
    (trees : List Tree)
    (a b c : Way) → deeper ≡ counted level → trees ≡ (out-Tree t).below.items
    → GoesOn (record_line style form level (tree_view t).node) a b
    → Tells r (lines_of style form deeper (trees_view trees)) b c
    → Tells r (branch_lines style form level (tree_view t)) a c
branch_goes r style form level deeper t trees a b c deep is first rest =
    let same : lines_of style form deeper (trees_view trees) ≡ lines_of style form (counted level) (tree_view t).below =
    ap (λ (k : ℕ). lines_of style form k (trees_view trees)) deep
    ∙ ap (λ (ts : List Tree). lines_of style form (counted level) (trees_view ts)) is
    ∙ ap (lines_of style form (counted level)) (sym (below_is t)) in
    tells_then r (record_line style form level (tree_view t).node)
    (lines_of style form (counted level) (tree_view t).below) a b c
    first (subst (λ (text : List ℕ). Tells r text b c) same rest)

pub branch_fails : {T E : Type 0} (r : Result T E) (style : Style) (form : Form) (level : ℕ) (t : Tree) (a b : Way)
    → IsErr r
    → Fails (record_line style form level (tree_view t).node) a b
    → Tells r (branch_lines style form level (tree_view t)) a b
branch_fails r style form level t a b err failed =
    let first = record_line style form level (tree_view t).node in
    let below = lines_of style form (counted level) (tree_view t).below in
    tells_err r (first ++ below) a b err (fails_front first below a b failed)

-- ---- a directory

-- the lines of the records, and then the last lines
pub all_listed : {T E : Type 0} (r : Result T E) (style : Style) (form : Form) (forest : Forest) (trees : List Tree)
    (a b c : Way)
    → trees ≡ forest.trees.items → GoesOn (lines_of style form 0 (trees_view trees)) a b
    → Tells r (end_lines style (walk_view forest)) b c → Tells r (lines_in style form (walk_view forest)) a c
all_listed r style form forest trees a b c is records last =
    tells_then r (lines_of style form 0 (trees_view forest.trees.items)) (end_lines style (walk_view forest)) a b c
    (subst (λ (ts : List Tree). GoesOn (lines_of style form 0 (trees_view ts)) a b) is records) last

-- the lines of what is withdrawn, and then the last line
pub end_listed : {T E : Type 0} (r : Result T E) (style : Style) (walk : Walk) (a b c : Way)
    → GoesOn (withdrawn_lines style (withdrawn_of walk)) a b → Tells r (totals_line style walk) b c
    → Tells r (end_lines style walk) a c
end_listed r style walk a b c withdrawn totals =
    tells_then r (withdrawn_lines style (withdrawn_of walk)) (totals_line style walk) a b c withdrawn totals

pub withdrawn_fails : {T E : Type 0} (r : Result T E) (style : Style) (walk : Walk) (a b : Way) → IsErr r
    → Fails (withdrawn_lines style (withdrawn_of walk)) a b → Tells r (end_lines style walk) a b
withdrawn_fails r style walk a b err failed =
    tells_err r (end_lines style walk) a b err
    (fails_front (withdrawn_lines style (withdrawn_of walk)) (totals_line style walk) a b failed)

-- the writer failed in the lines of the records
pub records_fail : {T E : Type 0} (r : Result T E) (style : Style) (form : Form) (forest : Forest) (trees : List Tree)
    (a b : Way)
    → IsErr r → trees ≡ forest.trees.items → Fails (lines_of style form 0 (trees_view trees)) a b
    → Tells r (lines_in style form (walk_view forest)) a b
records_fail r style form forest trees a b err is failed =
    tells_err r (lines_in style form (walk_view forest)) a b err
    (fails_front (lines_of style form 0 (trees_view forest.trees.items)) (end_lines style (walk_view forest)) a b
    (subst (λ (ts : List Tree). Fails (lines_of style form 0 (trees_view ts)) a b) is failed))

-- ---- what names the file-set

pub names_fail : {T E : Type 0} (r : Result T E) (style : Style) (walk : Walk) (a b : Way) → IsErr r
    → Fails (set_line style walk) a b → Tells r (long_listing style walk) a b
names_fail r style walk a b err failed =
    tells_err r (long_listing style walk) a b err
    (fails_front (set_line style walk) (lines_in style Long walk) a b failed)

-- ---- counts

abbrev places_of : Tree → List ℕ
places_of t = (tree_view t).node.at ∷ offsets (tree_view t).below

places_each : (trees : List Tree) → offsets (trees_view trees) ≡ flat_map places_of trees
places_each [] = refl
places_each (t ∷ trees) = ap (λ (xs : List ℕ). places_of t ++ xs) (places_each trees)

pub one_tree_more : (trees : List Tree) (i : ℕ) (t : Tree) → i < length trees → t ≡ get_or trees i t
    → length (offsets (trees_view (take (i + 1) trees)))
    ≡ length (offsets (trees_view (take i trees))) + (length (offsets (tree_view t).below) + 1)
one_tree_more trees i t within is =
    let more : offsets (trees_view (take (i + 1) trees)) ≡ offsets (trees_view (take i trees)) ++ places_of t =
    places_each (take (i + 1) trees) ∙ one_more places_of trees i t within
    ∙ ap (λ (xs : List ℕ). xs ++ places_of (get_or trees i t)) (sym (places_each (take i trees)))
    ∙ ap (λ (x : Tree). offsets (trees_view (take i trees)) ++ places_of x) (sym is) in
    let sizes = length-append (offsets (trees_view (take i trees))) (places_of t) in
    let both : length (offsets (trees_view (take (i + 1) trees)))
    ≡ length (offsets (trees_view (take i trees))) + length (places_of t) =
    ap (λ (xs : List ℕ). length xs) more ∙ sizes in
    let one : length (places_of t) ≡ length (offsets (tree_view t).below) + 1 = omega arith in
    omega (arith, both, one)
