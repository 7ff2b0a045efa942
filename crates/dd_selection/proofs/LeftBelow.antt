-- What is still asked for below records says under which kinds they lie.
use Rattle.std.proofs.Common.{◌≡◌, ◌∙◌, ℕ, Bool, true, false, ◌||◌, ◌&&◌, List, [], ◌∷◌, refl, sym, ap}
use Rattle.std.specs.Prelude.{if◌then◌else◌}
use Rattle.std.specs.List.{list_any}
use Rattle.dd_records.specs.declared.level.Level.{Level}
use Rattle.dd_records.specs.declared.level.Level.TheVariants.{Patient, Study, Series, Image}
use Rattle.dd_walk.specs.Trees.{Node, Trees, no_trees, tree}
use Rattle.dd_selection.specs.Selection.{Values, selects_all, left_below, has_none, has_one_of, left_of}
use Rattle.dd_selection.specs.Cuts.{cut}
use Rattle.dd_selection.specs.SelectedRecords.{kept, lies_under, lies_under_all, selected, selected_below}

-- values of the four kinds
abbrev of : List (List ℕ) → List (List ℕ) → List (List ℕ) → List (List ℕ) → Values
of patients studies series instances =
    record { patients = patients; studies = studies; series = series; instances = instances }

of_same : (p q s t i j k l : List (List ℕ)) → p ≡ q → s ≡ t → i ≡ j → k ≡ l → of p s i k ≡ of q t j l
of_same p q s t i j k l one two three four =
    ap (λ (x : List (List ℕ)). of x s i k) one ∙ ap (λ (x : List (List ℕ)). of q x i k) two
    ∙ ap (λ (x : List (List ℕ)). of q t x k) three ∙ ap (λ (x : List (List ℕ)). of q t j x) four

-- ---- below some records

-- nothing of a kind is asked for below these records where one of them has a value
abbrev left_under : Level → List (List ℕ) → List Node → List (List ℕ)
left_under level values records = if list_any (has_one_of level values) records then [] else values

abbrev below_all : Values → List Node → Values
below_all values records = of (left_under Patient values.patients records) (left_under Study values.studies records)
    (left_under Series values.series records) (left_under Image values.instances records)

-- no values
abbrev pub no_values : List (List ℕ)
no_values = []

pub none_either : (test : Bool) → (if test then [] else []) ≡ no_values
none_either true = refl
none_either false = refl

left_by : (level : Level) (values : List (List ℕ)) (node : Node) (here above : Bool)
    → here ≡ has_one_of level values node
    → left_of level (if above then [] else values) node ≡ (if here || above then [] else values)
left_by level values node true true is = none_either (has_one_of level [] node)
left_by level values node false true is = none_either (has_one_of level [] node)
left_by level values node true false is = ap (λ (x : Bool). if x then [] else values) (sym is)
left_by level values node false false is = ap (λ (x : Bool). if x then [] else values) (sym is)

left_more : (level : Level) (values : List (List ℕ)) (node : Node) (above : List Node)
    → left_of level (left_under level values above) node ≡ left_under level values (node ∷ above)
left_more level values node above =
    left_by level values node (has_one_of level values node) (list_any (has_one_of level values) above) refl

below_more : (values : Values) (node : Node) (above : List Node)
    → left_below (below_all values above) node ≡ below_all values (node ∷ above)
below_more values node above =
    of_same _ _ _ _ _ _ _ _ (left_more Patient values.patients node above)
    (left_more Study values.studies node above) (left_more Series values.series node above)
    (left_more Image values.instances node above)

-- ---- a record lies under a kind where nothing of it is asked for any more

lies_by : (value : List ℕ) (values : List (List ℕ)) (test : Bool)
    → test ≡ has_none (if test then [] else value ∷ values)
lies_by value values true = refl
lies_by value values false = refl

none_by : (test : Bool) → true ≡ has_none (if test then [] else [])
none_by true = refl
none_by false = refl

lies_is : (level : Level) (values : List (List ℕ)) (records : List Node)
    → lies_under level values records ≡ has_none (left_under level values records)
lies_is level [] records = none_by (list_any (has_one_of level []) records)
lies_is level (value ∷ values) records = lies_by value values (list_any (has_one_of level (value ∷ values)) records)

all_same : (a b c d e f g h : Bool) → a ≡ b → c ≡ d → e ≡ f → g ≡ h
    → (a && (c && (e && g))) ≡ (b && (d && (f && h)))
all_same a b c d e f g h one two three four =
    ap (λ (x : Bool). x && (c && (e && g))) one ∙ ap (λ (x : Bool). b && (x && (e && g))) two
    ∙ ap (λ (x : Bool). b && (d && (x && g))) three ∙ ap (λ (x : Bool). b && (d && (f && x))) four

lies_all_is : (values : Values) (records : List Node)
    → lies_under_all values records ≡ selects_all (below_all values records)
lies_all_is values records =
    all_same _ _ _ _ _ _ _ _ (lies_is Patient values.patients records) (lies_is Study values.studies records)
    (lies_is Series values.series records) (lies_is Image values.instances records)

-- ---- both ways leave the same trees

selected_is : (values : Values) (above : List Node) (trees : Trees)
    → selected_below values above trees ≡ cut (below_all values above) trees
selected_is values above no_trees = refl
selected_is values above (tree node lower after) =
    let here = node ∷ above in
    ap (λ (test : Bool). kept test node (selected_below values here lower) (selected_below values above after))
    (lies_all_is values here)
    ∙ ap (λ (x : Trees). kept (selects_all (below_all values here)) node x (selected_below values above after))
    (selected_is values here lower)
    ∙ ap (λ (x : Trees). kept (selects_all (below_all values here)) node (cut (below_all values here) lower) x)
    (selected_is values above after)
    ∙ ap (λ (x : Values). kept (selects_all x) node (cut x lower) (cut (below_all values above) after))
    (sym (below_more values node above))

pub selects : (values : Values) (trees : Trees) → cut values trees ≡ selected values trees
selects values trees = sym (selected_is values [] trees)
