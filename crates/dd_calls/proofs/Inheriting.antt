-- Records that are listed with what they inherit, one tree after the other.
use Rattle.std.proofs.Common.{◌≡◌, ◌∙◌, ℕ, List, [], ◌∷◌, ◌++◌, ◌+◌, ◌<◌, ◌≤◌, length, map, take, get_or, refl}
use Rattle.std.proofs.Common.{sym, ap, append_assoc, append-nil, rules}
use Rattle.std.proofs.lemmas.Grind.{flat_map-append}
use Rattle.std.proofs.lemmas.List.{map-append, take_all, take_more}
use Rattle.std.specs.List.{flat_map}
use Rattle.dd_walk.specs.declared.forest.Tree.{Tree, out-Tree, the_lemmas}
use Rattle.dd_walk.specs.ForestViews.{tree_view, trees_view}
use Rattle.dd_walk.specs.Trees.{Node}
use Rattle.dd_report.specs.Agreements.{Standing, branch_standings, standing_below, standings_below}
use Rattle.dd_calls.specs.declared.standing.Standing.{Standing as StandingValue}
use Rattle.dd_calls.specs.Standings.{Inherits, Seen, seen_by, standing_view}

-- these records were added to a list
abbrev pub Added : List Standing → List StandingValue → List StandingValue → Type 0
Added standings old new = map standing_view new ≡ map standing_view old ++ map seen_by standings

pub added_none : (old : List StandingValue) → Added [] old old
added_none old = sym (append-nil (map standing_view old))

pub added_then : (xs ys : List Standing) (a b c : List StandingValue) → Added xs a b → Added ys b c
    → Added (xs ++ ys) a c
added_then xs ys a b c one two =
    two ∙ ap (λ (s : List Seen). s ++ map seen_by ys) one
    ∙ append_assoc (map standing_view a) (map seen_by xs) (map seen_by ys)
    ∙ ap (λ (s : List Seen). map standing_view a ++ s) (sym (map-append seen_by xs ys))

-- ---- trees

abbrev pub tree_standings : List Node → Tree → List Standing
tree_standings nodes t = branch_standings nodes (tree_view t)

standings_each : (nodes : List Node) (trees : List Tree)
    → standings_below nodes (trees_view trees) ≡ flat_map (tree_standings nodes) trees
standings_each nodes [] = refl
standings_each nodes (t ∷ trees) =
    ap (λ (xs : List Standing). tree_standings nodes t ++ xs) (standings_each nodes trees)

below_is : (t : Tree) → (tree_view t).below ≡ trees_view (out-Tree t).below.items
below_is t = search (rules, the_lemmas)

-- the records of the first trees were added
abbrev pub Went : List Node → List Tree → ℕ → List StandingValue → List StandingValue → Type 0
Went nodes trees i old new = Added (flat_map (tree_standings nodes) (take i trees)) old new

pub went_none : (nodes : List Node) (trees : List Tree) (old : List StandingValue) → Went nodes trees 0 old old
went_none nodes trees old = added_none old

pub went_more : (nodes : List Node) (trees : List Tree) (i : ℕ) (d : Tree) (a b c : List StandingValue)
    → i < length trees → d ≡ get_or trees i d → Went nodes trees i a b → Added (tree_standings nodes d) b c
    → Went nodes trees (i + 1) a c
went_more nodes trees i d a b c within is so_far next =
    let f = tree_standings nodes in
    let more : flat_map f (take (i + 1) trees) ≡ flat_map f (take i trees) ++ f d =
    ap (λ (ys : List Tree). flat_map f ys) (take_more trees i d within)
    ∙ flat_map-append f (take i trees) (get_or trees i d ∷ [])
    ∙ ap (λ (ys : List Standing). flat_map f (take i trees) ++ ys) (append-nil (f (get_or trees i d)))
    ∙ ap (λ (t : Tree). flat_map f (take i trees) ++ f t) (sym is) in
    added_then (flat_map f (take i trees)) (f d) a b c so_far next
    ∙ ap (λ (xs : List Standing). map standing_view a ++ map seen_by xs) (sym more)

pub went_all : (nodes : List Node) (trees : List Tree) (i : ℕ) (a b : List StandingValue) → length trees ≤ i
    → Went nodes trees i a b → Added (standings_below nodes (trees_view trees)) a b
went_all nodes trees i a b past so_far =
    so_far ∙ ap (λ (xs : List Standing). map standing_view a ++ map seen_by xs)
    (ap (λ (ys : List Tree). flat_map (tree_standings nodes) ys) (take_all i trees past)
    ∙ sym (standings_each nodes trees))

-- ---- a record, and then those below it

one_seen : (standing : StandingValue) (nodes : List Node)
    → Inherits standing.inherited ((tree_view standing.tree.now).node ∷ nodes)
    → standing_view standing ≡ seen_by (standing_below nodes (tree_view standing.tree.now).node)
one_seen standing nodes said = rw (said.patient_id, said.study, said.series) refl

pub branch_added : (nodes : List Node) (standing : StandingValue) (trees : List Tree) (a b c : List StandingValue)
    → trees ≡ (out-Tree standing.tree.now).below.items
    → Inherits standing.inherited ((tree_view standing.tree.now).node ∷ nodes) → b ≡ a ++ standing ∷ []
    → Added (standings_below ((tree_view standing.tree.now).node ∷ nodes) (trees_view trees)) b c
    → Added (tree_standings nodes standing.tree.now) a c
branch_added nodes standing trees a b c is said pushed rest =
    let node = (tree_view standing.tree.now).node in
    let under = node ∷ nodes in
    let first : Added (standing_below nodes node ∷ []) a b =
    ap (λ (xs : List StandingValue). map standing_view xs) pushed ∙ map-append standing_view a (standing ∷ [])
    ∙ ap (λ (s : Seen). map standing_view a ++ s ∷ []) (one_seen standing nodes said) in
    let same : standings_below under (trees_view trees) ≡ standings_below under (tree_view standing.tree.now).below =
    ap (λ (ts : List Tree). standings_below under (trees_view ts)) is
    ∙ ap (standings_below under) (sym (below_is standing.tree.now)) in
    added_then (standing_below nodes node ∷ []) (standings_below under (tree_view standing.tree.now).below) a b c first
    (rest ∙ ap (λ (xs : List Standing). map standing_view b ++ map seen_by xs) same)
