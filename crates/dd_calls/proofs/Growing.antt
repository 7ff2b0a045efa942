-- Tables that grow by rows and values, one after the other.
use Rattle.std.proofs.Common.{◌≡◌, ◌∙◌, ℕ, List, [], ◌∷◌, ◌++◌, ◌+◌, ◌<◌, ◌≤◌, length, map, take, get_or, refl}
use Rattle.std.proofs.Common.{sym, ap, ap₂, subst, append_assoc, append-nil, length-append, arith, rules, add-zero}
use Rattle.std.proofs.lemmas.Grind.{flat_map-append}
use Rattle.std.proofs.lemmas.List.{map-append, take_all, take_more}
use Rattle.std.proofs.lemmas.List.Folds.{concat-append}
use Rattle.std.proofs.Common.{Result, Ok, Err}
use Rattle.std.specs.Prelude.{◌≢◌, OnOk}
use Rattle.std.specs.Borrow.{Bor}
use Rattle.std.specs.List.{concat, flat_map}
use Rattle.dd_walk.specs.declared.forest.Tree.{Tree, out-Tree, the_lemmas}
use Rattle.dd_walk.specs.ForestViews.{tree_view, trees_view}
use Rattle.dd_walk.specs.Saying.{key_of}
use Rattle.dd_walk.specs.Trees.{Node}
use Rattle.dd_calls.specs.declared.table.Row.{Row}
use Rattle.dd_calls.specs.declared.table.Table.{Table}
use Rattle.dd_calls.specs.declared.texts.Texts.{Texts}
use Rattle.dd_calls.specs.Texts.{AreTexts, Puts, ends_from}
use Rattle.dd_calls.specs.Rows.{Adds, AddsRows, Leveled, branch_rows, deeper, row_view, rows_of, values_at}
use Rattle.dd_calls.specs.Rows.{tag_of, values_of}

-- ---- rows and values

pub ends_append : (at : ℕ) (xs ys : List (List ℕ))
    → ends_from at (xs ++ ys) ≡ ends_from at xs ++ ends_from (at + length (concat xs)) ys
ends_append at [] ys = ap (λ (n : ℕ). ends_from n ys) (sym (add-zero at))
ends_append at (x ∷ xs) ys =
    let next = at + length x in
    let sizes = length-append x (concat xs) in
    let place : next + length (concat xs) ≡ at + length (x ++ concat xs) = omega (arith, sizes) in
    ap (λ (zs : List ℕ). next ∷ zs)
    (ends_append next xs ys ∙ ap (λ (n : ℕ). ends_from next xs ++ ends_from n ys) place)

pub puts_none : (t : Texts) → Puts [] t t
puts_none t = record { text = sym (append-nil t.text.items); ends = sym (append-nil t.ends.items) }

pub puts_then : (v w : List (List ℕ)) (a b c : Texts) → Puts v a b → Puts w b c → Puts (v ++ w) a c
puts_then v w a b c one two =
    let text : c.text.items ≡ a.text.items ++ concat (v ++ w) =
    two.text ∙ ap (λ (xs : List ℕ). xs ++ concat w) one.text
    ∙ append_assoc a.text.items (concat v) (concat w)
    ∙ ap (λ (xs : List ℕ). a.text.items ++ xs) (sym (concat-append v w)) in
    let place : length b.text.items ≡ length a.text.items + length (concat v) =
    ap (λ (xs : List ℕ). length xs) one.text ∙ length-append a.text.items (concat v) in
    let start = length a.text.items in
    let ends : c.ends.items ≡ a.ends.items ++ ends_from start (v ++ w) =
    two.ends ∙ ap (λ (xs : List ℕ). xs ++ ends_from (length b.text.items) w) one.ends
    ∙ append_assoc a.ends.items (ends_from start v) (ends_from (length b.text.items) w)
    ∙ ap (λ (n : ℕ). a.ends.items ++ (ends_from start v ++ ends_from n w)) place
    ∙ ap (λ (xs : List ℕ). a.ends.items ++ xs) (sym (ends_append start v w)) in
    record { text = text; ends = ends }

-- texts that were put where there were none
pub put_first : (v : List (List ℕ)) (a b : Texts) → a.text.items ≡ [] → a.ends.items ≡ [] → Puts v a b → AreTexts v b
put_first v a b no_text no_ends puts = record {
  text = puts.text ∙ ap (λ (xs : List ℕ). xs ++ concat v) no_text;
  ends = puts.ends ∙ ap (λ (xs : List ℕ). xs ++ ends_from (length a.text.items) v) no_ends
      ∙ ap (λ (xs : List ℕ). ends_from (length xs) v) no_text;
}

-- one text more, where these are all so far
pub are_then : (v w : List (List ℕ)) (a b : Texts) → AreTexts v a → Puts w a b → AreTexts (v ++ w) b
are_then v w a b are puts =
    let place : 0 + length (concat v) ≡ length (concat v) = omega arith in record {
      text = puts.text ∙ ap (λ (xs : List ℕ). xs ++ concat w) are.text ∙ sym (concat-append v w);
      ends = puts.ends ∙ ap₂ (λ (xs ys : List ℕ). xs ++ ends_from (length ys) w) are.ends are.text
          ∙ ap (λ (n : ℕ). ends_from 0 v ++ ends_from n w) (sym place) ∙ sym (ends_append 0 v w);
    }

pub one_text_more : (texts : List (Bor (List ℕ))) (i : ℕ) (d : Bor (List ℕ)) (a b : Texts) → i < length texts
    → AreTexts (map (λ (t : Bor (List ℕ)). t.now) (take i texts)) a
    → Puts ((get_or texts i d).now ∷ []) a b → AreTexts (map (λ (t : Bor (List ℕ)). t.now) (take (i + 1) texts)) b
one_text_more texts i d a b below so_far next =
    let now : Bor (List ℕ) → List ℕ = λ (t : Bor (List ℕ)). t.now in
    let text = get_or texts i d in
    let more : map now (take i texts) ++ text.now ∷ [] ≡ map now (take (i + 1) texts) =
    sym (map-append now (take i texts) (text ∷ []))
    ∙ ap (λ (ts : List (Bor (List ℕ))). map now ts) (sym (take_more texts i d below)) in
    subst (λ (v : List (List ℕ)). AreTexts v b) more (are_then (map now (take i texts)) (text.now ∷ []) a b so_far next)

pub rows_none : (t : Table) → AddsRows [] [] t t
rows_none t = record { rows_are = sym (append-nil t.rows.items); values_are = puts_none t.values }

pub rows_then : (r s : List Row) (v w : List (List ℕ)) (a b c : Table) → AddsRows r v a b → AddsRows s w b c
    → AddsRows (r ++ s) (v ++ w) a c
rows_then r s v w a b c one two = record {
  rows_are = two.rows_are ∙ ap (λ (xs : List Row). xs ++ s) one.rows_are ∙ append_assoc a.rows.items r s;
  values_are = puts_then v w a.values b.values c.values one.values_are two.values_are;
}

-- ---- records

pub adds_then : (tags : List ℕ) (xs ys : List Leveled) (a b c : Table) → Adds tags xs a b → Adds tags ys b c
    → Adds tags (xs ++ ys) a c
adds_then tags xs ys a b c one two =
    let both = rows_then (map row_view xs) (map row_view ys) (values_of tags xs) (values_of tags ys) a b c one two in
    let rows : map row_view xs ++ map row_view ys ≡ map row_view (xs ++ ys) = sym (map-append row_view xs ys) in
    let values : values_of tags xs ++ values_of tags ys ≡ values_of tags (xs ++ ys) =
    sym (flat_map-append (λ (r : Leveled). values_at tags r.node) xs ys) in
    subst (λ (rs : List Row). AddsRows rs (values_of tags (xs ++ ys)) a c) rows
    (subst (λ (vs : List (List ℕ)). AddsRows (map row_view xs ++ map row_view ys) vs a c) values both)

-- ---- trees

abbrev pub tree_rows : ℕ → Tree → List Leveled
tree_rows level t = branch_rows level (tree_view t)

pub rows_each : (level : ℕ) (trees : List Tree) → rows_of level (trees_view trees) ≡ flat_map (tree_rows level) trees
rows_each level [] = refl
rows_each level (t ∷ trees) = ap (λ (xs : List Leveled). tree_rows level t ++ xs) (rows_each level trees)

below_is : (t : Tree) → (tree_view t).below ≡ trees_view (out-Tree t).below.items
below_is t = search (rules, the_lemmas)

-- the records of the first trees were added
abbrev pub Went : List ℕ → ℕ → List Tree → ℕ → Table → Table → Type 0
Went tags level trees i old new = Adds tags (flat_map (tree_rows level) (take i trees)) old new

pub went_none : (tags : List ℕ) (level : ℕ) (trees : List Tree) (t : Table) → Went tags level trees 0 t t
went_none tags level trees t = rows_none t

one_more : (level : ℕ) (trees : List Tree) (i : ℕ) (d : Tree) → i < length trees
    → flat_map (tree_rows level) (take (i + 1) trees)
    ≡ flat_map (tree_rows level) (take i trees) ++ tree_rows level (get_or trees i d)
one_more level trees i d within =
    ap (λ (ys : List Tree). flat_map (tree_rows level) ys) (take_more trees i d within)
    ∙ flat_map-append (tree_rows level) (take i trees) (get_or trees i d ∷ [])
    ∙ ap (λ (ys : List Leveled). flat_map (tree_rows level) (take i trees) ++ ys)
    (append-nil (tree_rows level (get_or trees i d)))

pub went_more : (tags : List ℕ) (level : ℕ) (trees : List Tree) (i : ℕ) (d : Tree) (a b c : Table)
    → i < length trees → d ≡ get_or trees i d → Went tags level trees i a b → Adds tags (tree_rows level d) b c
    → Went tags level trees (i + 1) a c
went_more tags level trees i d a b c within is so_far next =
    subst (λ (xs : List Leveled). Adds tags xs a c)
    (ap (λ (t : Tree). flat_map (tree_rows level) (take i trees) ++ tree_rows level t) is
    ∙ sym (one_more level trees i d within))
    (adds_then tags (flat_map (tree_rows level) (take i trees)) (tree_rows level d) a b c so_far next)

pub went_all : (tags : List ℕ) (level : ℕ) (trees : List Tree) (i : ℕ) (a b : Table) → length trees ≤ i
    → Went tags level trees i a b → Adds tags (rows_of level (trees_view trees)) a b
went_all tags level trees i a b past so_far =
    subst (λ (xs : List Leveled). Adds tags xs a b)
    (ap (λ (ys : List Tree). flat_map (tree_rows level) ys) (take_all i trees past) ∙ sym (rows_each level trees))
    so_far

-- a record, and then those below it
pub branch_adds : (tags : List ℕ) (level under : ℕ) (t : Tree) (trees : List Tree) (a b c : Table)
    → under ≡ deeper level → trees ≡ (out-Tree t).below.items
    → Adds tags (record { level = level; node = (tree_view t).node } ∷ []) a b
    → Adds tags (rows_of under (trees_view trees)) b c → Adds tags (tree_rows level t) a c
branch_adds tags level under t trees a b c deep is first rest =
    let same : rows_of under (trees_view trees) ≡ rows_of (deeper level) (tree_view t).below =
    ap (λ (n : ℕ). rows_of n (trees_view trees)) deep
    ∙ ap (λ (ts : List Tree). rows_of (deeper level) (trees_view ts)) is
    ∙ ap (rows_of (deeper level)) (sym (below_is t)) in
    adds_then tags (record { level = level; node = (tree_view t).node } ∷ []) (rows_of (deeper level) (tree_view t).below)
    a b c first (subst (λ (xs : List Leveled). Adds tags xs b c) same rest)

-- ---- the values of a record

pub values_none : (tags : List ℕ) (node : Node) (t : Table) → AddsRows [] (values_at (take 0 tags) node) t t
values_none tags node t = rows_none t

pub values_more : (tags : List ℕ) (node : Node) (i tag : ℕ) (value : List ℕ) (a b c : Table) → i < length tags
    → tag ≡ get_or tags i tag → value ≡ key_of (tag_of tag) node.set → c.rows.items ≡ b.rows.items
    → AddsRows [] (values_at (take i tags) node) a b
    → Puts (value ∷ []) b.values c.values → AddsRows [] (values_at (take (i + 1) tags) node) a c
values_more tags node i tag value a b c below is value_is same so_far next =
    let of : ℕ → List ℕ = λ (n : ℕ). key_of (tag_of n) node.set in
    let more : take (i + 1) tags ≡ take i tags ++ tag ∷ [] =
    take_more tags i tag below ∙ ap (λ (n : ℕ). take i tags ++ n ∷ []) (sym is) in
    let all : values_at (take i tags) node ++ value ∷ [] ≡ values_at (take (i + 1) tags) node =
    ap (λ (v : List ℕ). values_at (take i tags) node ++ v ∷ []) value_is
    ∙ sym (map-append of (take i tags) (tag ∷ [])) ∙ ap (λ (ns : List ℕ). map of ns) (sym more) in
    let put : AddsRows [] (value ∷ []) b c =
    record { rows_are = same ∙ sym (append-nil b.rows.items); values_are = next } in
    subst (λ (vs : List (List ℕ)). AddsRows [] vs a c) all
    (rows_then [] [] (values_at (take i tags) node) (value ∷ []) a b c so_far put)

pub values_all : (tags : List ℕ) (node : Node) (i : ℕ) (a b : Table) → length tags ≤ i
    → AddsRows [] (values_at (take i tags) node) a b → AddsRows [] (values_at tags node) a b
values_all tags node i a b past so_far =
    subst (λ (ns : List ℕ). AddsRows [] (values_at ns node) a b) (take_all i tags past) so_far

-- its row, and then its values
pub record_adds : (tags : List ℕ) (r : Leveled) (row : Row) (a b c : Table) → row ≡ row_view r
    → b.rows.items ≡ a.rows.items ++ row ∷ [] → b.values.text.items ≡ a.values.text.items
    → b.values.ends.items ≡ a.values.ends.items
    → AddsRows [] (values_at tags r.node) b c → Adds tags (r ∷ []) a c
record_adds tags r row a b c is rows text ends values =
    let first : AddsRows (row_view r ∷ []) [] a b = record {
      rows_are = rows ∙ ap (λ (x : Row). a.rows.items ++ x ∷ []) is;
      values_are = record {
        text = text ∙ sym (append-nil a.values.text.items);
        ends = ends ∙ sym (append-nil a.values.ends.items);
      };
    } in
    let both : AddsRows (row_view r ∷ []) (values_at tags r.node) a c =
    rows_then (row_view r ∷ []) [] [] (values_at tags r.node) a b c first values in
    subst (λ (vs : List (List ℕ)). AddsRows (row_view r ∷ []) vs a c) (sym (append-nil (values_at tags r.node))) both

-- ---- a whole table

pub record IsWhole (tags : List ℕ) (rows : List Leveled) (t : Table) : Type 0 where
  pub rows_are : t.rows.items ≡ map row_view rows
  pub values_are : AreTexts (values_of tags rows) t.values

pub whole : (tags : List ℕ) (rows : List Leveled) (a b : Table) → a.rows.items ≡ [] → a.values.text.items ≡ []
    → a.values.ends.items ≡ [] → Adds tags rows a b → IsWhole tags rows b
whole tags rows a b no_rows no_text no_ends adds = record {
  rows_are = adds.rows_are ∙ ap (λ (xs : List Row). xs ++ map row_view rows) no_rows;
  values_are = put_first (values_of tags rows) a.values b.values no_text no_ends adds.values_are;
}

-- ---- what follows where a call worked

pub on_ok : {T E A B : Type 0} (r : Result T E) → (A → B) → OnOk r A → OnOk r B
on_ok (Ok v) f known = f known
on_ok (Err e) f known = known

pub one_not_zero : (n : ℕ) → n ≡ 1 → n ≢ 0
one_not_zero n one zero = omega (arith, one, zero)
