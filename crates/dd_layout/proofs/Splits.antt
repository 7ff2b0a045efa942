-- What stands before and after a row of a tree that rises: its rank, its offset, and its links, by these two lists.
use Rattle.std.specs.Prelude.{◌≡◌, ◌⊎◌, ◌+◌, ◌<◌, ℕ, Bool, true, false, ◌&&◌, List, [], ◌∷◌, ◌++◌, length, find}
use Rattle.std.specs.Prelude.{filter, sum_by}
use Rattle.std.specs.List.{AllByRecursion}
use Rattle.std.specs.Ordering.{is_eq, is_lt}
use Rattle.std.specs.declared.cmp.Ordering.TheVariants.{Less, Equal}
use Rattle.std.proofs.Common.{refl, sym, ◌∙◌, ap, subst, inl, inr, arith}
use Rattle.std.proofs.lemmas.Cmp.{tied_itself}
use Rattle.dd_elem.specs.Ordered.{bytes_cmp}
use Rattle.dd_catalogue.specs.Rising.{by_test, is_eq_Equal, less_turned}
use Rattle.dd_layout.specs.Neighbours.{scan}
use Rattle.dd_layout.specs.Paths.{Path, path_cmp, is_before, parent_of, leads_to, are_siblings}
use Rattle.dd_layout.specs.Tree.{rank, offset, next_sibling, first_child}
use Rattle.dd_layout.proofs.RowsByWalk.{Rises, Above, path_total}
use Rattle.dd_layout.proofs.Blocks.{child_of, children_by_length, parent_leads, parent_length, HasBlocks}
use Rattle.dd_layout.proofs.Blocks.{leads_itself, same_path, and_parts}

-- each of these stands before the row
abbrev pub Before : List Path → Path → Type 0
Before front x = AllByRecursion (λ y. path_cmp y x ≡ Less) front

above_later : (p : Path) (front : List Path) (x : Path) (rest : List Path) → Above p (front ++ x ∷ rest)
    → path_cmp p x ≡ Less
above_later p [] x rest h = h.0
above_later p (y ∷ front) x rest h = above_later p front x rest h.1

pub all_before : (front : List Path) (x : Path) (rest : List Path) → Rises (front ++ x ∷ rest) → Before front x
all_before [] x rest up = tt
all_before (y ∷ front) x rest up = (above_later y front x rest up.0, all_before front x rest up.1)

pub all_later : (front : List Path) (x : Path) (rest : List Path) → Rises (front ++ x ∷ rest) → Above x rest
all_later [] x rest up = up.0
all_later (y ∷ front) x rest up = all_later front x rest up.1

-- ---- tests of what stands before, and of what stands after

and_true : (b : Bool) → (b && true) ≡ b
and_true true = refl
and_true false = refl

and_false : (b : Bool) → (b && false) ≡ false
and_false true = refl
and_false false = refl

before_less : (x y : Path) → path_cmp y x ≡ Less → is_before y x ≡ true
before_less x y e = ap is_lt e

not_before : (x y : Path) → path_cmp y x ≡ Less → is_before x y ≡ false
not_before x y e = ap is_lt (less_turned path_total y x e)

not_itself : (x : Path) → is_before x x ≡ false
not_itself x = ap is_lt (tied_itself path_total x)

kept_before : (s : Path → Bool) (x : Path) (front : List Path) (more : List Path) → Before front x
    → filter (λ y. s y && is_before y x) (front ++ more) ≡ filter s front ++ filter (λ y. s y && is_before y x) more
kept_before s x [] more h = refl
kept_before s x (y ∷ front) more h =
    let here : (s y && is_before y x) ≡ s y = ap (λ (b : Bool). s y && b) (before_less x y h.0) ∙ and_true (s y) in
    by_test (s y)
    (λ e. let both : (s y && is_before y x)
    ≡ true = here ∙ e in rw (both, e) (ap (λ l. y ∷ l) (kept_before s x front more h.1)))
    (λ e. let both : (s y && is_before y x) ≡ false = here ∙ e in rw (both, e) (kept_before s x front more h.1))

none_later : (s : Path → Bool) (x : Path) (rest : List Path) → Above x rest
    → filter (λ y. s y && is_before y x) rest ≡ []
none_later s x [] h = refl
none_later s x (y ∷ rest) h =
    let here : (s y && is_before y x) ≡ false = ap (λ (b : Bool). s y && b) (not_before y x h.0) ∙ and_false (s y) in
    rw here (none_later s x rest h.1)

append_none : (m n : List Path) → n ≡ [] → m ++ n ≡ m
append_none [] n e = e
append_none (x ∷ m) n e = ap (λ l. x ∷ l) (append_none m n e)

-- those before the row that pass a test
pub filter_before : (s : Path → Bool) (front : List Path) (x : Path) (rest : List Path) → Rises (front ++ x ∷ rest)
    → filter (λ y. s y && is_before y x) (front ++ x ∷ rest) ≡ filter s front
filter_before s front x rest up =
    let here : (s x && is_before x x) ≡ false = ap (λ (b : Bool). s x && b) (not_itself x) ∙ and_false (s x) in
    let none : filter (λ y. s y && is_before y x) (x ∷ rest)
    ≡ [] = rw here (none_later s x rest (all_later front x rest up)) in
    kept_before s x front (x ∷ rest) (all_before front x rest up)
    ∙ append_none (filter s front) (filter (λ y. s y && is_before y x) (x ∷ rest)) none

skipped : (s : Path → Bool) (x : Path) (front : List Path) (more : List Path) → Before front x
    → find (λ y. s y && is_before x y) (front ++ more) ≡ find (λ y. s y && is_before x y) more
skipped s x [] more h = refl
skipped s x (y ∷ front) more h =
    let here : (s y && is_before x y) ≡ false = ap (λ (b : Bool). s y && b) (not_before x y h.0) ∙ and_false (s y) in
    rw here (skipped s x front more h.1)

found_later : (s : Path → Bool) (x : Path) (rest : List Path) → Above x rest
    → find (λ y. s y && is_before x y) rest ≡ find s rest
found_later s x [] h = refl
found_later s x (y ∷ rest) h =
    let here : (s y && is_before x y) ≡ s y = ap (λ (b : Bool). s y && b) (before_less y x h.0) ∙ and_true (s y) in
    by_test (s y)
    (λ e. let both : (s y && is_before x y) ≡ true = here ∙ e in rw (both, e) refl)
    (λ e. let both : (s y && is_before x y) ≡ false = here ∙ e in rw (both, e) (found_later s x rest h.1))

-- the first after the row that passes a test
pub find_after : (s : Path → Bool) (front : List Path) (x : Path) (rest : List Path) → Rises (front ++ x ∷ rest)
    → find (λ y. s y && is_before x y) (front ++ x ∷ rest) ≡ find s rest
find_after s front x rest up =
    let here : (s x && is_before x x) ≡ false = ap (λ (b : Bool). s x && b) (not_itself x) ∙ and_false (s x) in
    skipped s x front (x ∷ rest) (all_before front x rest up)
    ∙ rw here (found_later s x rest (all_later front x rest up))

-- ---- a parent stands before its children

-- a front that is shorter stands before
pub front_before : (u y : Path) → leads_to u y ≡ true → length u < length y → path_cmp u y ≡ Less
front_before [] [] h long = absurd (omega arith)
front_before [] (b ∷ y) h long = refl
front_before (a ∷ u) [] h long = cc
front_before (a ∷ u) (b ∷ y) h long =
    let both = and_parts (is_eq (bytes_cmp a b)) (leads_to u y) h in
    let tie : bytes_cmp a b ≡ Equal = is_eq_Equal (bytes_cmp a b) both.0 in
    rw tie (front_before u y both.1 (omega arith))

pub parent_before : (a : List ℕ) (y : Path) → path_cmp (parent_of (a ∷ y)) (a ∷ y) ≡ Less
parent_before a y =
    let long = parent_length a y in front_before (parent_of (a ∷ y)) (a ∷ y) (parent_leads (a ∷ y)) (omega arith)

-- each path has parts
abbrev pub HaveParts : List Path → Type 0
HaveParts rows = AllByRecursion (λ y. (part : List ℕ) × (path : Path) × (y ≡ part ∷ path)) rows

pub not_child_before : (x y : Path) → (part : List ℕ) × (path : Path) × (y ≡ part ∷ path)
    → (path_cmp y x ≡ Less) ⊎ (y ≡ x) → child_of x y ≡ false
not_child_before x y (part, path, is) where_it_is = by_test (child_of x y)
    (λ e. let up : parent_of y ≡ x = same_path (parent_of y) x e in
    let less : path_cmp x y ≡ Less =
    subst (λ (p : Path). path_cmp p y ≡ Less) up (subst (λ (z : Path). path_cmp (parent_of z) z
    ≡ Less) (sym is) (parent_before part path)) in
    impossible less where_it_is)
    (λ e. e)
  where
    impossible : path_cmp x y ≡ Less → (path_cmp y x ≡ Less) ⊎ (y ≡ x) → child_of x y ≡ false
    impossible less (inl e) = let turned = less_turned path_total x y less in cc
    impossible less (inr e) =
        let itself : path_cmp x x ≡ Less = subst (λ (z : Path). path_cmp x z ≡ Less) e less in
        let tie = tied_itself path_total x in cc

no_child_before : (x : Path) (front : List Path) (more : List Path) → HaveParts front → Before front x
    → find (child_of x) (front ++ more) ≡ find (child_of x) more
no_child_before x [] more parts h = refl
no_child_before x (y ∷ front) more parts h =
    let here = not_child_before x y parts.0 (inl h.0) in rw here (no_child_before x front more parts.1 h.1)

pub no_children_yet : (x : Path) (front : List Path) → HaveParts front → Before front x → filter (child_of x) front ≡ []
no_children_yet x [] parts h = refl
no_children_yet x (y ∷ front) parts h =
    let here = not_child_before x y parts.0 (inl h.0) in rw here (no_children_yet x front parts.1 h.1)

pub parts_front : (front more : List Path) → HaveParts (front ++ more) → HaveParts front
parts_front [] more h = tt
parts_front (y ∷ front) more h = (h.0, parts_front front more h.1)

pub parts_at : (front : List Path) (x : Path) (rest : List Path) → HaveParts (front ++ x ∷ rest)
    → (part : List ℕ) × (path : Path) × (x ≡ part ∷ path)
parts_at [] x rest h = h.0
parts_at (y ∷ front) x rest h = parts_at front x rest h.1

-- ---- a row by what stands before and after it

pub rank_is : (front : List Path) (x : Path) (rest : List Path) → Rises (front ++ x ∷ rest)
    → rank (front ++ x ∷ rest) x ≡ 1 + length (filter (λ y. are_siblings y x) front)
rank_is front x rest up = ap (λ (l : List Path). 1 + length l) (filter_before (λ y. are_siblings y x) front x rest up)

filter_all : (front : List Path) (x : Path) (rest : List Path) → Rises (front ++ x ∷ rest)
    → filter (λ y. is_before y x) (front ++ x ∷ rest) ≡ front
filter_all front x rest up = same (front ++ x ∷ rest) ∙ filter_before (λ y. true) front x rest up ∙ every front where
  same : (m : List Path) → filter (λ y. is_before y x) m ≡ filter (λ y. true && is_before y x) m
  same m = refl

  every : (m : List Path) → filter (λ (y : Path). true) m ≡ m
  every [] = refl
  every (y ∷ m) = ap (λ l. y ∷ l) (every m)

pub offset_is : (first : ℕ) (size : Path → ℕ) (front : List Path) (x : Path) (rest : List Path)
    → Rises (front ++ x ∷ rest)
    → offset first size (front ++ x ∷ rest) x ≡ first + sum_by size front
offset_is first size front x rest up = ap (λ (l : List Path). first + sum_by size l) (filter_all front x rest up)

pub next_is : (front : List Path) (x : Path) (rest : List Path) → Rises (front ++ x ∷ rest) → HasBlocks x rest
    → (a : List ℕ) (p : Path) → x ≡ a ∷ p → next_sibling (front ++ x ∷ rest) x ≡ scan (length x) rest
next_is front x rest up blocks a p is =
    let long : length x ≡ length (parent_of x) + 1 = subst (λ (z : Path). length z
    ≡ length (parent_of z) + 1) (sym is) (parent_length a p) in
    find_after (λ y. are_siblings y x) front x rest up
    ∙ children_by_length (parent_of x) rest (blocks (parent_of x) (parent_leads x))
    ∙ ap (λ (n : ℕ). scan n rest) (sym long)

pub lower_is : (front : List Path) (x : Path) (rest : List Path) → Rises (front ++ x ∷ rest)
    → HaveParts (front ++ x ∷ rest) → HasBlocks x rest
    → first_child (front ++ x ∷ rest) x ≡ scan (length x + 1) rest
lower_is front x rest up parts blocks =
    let itself = not_child_before x x (parts_at front x rest parts) (inr refl) in
    no_child_before x front (x ∷ rest) (parts_front front (x ∷ rest) parts) (all_before front x rest up)
    ∙ rw itself (children_by_length x rest (blocks x (leads_itself x)))
