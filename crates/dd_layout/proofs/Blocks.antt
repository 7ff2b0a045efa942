-- The rows below a record are those that follow it until one comes that is no longer than its path.
use Rattle.std.specs.Prelude.{◌≡◌, ◌≢◌, ◌⊎◌, ◌+◌, ◌<◌, ◌≤◌, ℕ, Bool, true, false, ◌&&◌, ◌==◌, List, [], ◌∷◌, ◌++◌}
use Rattle.std.specs.Prelude.{length, map, find, None}
use Rattle.std.specs.List.{AllByRecursion, flat_map}
use Rattle.std.specs.Ordering.{is_eq, ordering_then}
use Rattle.std.specs.declared.cmp.Ordering.TheVariants.{Less, Equal}
use Rattle.std.proofs.Common.{refl, sym, ◌∙◌, ap, ap₂, subst, inl, inr, arith}
use Rattle.std.proofs.lemmas.Bool.{lt-ltb, le-ltb, eqb-true, eqb-false, false≢true}
use Rattle.std.proofs.lemmas.Cmp.{nat_list_cmp_total, tied_itself}
use Rattle.std.proofs.lemmas.Map.Lookups.{exact_bytes}
use Rattle.dd_elem.specs.Ordered.{bytes_cmp}
use Rattle.dd_catalogue.specs.Rising.{by_test, by_order, is_eq_Equal, less_turned}
use Rattle.dd_layout.specs.Neighbours.{scan}
use Rattle.dd_layout.specs.Paths.{Path, path_cmp, is_path, prefixes, parent_of, leads_to}
use Rattle.dd_layout.specs.Walk.{fresh, paths_from}
use Rattle.dd_catalogue.proofs.Members.{Member}
use Rattle.dd_layout.proofs.RowsByWalk.{Rises, Above, path_total, path_apart, fresh_member, prefix_parts, row_prefix}
use Rattle.dd_layout.proofs.RowsByWalk.{member_either}

-- a row that is longer than the front, and to which it leads
abbrev IsBelow : Path → Path → Type 0
IsBelow u y = (length u < length y) × (leads_to u y ≡ true)

-- the front leads to none of them
abbrev pub NoneLed : Path → List Path → Type 0
NoneLed u rows = AllByRecursion (λ y. leads_to u y ≡ false) rows

-- the rows below the front come first, up to one that is no longer than it, and no other is below it
abbrev pub Block : Path → List Path → Type 0
Block u [] = Unit {0}
Block u (y ∷ rest) = (IsBelow u y × Block u rest) ⊎ ((length y ≤ length u) × NoneLed u (y ∷ rest))

-- ---- fronts

part_same : (a b : List ℕ) → is_eq (bytes_cmp a b) ≡ true → a ≡ b
part_same a b e = exact_bytes a b (is_eq_Equal (bytes_cmp a b) e)

part_itself : (a : List ℕ) → is_eq (bytes_cmp a a) ≡ true
part_itself a = ap is_eq (tied_itself nat_list_cmp_total a)

pub and_parts : (x y : Bool) → (x && y) ≡ true → (x ≡ true) × (y ≡ true)
and_parts true y e = (refl, e)
and_parts false y e = cc

pub leads_itself : (x : Path) → leads_to x x ≡ true
leads_itself [] = refl
leads_itself (a ∷ x) = rw (part_itself a) (leads_itself x)

pub leads_on : (u y z : Path) → leads_to u y ≡ true → leads_to y z ≡ true → leads_to u z ≡ true
leads_on [] y z h k = refl
leads_on (a ∷ u) [] z h k = cc
leads_on (a ∷ u) (b ∷ y) [] h k = cc
leads_on (a ∷ u) (b ∷ y) (c ∷ z) h k =
    let p = and_parts (is_eq (bytes_cmp a b)) (leads_to u y) h in
    let q = and_parts (is_eq (bytes_cmp b c)) (leads_to y z) k in
    let same : a ≡ c = part_same a b p.0 ∙ part_same b c q.0 in
    let first : is_eq (bytes_cmp a c) ≡ true = subst (λ (d : List ℕ). is_eq (bytes_cmp a d)
    ≡ true) same (part_itself a) in
    rw first (leads_on u y z p.1 q.1)

-- what stands between two paths to which a front leads is one of these
pub between : (u p q r : Path) → leads_to u p ≡ true → leads_to u r ≡ true → path_cmp p q ≡ Less
    → path_cmp q r ≡ Less → leads_to u q ≡ true
between [] p q r h k e f = refl
between (a ∷ u) [] q r h k e f = cc
between (a ∷ u) (b ∷ p) [] r h k e f = cc
between (a ∷ u) (b ∷ p) (c ∷ q) [] h k e f = cc
between (a ∷ u) (b ∷ p) (c ∷ q) (d ∷ r) h k e f =
    let hb = and_parts (is_eq (bytes_cmp a b)) (leads_to u p) h in
    let kd = and_parts (is_eq (bytes_cmp a d)) (leads_to u r) k in
    let ab = part_same a b hb.0 in
    let ad = part_same a d kd.0 in
    let e' : ordering_then (bytes_cmp a c) (path_cmp p q)
    ≡ Less = subst (λ (x : List ℕ). ordering_then (bytes_cmp x c) (path_cmp p q) ≡ Less) (sym ab) e in
    let f' : ordering_then (bytes_cmp c a) (path_cmp q r)
    ≡ Less = subst (λ (x : List ℕ). ordering_then (bytes_cmp c x) (path_cmp q r) ≡ Less) (sym ad) f in
    by_order (bytes_cmp a c)
    (λ g. let turned = less_turned nat_list_cmp_total a c g in let is = rw turned at f' in cc)
    (λ g. let same : c ≡ a = sym (exact_bytes a c g) in
    let tie : bytes_cmp c a ≡ Equal = ap (λ (x : List ℕ). bytes_cmp x a) same ∙ tied_itself nat_list_cmp_total a in
    let e'' : path_cmp p q ≡ Less = rw g at e' in
    let f'' : path_cmp q r ≡ Less = rw tie at f' in
    rw (ap is_eq g) (between u p q r hb.1 kd.1 e'' f''))
    (λ g. let is = rw g at e' in cc)

-- ---- blocks

pub block_append : (u : Path) (m n : List Path) → AllByRecursion (IsBelow u) m → Block u n → Block u (m ++ n)
block_append u [] n h k = k
block_append u (y ∷ m) n h k = inl (h.0, block_append u m n h.1 k)

block_stops : (u : Path) (m n : List Path) → (y : Path) (rest : List Path) → m ≡ y ∷ rest → length y ≤ length u
    → NoneLed u (m ++ n) → Block u (m ++ n)
block_stops u m n y rest is short none =
    subst (λ (l : List Path). Block u (l ++ n)) (sym is) (inr (
      short,
      subst
          (λ (l : List Path). NoneLed u (l ++ n)) is none,
    ))

-- ---- what the walk gives next, below a front of both paths

map_below : (a : List ℕ) (u : Path) (m : List Path) → AllByRecursion (IsBelow u) m
    → AllByRecursion (IsBelow (a ∷ u)) (map (λ y. a ∷ y) m)
map_below a u [] h = tt
map_below a u (y ∷ m) h =
    let first = part_itself a in
    ((omega (arith, h.0.0), rw first h.0.1), map_below a u m h.1)

below_root : (m : List Path) → ((y : Path) → Member y m → (part : List ℕ) × (path : Path) × (y ≡ part ∷ path))
    → AllByRecursion (IsBelow []) m
below_root [] h = tt
below_root (y ∷ m) h =
    let is = h y (inl refl) in
    let long : length y ≡ length is.1 + 1 = ap length is.2 ∙ omega arith in
    ((omega arith, refl), below_root m (λ z i. h z (inr i)))

fresh_parts : (p q y : Path) → Member y (fresh p q) → (part : List ℕ) × (path : Path) × (y ≡ part ∷ path)
fresh_parts p q y i = prefix_parts q y (fresh_member p q y i)

fresh_below : (u p q : Path) → leads_to u p ≡ true → leads_to u q ≡ true → AllByRecursion (IsBelow u) (fresh p q)
fresh_below [] p q h k = below_root (fresh p q) (fresh_parts p q)
fresh_below (a ∷ u) [] q h k = cc
fresh_below (a ∷ u) (b ∷ p) [] h k = cc
fresh_below (a ∷ u) (b ∷ p) (c ∷ q) h k =
    let hb = and_parts (is_eq (bytes_cmp a b)) (leads_to u p) h in
    let kc = and_parts (is_eq (bytes_cmp a c)) (leads_to u q) k in
    let ab = part_same a b hb.0 in
    let ac = part_same a c kc.0 in
    let tie : is_eq (bytes_cmp b c) ≡ true = subst (λ (x : List ℕ). is_eq (bytes_cmp x c) ≡ true) ab kc.0 in
    rw tie (subst (λ (x : List ℕ). AllByRecursion (IsBelow (a ∷ u)) (map (λ y. x ∷ y) (fresh p q))) ac
    (map_below a u (fresh p q) (fresh_below u p q hb.1 kc.1)))

-- ---- and where the front is left: the next row is no longer than it

abbrev StartsShort : ℕ → List Path → Type 0
StartsShort n m = (y : Path) × (rest : List Path) × (m ≡ y ∷ rest) × (length y ≤ n)

fresh_short : (u p q : Path) → leads_to u p ≡ true → leads_to u q ≡ false → path_cmp p q ≡ Less
    → StartsShort (length u) (fresh p q)
fresh_short [] p q h k e = cc
fresh_short (a ∷ u) [] q h k e = cc
fresh_short (a ∷ u) (b ∷ p) [] h k e = cc
fresh_short (a ∷ u) (b ∷ p) (c ∷ q) h k e = by_test (is_eq (bytes_cmp b c))
    (λ f. let hb = and_parts (is_eq (bytes_cmp a b)) (leads_to u p) h in
    let bc = part_same b c f in
    let ac : is_eq (bytes_cmp a c) ≡ true = subst (λ (x : List ℕ). is_eq (bytes_cmp a x) ≡ true) bc hb.0 in
    let k' : leads_to u q ≡ false = rw ac at k in
    let tie : bytes_cmp b c ≡ Equal = is_eq_Equal (bytes_cmp b c) f in
    let e' : path_cmp p q ≡ Less = rw tie at e in
    let there = fresh_short u p q hb.1 k' e' in
    rw f (c ∷ there.0, map (λ y. c ∷ y) there.1, ap (λ l. map (λ y. c ∷ y) l) there.2, omega (arith, there.3)))
    (λ f. rw f (c ∷ [], map (λ y. c ∷ y) (prefixes q), refl, omega arith))

-- ---- no row that follows is below a front that was left

pub prefix_leads : (p q : Path) → Member q (prefixes p) → leads_to q p ≡ true
prefix_leads [] q i = absurd i
prefix_leads (x ∷ p) q (inl e) = subst (λ (y : Path). leads_to y (x ∷ p)
    ≡ true) e (let first = part_itself x in rw first refl)
prefix_leads (x ∷ p) q (inr i) = later x p (prefixes p) q (λ r j. prefix_leads p r j) i where
  later : (x : List ℕ) (p : Path) (m : List Path) (q : Path) → ((r : Path) → Member r m → leads_to r p ≡ true)
      → Member q (map (λ r. x ∷ r) m) → leads_to q (x ∷ p) ≡ true
  later x p [] q h i = absurd i
  later x p (r ∷ m) q h (inl e) =
      let first = part_itself x in subst (λ (y : Path). leads_to y (x ∷ p) ≡ true) e (rw first (h r (inl refl)))
  later x p (r ∷ m) q h (inr i) = later x p m q (λ s j. h s (inr j)) i

none_led : (u : Path) (m : List Path) → ((y : Path) → Member y m → leads_to u y ≡ true → ⊥) → NoneLed u m
none_led u [] h = tt
none_led u (y ∷ m) h =
    (by_test (leads_to u y) (λ e. absurd (h y (inl refl) e)) (λ e. e), none_led u m (λ z i. h z (inr i)))

-- each path after the first one that the front does not lead to
left_later : (u p q : Path) (paths : List Path) → leads_to u p ≡ true → path_cmp p q ≡ Less
    → leads_to u q ≡ false → Above q paths
    → (y : Path) → Member y (flat_map prefixes paths) → leads_to u y ≡ true → ⊥
left_later u p q [] h e k above y i led = i
left_later u p q (r ∷ paths) h e k above y i led = elim (member_either y (prefixes r) (flat_map prefixes paths) i) [
  | inl j ↦ (let there = between u p q r h (leads_on u y r led (prefix_leads r y j)) e above.0 in
      false≢true (sym k ∙ there))
  | inr j ↦ left_later u p q paths h e k above.1 y j led
]

none_below : (u p q : Path) (paths : List Path) → leads_to u p ≡ true → path_cmp p q ≡ Less → leads_to u q ≡ false
    → Above q paths
    → (y : Path) → Member y (fresh p q ++ paths_from q paths) → leads_to u y ≡ true → ⊥
none_below u p q paths h e k above y i led = elim (member_either y (fresh p q) (paths_from q paths) i) [
  | inl j ↦ false≢true (sym k ∙ leads_on u y q led (prefix_leads q y (fresh_member p q y j)))
  | inr j ↦ left_later u p q paths h e k above y (row_prefix q paths y j) led
]

-- ---- the walk from a path gives the block of each front of it

pub walk_block : (u p : Path) (paths : List Path) → leads_to u p ≡ true → Above p paths → Rises paths
    → Block u (paths_from p paths)
walk_block u p [] h above up = tt
walk_block u p (q ∷ paths) h above up = by_test (leads_to u q)
    (λ e. block_append u (fresh p q) (paths_from q paths) (fresh_below u p q h e) (walk_block u q paths e up.0 up.1))
    (λ e. let short = fresh_short u p q h e above.0 in
    block_stops u (fresh p q) (paths_from q paths) short.0 short.1 short.2 short.3
    (none_led u (fresh p q ++ paths_from q paths) (none_below u p q paths h above.0 e up.0)))

-- ---- of each row and those after it: every front of the row has its block there

abbrev pub AllTails : (Path → List Path → Type 0) → List Path → Type 0
AllTails P [] = Unit {0}
AllTails P (x ∷ rest) = P x rest × AllTails P rest

-- the blocks of the fronts of a row, after it
abbrev pub HasBlocks : Path → List Path → Type 0
HasBlocks x rest = (u : Path) → leads_to u x ≡ true → Block u rest

-- a row leads to each that follows in its chain
abbrev Chain : List Path → Type 0
Chain rows = AllTails (λ x rest. AllByRecursion (IsBelow x) rest) rows

chain_map : (a : List ℕ) (m : List Path) → Chain m → Chain (map (λ y. a ∷ y) m)
chain_map a [] h = tt
chain_map a (x ∷ m) h = (map_below a x m h.0, chain_map a m h.1)

chain_prefixes : (p : Path) → Chain (prefixes p)
chain_prefixes [] = tt
chain_prefixes (x ∷ p) = (
  map_below x [] (prefixes p) (below_root (prefixes p) (prefix_parts p)),
  chain_map x (prefixes p)
      (chain_prefixes p),
)

chain_fresh : (b x : Path) → Chain (fresh b x)
chain_fresh b [] = tt
chain_fresh [] (x ∷ p) = chain_prefixes (x ∷ p)
chain_fresh (o ∷ b) (x ∷ p) = by_test (is_eq (bytes_cmp o x))
    (λ e. rw e (chain_map x (fresh b p) (chain_fresh b p)))
    (λ e. rw e (chain_prefixes (x ∷ p)))

pub leads_length : (u x : Path) → leads_to u x ≡ true → length u ≤ length x
leads_length [] x h = omega arith
leads_length (a ∷ u) [] h = cc
leads_length (a ∷ u) (b ∷ x) h =
    let rest = leads_length u x (and_parts (is_eq (bytes_cmp a b)) (leads_to u x) h).1 in omega arith

below_front : (u x : Path) (m : List Path) → leads_to u x ≡ true → AllByRecursion (IsBelow x) m
    → AllByRecursion (IsBelow u) m
below_front u x [] h k = tt
below_front u x (y ∷ m) h k =
    let short = leads_length u x h in ((omega (arith, k.0.0), leads_on u x y h k.0.1), below_front u x m h k.1)

-- rows in a chain, all of which lead to one path, and then the walk from there
chain_tails : (q : Path) (paths m : List Path) → ((y : Path) → Member y m → leads_to y q ≡ true) → Chain m
    → Above q paths → Rises paths
    → AllTails HasBlocks (paths_from q paths) → AllTails HasBlocks (m ++ paths_from q paths)
chain_tails q paths [] led chain above up rest = rest
chain_tails q paths (x ∷ m) led chain above up rest = (
  (λ u h. block_append u m (paths_from q paths) (below_front u x m h chain.0)
      (walk_block u q paths (leads_on u x q h (led x (inl refl))) above up)),
  chain_tails q paths m (λ y i. led y (inr i)) chain.1 above up rest,
)

pub walk_tails : (p : Path) (paths : List Path) → Above p paths → Rises paths → AllTails HasBlocks (paths_from p paths)
walk_tails p [] above up = tt
walk_tails p (q ∷ paths) above up =
    chain_tails q paths (fresh p q) (λ y i. prefix_leads q y (fresh_member p q y i)) (chain_fresh p q) up.0 up.1
    (walk_tails q paths up.0 up.1)

-- ---- parents

pub parent_leads : (y : Path) → leads_to (parent_of y) y ≡ true
parent_leads [] = refl
parent_leads (a ∷ []) = refl
parent_leads (a ∷ b ∷ y) = let first = part_itself a in rw first (parent_leads (b ∷ y))

pub parent_is : (u y : Path) → leads_to u y ≡ true → length y ≡ length u + 1 → parent_of y ≡ u
parent_is [] [] h e = absurd (omega arith)
parent_is [] (a ∷ []) h e = refl
parent_is [] (a ∷ b ∷ y) h e = absurd (omega arith)
parent_is (a ∷ u) [] h e = cc
parent_is (a ∷ u) (b ∷ []) h e = absurd (omega arith)
parent_is (a ∷ u) (b ∷ c ∷ y) h e =
    let both = and_parts (is_eq (bytes_cmp a b)) (leads_to u (c ∷ y)) h in
    ap₂ (λ (x : List ℕ) (z : Path). x ∷ z) (sym (part_same a b both.0)) (parent_is u (c ∷ y) both.1 (omega arith))

pub parent_length : (a : List ℕ) (y : Path) → length (a ∷ y) ≡ length (parent_of (a ∷ y)) + 1
parent_length a [] = refl
parent_length a (b ∷ y) = let rest = parent_length b y in omega arith

-- ---- the first child, and the next sibling, are found by the lengths of the rows alone

pub same_path : (x y : Path) → is_path x y ≡ true → x ≡ y
same_path x y e = path_apart x y (is_eq_Equal (path_cmp x y) e)

pub path_itself : (x : Path) → is_path x x ≡ true
path_itself x = ap is_eq (tied_itself path_total x)

not_path : (x y : Path) → (x ≡ y → ⊥) → is_path x y ≡ false
not_path x y h = by_test (is_path x y) (λ e. absurd (h (same_path x y e))) (λ e. e)

abbrev pub child_of : Path → Path → Bool
child_of u y = is_path (parent_of y) u

find_none : (u : Path) (rest : List Path) → NoneLed u rest → find (child_of u) rest ≡ None
find_none u [] none = refl
find_none u (y ∷ rest) none =
    let other = not_path (parent_of y) u (λ is. false≢true (sym none.0 ∙ subst (λ (p : Path). leads_to p y
    ≡ true) is (parent_leads y))) in
    rw other (find_none u rest none.1)

longer_not_child : (u y : Path) → length y ≢ length u + 1 → length u < length y → parent_of y ≡ u → ⊥
longer_not_child u [] other longer is = absurd (omega arith)
longer_not_child u (a ∷ y) other longer is =
    let long = parent_length a y in let same : length (parent_of (a ∷ y))
    ≡ length u = ap length is in other (omega arith)

pub children_by_length : (u : Path) (rest : List Path) → Block u rest
    → find (child_of u) rest ≡ scan (length u + 1) rest
children_by_length u [] block = refl
children_by_length u (y ∷ rest) (inl (below, block)) = by_test (length y == length u + 1)
    (λ e. let is = eqb-true (length y) (length u + 1) e in
    let up = le-ltb (length y) (length u + 1) (omega arith) in
    let found : child_of u y ≡ true = subst (λ (p : Path). is_path p u
    ≡ true) (sym (parent_is u y below.1 is)) (path_itself u) in
    rw (up, e, found) refl)
    (λ e. let is = eqb-false (length y) (length u + 1) e in
    let up = le-ltb (length y) (length u + 1) (omega (arith, below.0)) in
    let other = not_path (parent_of y) u (longer_not_child u y is below.0) in
    rw (up, e, other) (children_by_length u rest block))
children_by_length u (y ∷ rest) (inr (short, none)) =
    let stop = lt-ltb (length y) (length u + 1) (omega arith) in
    rw stop (find_none u (y ∷ rest) none)
