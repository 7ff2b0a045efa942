-- The rows of one walk along paths that rise are the tree of these paths.
use Rattle.std.specs.Prelude.{◌≡◌, ◌⊎◌, ℕ, List, [], ◌∷◌, ◌++◌, map, false}
use Rattle.std.specs.List.{flat_map}
use Rattle.std.specs.Cmp.{IsTotalOrder}
use Rattle.std.specs.Cmp.Lexicographic.{lists_total}
use Rattle.std.specs.Ordering.{is_eq, ordering_then}
use Rattle.std.specs.declared.cmp.Ordering.{Ordering}
use Rattle.std.specs.declared.cmp.Ordering.TheVariants.{Less, Equal, Greater}
use Rattle.std.proofs.Common.{refl, sym, ◌∙◌, ap, ap₂, subst, inl, inr}
use Rattle.std.proofs.lemmas.Cmp.{nat_list_cmp_total, tied_itself}
use Rattle.std.proofs.lemmas.Map.Lookups.{exact_bytes}
use Rattle.dd_elem.specs.Ordered.{bytes_cmp, TellsApart}
use Rattle.dd_catalogue.specs.Best.{IsAbove, IsRising, SameMembers}
use Rattle.dd_catalogue.specs.Rising.{Orders, by_test, is_eq_Equal, above_trans}
use Rattle.dd_catalogue.specs.BestLaws.{best_of_rising}
use Rattle.dd_catalogue.proofs.Members.{Member, member_of, contained}
use Rattle.dd_catalogue.proofs.BestMembers.{best_of_same}
use Rattle.dd_layout.specs.Paths.{Path, path_cmp, prefixes}
use Rattle.dd_layout.specs.Tree.{tree_of}
use Rattle.dd_layout.specs.Walk.{fresh, paths_from}

-- ---- the order of paths

pub path_total : IsTotalOrder path_cmp
path_total = lists_total nat_list_cmp_total

then_equal : (r s : Ordering) → ordering_then r s ≡ Equal → (r ≡ Equal) × (s ≡ Equal)
then_equal Less s e = cc
then_equal Equal s e = (refl, e)
then_equal Greater s e = cc

pub path_apart : TellsApart path_cmp
path_apart [] [] e = refl
path_apart [] (y ∷ ys) e = cc
path_apart (x ∷ xs) [] e = cc
path_apart (x ∷ xs) (y ∷ ys) e =
    let both = then_equal (bytes_cmp x y) (path_cmp xs ys) e in
    ap₂ (λ (a : List ℕ) (b : List (List ℕ)). a ∷ b) (exact_bytes x y both.0) (path_apart xs ys both.1)

pub paths_ordered : Orders (λ (path : Path). path) path_cmp path_cmp
paths_ordered = record {
  keys_total = path_total;
  keys_apart = path_apart;
  values_total = path_total;
  values_apart = path_apart;
}

-- the paths rise
abbrev pub Rises : List Path → Type 0
Rises paths = IsRising (λ path. path) path_cmp paths

abbrev pub Above : Path → List Path → Type 0
Above path paths = IsAbove (λ p. p) path_cmp path paths

pub cons_less : (x : List ℕ) (p q : Path) → path_cmp p q ≡ Less → path_cmp (x ∷ p) (x ∷ q) ≡ Less
cons_less x p q e = rw (tied_itself nat_list_cmp_total x) e

-- ---- lists that rise

map_above : (x : List ℕ) (p : Path) (m : List Path) → Above p m → Above (x ∷ p) (map (λ q. x ∷ q) m)
map_above x p [] h = tt
map_above x p (q ∷ m) h = (cons_less x p q h.0, map_above x p m h.1)

map_rises : (x : List ℕ) (m : List Path) → Rises m → Rises (map (λ q. x ∷ q) m)
map_rises x [] h = tt
map_rises x (q ∷ m) h = (map_above x q m h.0, map_rises x m h.1)

pub append_above : (p : Path) (m n : List Path) → Above p m → Above p n → Above p (m ++ n)
append_above p [] n h k = k
append_above p (q ∷ m) n h k = (h.0, append_above p m n h.1 k)

-- each is at most this one
abbrev pub UpTo : Path → List Path → Type 0
UpTo x [] = Unit {0}
UpTo x (q ∷ m) = ((path_cmp q x ≡ Less) ⊎ (q ≡ x)) × UpTo x m

over : (q x : Path) (n : List Path) → (path_cmp q x ≡ Less) ⊎ (q ≡ x) → Above x n → Above q n
over q x n (inl e) h = above_trans (λ p. p) path_total q x n e h
over q x n (inr e) h = subst (λ y. Above y n) (sym e) h

pub append_rises : (x : Path) (m n : List Path) → Rises m → UpTo x m → Above x n → Rises n → Rises (m ++ n)
append_rises x [] n h u a k = k
append_rises x (q ∷ m) n h u a k = (append_above q m n h.0 (over q x n u.0 a), append_rises x m n h.1 u.1 a k)

-- ---- prefixes

prefixes_above : (x : List ℕ) (p : Path) (m : List Path) → Above p m → Above (x ∷ p) (map (λ q. x ∷ q) m)
prefixes_above x p m h = map_above x p m h

pub empty_above : (m : List Path) → ((q : Path) → Member q m → (y : List ℕ) × (r : Path) × (q ≡ y ∷ r)) → Above [] m
empty_above [] h = tt
empty_above (q ∷ m) h =
    let is = h q (inl refl) in
    (subst (λ (z : Path). path_cmp [] z ≡ Less) (sym is.2) refl, empty_above m (λ z i. h z (inr i)))

pub prefix_parts : (p q : Path) → Member q (prefixes p) → (y : List ℕ) × (r : Path) × (q ≡ y ∷ r)
prefix_parts [] q i = absurd i
prefix_parts (x ∷ p) q (inl e) = (x, [], sym e)
prefix_parts (x ∷ p) q (inr i) = mapped x (prefixes p) q i where
  mapped : (x : List ℕ) (m : List Path) (q : Path) → Member q (map (λ r. x ∷ r) m)
      → (y : List ℕ) × (r : Path) × (q ≡ y ∷ r)
  mapped x [] q i = absurd i
  mapped x (r ∷ m) q (inl e) = (x, r, sym e)
  mapped x (r ∷ m) q (inr i) = mapped x m q i

pub prefixes_rise : (p : Path) → Rises (prefixes p)
prefixes_rise [] = tt
prefixes_rise (x ∷ p) = (
  map_above x [] (prefixes p) (empty_above (prefixes p) (prefix_parts p)),
  map_rises x
      (prefixes p) (prefixes_rise p),
)

map_up_to : (x : List ℕ) (p : Path) (m : List Path) → UpTo p m → UpTo (x ∷ p) (map (λ q. x ∷ q) m)
map_up_to x p [] h = tt
map_up_to x p (q ∷ m) (inl e, h) = (inl (cons_less x q p e), map_up_to x p m h)
map_up_to x p (q ∷ m) (inr e, h) = (inr (ap (λ r. x ∷ r) e), map_up_to x p m h)

front_up_to : (x : List ℕ) (p : Path) → (path_cmp (x ∷ []) (x ∷ p) ≡ Less) ⊎ (◌≡◌ {A = Path} (x ∷ []) (x ∷ p))
front_up_to x [] = inr refl
front_up_to x (y ∷ p) = inl (cons_less x [] (y ∷ p) refl)

pub prefixes_up_to : (p : Path) → UpTo p (prefixes p)
prefixes_up_to [] = tt
prefixes_up_to (x ∷ p) = (front_up_to x p, map_up_to x p (prefixes p) (prefixes_up_to p))

-- ---- what is fresh rises, is above the path before, and goes up to the path

pub fresh_rises : (b x : Path) → Rises (fresh b x)
fresh_rises b [] = tt
fresh_rises [] (x ∷ p) = prefixes_rise (x ∷ p)
fresh_rises (o ∷ b) (x ∷ p) = by_test (is_eq (bytes_cmp o x))
    (λ e. rw e (map_rises x (fresh b p) (fresh_rises b p)))
    (λ e. rw e (prefixes_rise (x ∷ p)))

pub fresh_up_to : (b x : Path) → UpTo x (fresh b x)
fresh_up_to b [] = tt
fresh_up_to [] (x ∷ p) = prefixes_up_to (x ∷ p)
fresh_up_to (o ∷ b) (x ∷ p) = by_test (is_eq (bytes_cmp o x))
    (λ e. rw e (map_up_to x p (fresh b p) (fresh_up_to b p)))
    (λ e. rw e (prefixes_up_to (x ∷ p)))

-- a path with a greater first part is above
first_above : (o : List ℕ) (b : Path) (x : List ℕ) (m : List Path) → bytes_cmp o x ≡ Less
    → Above (o ∷ b) (map (λ q. x ∷ q) m)
first_above o b x [] e = tt
first_above o b x (q ∷ m) e = (rw e refl, first_above o b x m e)

less_first : (r s : Ordering) → ordering_then r s ≡ Less → is_eq r ≡ false → r ≡ Less
less_first Less s e f = refl
less_first Equal s e f = cc
less_first Greater s e f = cc

pub fresh_above : (b x : Path) → path_cmp b x ≡ Less → Above b (fresh b x)
fresh_above b [] e = tt
fresh_above [] (x ∷ p) e = empty_above (prefixes (x ∷ p)) (prefix_parts (x ∷ p))
fresh_above (o ∷ b) (x ∷ p) e = by_test (is_eq (bytes_cmp o x))
    (λ f. let same : o ≡ x = exact_bytes o x (is_eq_Equal (bytes_cmp o x) f) in
    let tie : bytes_cmp o x ≡ Equal = is_eq_Equal (bytes_cmp o x) f in
    let rest : path_cmp b p ≡ Less = sym (ap (λ (r : Ordering). ordering_then r (path_cmp b p)) tie) ∙ e in
    rw f (subst (λ (y : List ℕ). Above (y ∷ b) (map
    (λ q. x ∷ q) (fresh b p))) (sym same) (map_above x b (fresh b p) (fresh_above b p rest))))
    (λ f. let less : bytes_cmp o x ≡ Less = less_first (bytes_cmp o x) (path_cmp b p) e f in
    rw f (rw less refl, first_above o b x (prefixes p) less))

-- ---- the rows rise

all_above : (p : Path) (m : List Path) → Above p m → (q : Path) (n : List Path) → m ≡ q ∷ n → path_cmp p q ≡ Less
all_above p m h q n e = (subst (λ (l : List Path). Above p l) e h).0

rows_above : (b : Path) (paths : List Path) → Above b paths → Rises paths → Above b (paths_from b paths)
rows_above b [] h up = tt
rows_above b (x ∷ paths) h up =
    append_above b (fresh b x) (paths_from x paths) (fresh_above b x h.0)
    (above_trans (λ p. p) path_total b x (paths_from x paths) h.0 (rows_above x paths up.0 up.1))

pub rows_rise : (b : Path) (paths : List Path) → Rises paths → Rises (paths_from b paths)
rows_rise b [] up = tt
rows_rise b (x ∷ paths) up =
    append_rises x (fresh b x) (paths_from x paths) (fresh_rises b x) (fresh_up_to b x)
    (rows_above x paths up.0 up.1) (rows_rise x paths up.1)

-- ---- the rows are the prefixes of the paths

pub member_left : (q : Path) (m n : List Path) → Member q m → Member q (m ++ n)
member_left q [] n i = absurd i
member_left q (p ∷ m) n (inl e) = inl e
member_left q (p ∷ m) n (inr i) = inr (member_left q m n i)

pub member_right : (q : Path) (m n : List Path) → Member q n → Member q (m ++ n)
member_right q [] n i = i
member_right q (p ∷ m) n i = inr (member_right q m n i)

pub member_either : (q : Path) (m n : List Path) → Member q (m ++ n) → Member q m ⊎ Member q n
member_either q [] n i = inr i
member_either q (p ∷ m) n (inl e) = inl (inl e)
member_either q (p ∷ m) n (inr i) = elim (member_either q m n i) [ inl j ↦ inl (inr j) | inr j ↦ inr j ]

pub member_map : (x : List ℕ) (q : Path) (m : List Path) → Member q m → Member (x ∷ q) (map (λ r. x ∷ r) m)
member_map x q [] i = absurd i
member_map x q (p ∷ m) (inl e) = inl (ap (λ r. x ∷ r) e)
member_map x q (p ∷ m) (inr i) = inr (member_map x q m i)

pub member_mapped : (x : List ℕ) (q : Path) (m : List Path) → Member q (map (λ r. x ∷ r) m)
    → (r : Path) × Member r m × (x ∷ r ≡ q)
member_mapped x q [] i = absurd i
member_mapped x q (p ∷ m) (inl e) = (p, inl refl, e)
member_mapped x q (p ∷ m) (inr i) = let there = member_mapped x q m i in (there.0, inr there.1, there.2)

-- what is fresh is a prefix
pub fresh_member : (b x q : Path) → Member q (fresh b x) → Member q (prefixes x)
fresh_member b [] q i = absurd i
fresh_member [] (x ∷ p) q i = i
fresh_member (o ∷ b) (x ∷ p) q i = by_test (is_eq (bytes_cmp o x))
    (λ e. let j : Member q (map (λ r. x ∷ r) (fresh b p)) = rw e at i in
    let there = member_mapped x q (fresh b p) j in
    inr (subst (λ (y : Path). Member y (map
    (λ r. x ∷ r) (prefixes p))) there.2 (member_map x there.0 (prefixes p) (fresh_member b p there.0 there.1))))
    (λ e. let j : Member q (prefixes (x ∷ p)) = rw e at i in j)

-- a prefix is one of the path before, or fresh
abbrev OldOrFresh : Path → Path → Path → Type 0
OldOrFresh b x q = Member q (prefixes b) ⊎ Member q (fresh b x)

later_part : (o : List ℕ) (b : Path) (x : List ℕ) (p q r : Path) → o ≡ x → (x ∷ r ≡ q) → OldOrFresh b p r
    → Member q (prefixes (o ∷ b)) ⊎ Member q (map (λ s. x ∷ s) (fresh b p))
later_part o b x p q r same is (inl j) =
    let at : o ∷ r ≡ q = ap (λ (z : List ℕ). z ∷ r) same ∙ is in
    inl (inr (subst (λ (y : Path). Member y (map (λ s. o ∷ s) (prefixes b))) at (member_map o r (prefixes b) j)))
later_part o b x p q r same is (inr j) =
    inr (subst (λ (y : Path). Member y (map (λ s. x ∷ s) (fresh b p))) is (member_map x r (fresh b p) j))

one_part : (o : List ℕ) (b : Path) (x : List ℕ) (p q : Path) → o ≡ x → ((r : Path) → Member r (prefixes p)
    → OldOrFresh b p r)
    → Member q (prefixes (x ∷ p)) → Member q (prefixes (o ∷ b)) ⊎ Member q (map (λ s. x ∷ s) (fresh b p))
one_part o b x p q same more (inl e) = inl (inl (ap (λ (z : List ℕ). z ∷ []) same ∙ e))
one_part o b x p q same more (inr i) =
    let there = member_mapped x q (prefixes p) i in
    later_part o b x p q there.0 same there.2 (more there.0 there.1)

fresh_or_before : (b x q : Path) → Member q (prefixes x) → OldOrFresh b x q
fresh_or_before b [] q i = absurd i
fresh_or_before [] (x ∷ p) q i = inr i
fresh_or_before (o ∷ b) (x ∷ p) q i = by_test (is_eq (bytes_cmp o x))
    (λ e. let same : o ≡ x = exact_bytes o x (is_eq_Equal (bytes_cmp o x) e) in
    rw e (one_part o b x p q same (λ r j. fresh_or_before b p r j) i))
    (λ e. rw e (inr i))

-- a row is a prefix of one of the paths
pub row_prefix : (b : Path) (paths : List Path) (q : Path) → Member q (paths_from b paths)
    → Member q (flat_map prefixes paths)
row_prefix b [] q i = absurd i
row_prefix b (x ∷ paths) q i = elim (member_either q (fresh b x) (paths_from x paths) i) [
  | inl j ↦ member_left q (prefixes x) (flat_map prefixes paths) (fresh_member b x q j)
  | inr j ↦ member_right q (prefixes x) (flat_map prefixes paths) (row_prefix x paths q j)
]

-- a prefix of one of the paths is a row, or a prefix of the path before
prefix_row : (b : Path) (paths : List Path) (q : Path) → Member q (flat_map prefixes paths)
    → Member q (prefixes b) ⊎ Member q (paths_from b paths)
prefix_row b [] q i = absurd i
prefix_row b (x ∷ paths) q i = elim (member_either q (prefixes x) (flat_map prefixes paths) i) [
  | inl j ↦ first (fresh_or_before b x q j)
  | inr j ↦ elim (prefix_row x paths q j) [
    | inl k ↦ first (fresh_or_before b x q k)
    | inr k ↦ inr (member_right q (fresh b x) (paths_from x paths) k)
  ]
]
  where
    first : OldOrFresh b x q → Member q (prefixes b) ⊎ Member q (fresh b x ++ paths_from x paths)
    first (inl j) = inl j
    first (inr j) = inr (member_left q (fresh b x) (paths_from x paths) j)

pub rows_members : (paths : List Path) → SameMembers (flat_map prefixes paths) (paths_from [] paths)
rows_members paths q = (
  (λ c. elim (prefix_row [] paths q (member_of q (flat_map prefixes paths) c))
      [ inl i ↦ absurd i | inr i ↦ contained q (paths_from [] paths) i ]),
  (λ c. contained q (flat_map prefixes paths) (row_prefix [] paths q (member_of q (paths_from [] paths) c))),
)

pub rows_by_walk : (paths : List Path) → Rises paths → paths_from [] paths ≡ tree_of paths
rows_by_walk paths up =
    sym (best_of_rising paths_ordered (paths_from [] paths) (rows_rise [] paths up))
    ∙ sym (best_of_same paths_ordered (flat_map prefixes paths) (paths_from [] paths) (rows_members paths))
