-- The counts along the rows are the ranks of the paths that lead to each.
use Rattle.std.specs.Prelude.{◌≡◌, ◌⊎◌, ◌+◌, ◌-◌, ◌≤◌, ℕ, Bool, true, false, List, [], ◌∷◌, ◌++◌, length, map}
use Rattle.std.specs.Prelude.{filter, if◌then◌else◌}
use Rattle.std.specs.Ordering.{is_eq}
use Rattle.std.specs.declared.cmp.Ordering.TheVariants.{Less, Equal}
use Rattle.std.proofs.Common.{refl, sym, ◌∙◌, ap, ap₂, subst, inl, inr, arith, append_assoc}
use Rattle.std.proofs.lemmas.Map.Lookups.{exact_bytes}
use Rattle.dd_elem.specs.Ordered.{bytes_cmp}
use Rattle.dd_catalogue.specs.Rising.{by_test, is_eq_Equal}
use Rattle.dd_catalogue.proofs.Members.{Member}
use Rattle.dd_layout.specs.Neighbours.{counted, counts_after}
use Rattle.dd_layout.specs.Paths.{Path, path_cmp, is_path, prefixes, parent_of, leads_to, are_siblings}
use Rattle.dd_layout.specs.Tree.{rank, ranks_along}
use Rattle.dd_layout.specs.Walk.{fresh, paths_from}
use Rattle.dd_layout.proofs.RowsByWalk.{member_mapped, member_map, Rises, Above, fresh_member, prefix_parts}
use Rattle.dd_layout.proofs.Trees.{leads_member}
use Rattle.dd_layout.proofs.Blocks.{and_parts, leads_itself, leads_length, leads_on, parent_length, same_path}
use Rattle.dd_layout.proofs.Blocks.{path_itself, prefix_leads, child_of}
use Rattle.dd_layout.proofs.Splits.{HaveParts, no_children_yet, not_child_before, all_before, parts_front, parts_at}
use Rattle.dd_layout.proofs.Splits.{rank_is}

-- how many of these rows are siblings of the path
abbrev pub siblings_in : List Path → Path → ℕ
siblings_in rows x = length (filter (λ y. are_siblings y x) rows)

abbrev pub counts : List Path → Path → List ℕ
counts rows x = map (siblings_in rows) (prefixes x)

-- ---- the parent of each row leads to the row before it

abbrev pub Linked : Path → List Path → Type 0
Linked x [] = Unit {0}
Linked x (y ∷ m) = (leads_to (parent_of y) x ≡ true) × Linked y m

abbrev pub EndsIn : Path → List Path → Type 0
EndsIn q [] = ⊥
EndsIn q (y ∷ []) = y ≡ q
EndsIn q (y ∷ z ∷ m) = EndsIn q (z ∷ m)

linked_append : (p q : Path) (m n : List Path) → Linked p m → EndsIn q m → Linked q n → Linked p (m ++ n)
linked_append p q [] n h e k = absurd e
linked_append p q (y ∷ []) n h e k = (h.0, subst (λ (z : Path). Linked z n) (sym e) k)
linked_append p q (y ∷ z ∷ m) n h e k = (h.0, linked_append y q (z ∷ m) n h.1 e k)

ends_map : (a : List ℕ) (q : Path) (m : List Path) → EndsIn q m → EndsIn (a ∷ q) (map (λ y. a ∷ y) m)
ends_map a q [] e = absurd e
ends_map a q (y ∷ []) e = ap (λ z. a ∷ z) e
ends_map a q (y ∷ z ∷ m) e = ends_map a q (z ∷ m) e

ends_more : (q x : Path) (m : List Path) → EndsIn q m → EndsIn q (x ∷ m)
ends_more q x [] e = absurd e
ends_more q x (y ∷ m) e = e

ends_prefixes : (a : List ℕ) (p : Path) → EndsIn (a ∷ p) (prefixes (a ∷ p))
ends_prefixes a [] = refl
ends_prefixes a (b ∷ p) =
    ends_more (a ∷ b ∷ p) (a ∷ []) (map
    (λ y. a ∷ y) (prefixes (b ∷ p))) (ends_map a (b ∷ p) (prefixes (b ∷ p)) (ends_prefixes b p))

part_first : (a : List ℕ) (x y : Path) → leads_to x y ≡ true → leads_to (a ∷ x) (a ∷ y) ≡ true
part_first a x y h = let same = leads_itself (a ∷ []) in let part = and_parts (is_eq (bytes_cmp a a)) true same in
    rw part.0 h

-- the parent of a path that has one part more in front
parent_later : (a : List ℕ) (y : Path) → (part : List ℕ) × (path : Path) × (y ≡ part ∷ path)
    → parent_of (a ∷ y) ≡ a ∷ parent_of y
parent_later a y (part, path, is) = subst (λ (z : Path). parent_of (a ∷ z) ≡ a ∷ parent_of z) (sym is) refl

linked_map : (a : List ℕ) (x : Path) (m : List Path) → ((y : Path) → Member y m
    → (part : List ℕ) × (path : Path) × (y ≡ part ∷ path))
    → Linked x m → Linked (a ∷ x) (map (λ y. a ∷ y) m)
linked_map a x [] parts h = tt
linked_map a x (y ∷ m) parts h = (
  subst (λ (u : Path). leads_to u (a ∷ x)
      ≡ true) (sym (parent_later a y (parts y (inl refl)))) (part_first a (parent_of y) x h.0),
  linked_map a y m (λ z i. parts z (inr i)) h.1,
)

linked_prefixes : (x p : Path) → Linked x (prefixes p)
linked_prefixes x [] = tt
linked_prefixes x (a ∷ p) = (refl, linked_map a [] (prefixes p) (prefix_parts p) (linked_prefixes [] p))

linked_fresh : (b x : Path) → Linked b (fresh b x)
linked_fresh b [] = tt
linked_fresh [] (x ∷ p) = linked_prefixes [] (x ∷ p)
linked_fresh (o ∷ b) (x ∷ p) = by_test (is_eq (bytes_cmp o x))
    (λ e. let same : o ≡ x = exact_bytes o x (is_eq_Equal (bytes_cmp o x) e) in
    rw e (subst (λ (a : List ℕ). Linked (a ∷ b) (map (λ y. x ∷ y) (fresh b p))) (sym same)
    (linked_map x b (fresh b p) (λ y i. prefix_parts p y (fresh_member b p y i)) (linked_fresh b p))))
    (λ e. rw e (linked_prefixes (o ∷ b) (x ∷ p)))

ends_fresh : (b x : Path) → path_cmp b x ≡ Less → EndsIn x (fresh b x)
ends_fresh [] [] e = cc
ends_fresh (o ∷ b) [] e = cc
ends_fresh [] (x ∷ p) e = ends_prefixes x p
ends_fresh (o ∷ b) (x ∷ p) e = by_test (is_eq (bytes_cmp o x))
    (λ f. let tie : bytes_cmp o x ≡ Equal = is_eq_Equal (bytes_cmp o x) f in
    let rest : path_cmp b p ≡ Less = rw tie at e in
    rw f (ends_map x p (fresh b p) (ends_fresh b p rest)))
    (λ f. rw f (ends_prefixes x p))

pub walk_linked : (p : Path) (paths : List Path) → Above p paths → Rises paths → Linked p (paths_from p paths)
walk_linked p [] above up = tt
walk_linked p (q ∷ paths) above up =
    linked_append p q (fresh p q) (paths_from q paths) (linked_fresh p q) (ends_fresh p q above.0)
    (walk_linked q paths up.0 up.1)

-- ---- one row more

pub counted_map : (f g : Path → ℕ) (u x : Path) (b : List ℕ) → leads_to u x ≡ true
    → ((q : Path) → Member q (prefixes u) → g q ≡ f q)
    → ((c : List ℕ) (w : Path) → x ≡ u ++ c ∷ w → g (u ++ b ∷ []) ≡ f (u ++ c ∷ []) + 1)
    → (x ≡ u → g (u ++ b ∷ []) ≡ 1)
    → map g (prefixes (u ++ b ∷ [])) ≡ counted (length u) (map f (prefixes x))
counted_map f g [] [] b h same more last = ap (λ n. n ∷ []) (last refl)
counted_map f g [] (c ∷ w) b h same more last = ap (λ n. n ∷ []) (more c w refl)
counted_map f g (a ∷ u) [] b h same more last = cc
counted_map f g (a ∷ u) (a' ∷ x) b h same more last =
    let both = and_parts (is_eq (bytes_cmp a a')) (leads_to u x) h in
    let part : a ≡ a' = exact_bytes a a' (is_eq_Equal (bytes_cmp a a') both.0) in
    let rest : map (λ q. g (a ∷ q)) (prefixes (u ++ b ∷ [])) ≡ counted (length u) (map (λ q. f (a ∷ q)) (prefixes x)) =
    counted_map (λ q. f (a ∷ q)) (λ q. g (a ∷ q)) u x b both.1
    (λ q i. same (a ∷ q) (inr (member_later a q (prefixes u) i)))
    (λ c w e. more c w (ap₂ (λ (d : List ℕ) (z : Path). d ∷ z) (sym part) e))
    (λ e. last (ap₂ (λ (d : List ℕ) (z : Path). d ∷ z) (sym part) e)) in
    ap₂ (λ (n : ℕ) (l : List ℕ). n ∷ l) (same (a ∷ []) (inl refl)) (map_later g a (prefixes (u ++ b ∷ [])) ∙ rest)
    ∙ sym (counted_later f a a' u x (sym part))
  where
    member_later : (a : List ℕ) (q : Path) (m : List Path) → Member q m → Member (a ∷ q) (map (λ r. a ∷ r) m)
    member_later a q [] i = absurd i
    member_later a q (p ∷ m) (inl e) = inl (ap (λ r. a ∷ r) e)
    member_later a q (p ∷ m) (inr i) = inr (member_later a q m i)

    map_later : (h : Path → ℕ) (a : List ℕ) (m : List Path) → map h (map (λ r. a ∷ r) m) ≡ map (λ r. h (a ∷ r)) m
    map_later h a [] = refl
    map_later h a (p ∷ m) = ap (λ l. h (a ∷ p) ∷ l) (map_later h a m)

    counted_later : (f : Path → ℕ) (a a' : List ℕ) (u x : Path) → a' ≡ a
        → counted (length (a ∷ u)) (map f (prefixes (a' ∷ x)))
        ≡ f (a ∷ []) ∷ counted (length u) (map (λ q. f (a ∷ q)) (prefixes x))
    counted_later f a a' u x e =
        ap (λ (d : List ℕ). counted (length (a ∷ u)) (map f (prefixes (d ∷ x)))) e
        ∙ ap (λ (l : List ℕ). f (a ∷ []) ∷ counted (length u) l) (map_later f a (prefixes x))

-- ---- a row is its parent and one part more

pub last_part : (a : List ℕ) (y : Path) → (b : List ℕ) × (a ∷ y ≡ parent_of (a ∷ y) ++ b ∷ [])
last_part a [] = (a, refl)
last_part a (c ∷ y) = let rest = last_part c y in (rest.0, ap (λ z. a ∷ z) rest.1)

prefix_short : (u q : Path) → Member q (prefixes u) → length q ≤ length u
prefix_short u q i = leads_length q u (prefix_leads u q i)

not_sibling : (y q : Path) → (a : List ℕ) (z : Path) → q ≡ a ∷ z → length q ≤ length (parent_of y)
    → are_siblings y q ≡ false
not_sibling y q a z is short = by_test (are_siblings y q)
    (λ e. let same : parent_of y ≡ parent_of q = same_path (parent_of y) (parent_of q) e in
    let one : length (parent_of y) ≡ length (parent_of q) = ap length same in
    let up : length q ≡ length (parent_of q) + 1 =
    subst (λ (w : Path). length w ≡ length (parent_of w) + 1) (sym is) (parent_length a z) in absurd (omega arith))
    (λ e. e)

filter_more : (s : Path → Bool) (m : List Path) (y : Path) (b : Bool) → s y ≡ b
    → length (filter s (m ++ y ∷ [])) ≡ length (filter s m) + (if b then 1 else 0)
filter_more s [] y true e = rw e refl
filter_more s [] y false e = rw e refl
filter_more s (x ∷ m) y b e = by_test (s x)
    (λ h. let rest = filter_more s m y b e in rw h (omega arith))
    (λ h. let rest = filter_more s m y b e in rw h rest)

same_filter : (s t : Path → Bool) (m : List Path) → ((w : Path) → s w ≡ t w) → filter s m ≡ filter t m
same_filter s t [] h = refl
same_filter s t (x ∷ m) h = by_test (t x)
    (λ e. let both : s x ≡ true = h x ∙ e in rw (both, e) (ap (λ l. x ∷ l) (same_filter s t m h)))
    (λ e. let both : s x ≡ false = h x ∙ e in rw (both, e) (same_filter s t m h))

-- ---- the rows that have come, the last of which is x, and the counts after it

-- they end in x, or there are none
abbrev pub ComesTo : List Path → Path → Type 0
ComesTo done x = ((done ≡ []) × (x ≡ [])) ⊎ ((front : List Path) × (done ≡ front ++ x ∷ []))

pub record Counted (tree done : List Path) (x : Path) (cs : List ℕ) : Type 0 where
  pub comes : ComesTo done x
  pub is : cs ≡ counts done x
  pub ranks : (q : Path) → Member q (prefixes x) → siblings_in done q ≡ rank tree q

none_yet : (done : List Path) (x : Path) (y : Path) (rest : List Path) → ComesTo done x → Rises (done ++ y ∷ rest)
    → HaveParts (done ++ y ∷ rest)
    → filter (child_of x) done ≡ []
none_yet done x y rest (inl (none, is)) up parts = subst (λ (m : List Path). filter (child_of x) m ≡ []) (sym none) refl
none_yet done x y rest (inr (front, is)) up parts =
    let up' : Rises (front ++ x ∷ (y ∷ rest)) = subst Rises (ap (λ (m : List Path). m ++ y ∷ rest) is
    ∙ append_assoc front (x ∷ []) (y ∷ rest)) up in
    let parts' : HaveParts (front ++ x ∷ (y ∷ rest)) =
    subst HaveParts (ap (λ (m : List Path). m ++ y ∷ rest) is ∙ append_assoc front (x ∷ []) (y ∷ rest)) parts in
    subst (λ (m : List Path). filter (child_of x) m ≡ []) (sym is)
    (append_none_last x front (no_children_yet x front (parts_front front (x ∷ (y ∷ rest)) parts')
    (all_before front x (y ∷ rest) up'))
    (not_child_before x x (parts_at front x (y ∷ rest) parts') (inr refl)))
  where
    append_none_last : (x : Path) (front : List Path) → filter (child_of x) front ≡ [] → child_of x x ≡ false
        → filter (child_of x) (front ++ x ∷ []) ≡ []
    append_none_last x [] h e = rw e refl
    append_none_last x (z ∷ front) h e = by_test (child_of x z)
        (λ f. let is = rw f at h in cc)
        (λ f. let is = rw f at h in rw f (append_none_last x front is e))

-- ---- one row more

parent_append : (u : Path) (c : List ℕ) → parent_of (u ++ c ∷ []) ≡ u
parent_append [] c = refl
parent_append (a ∷ []) c = refl
parent_append (a ∷ b ∷ u) c = ap (λ z. a ∷ z) (parent_append (b ∷ u) c)

prefix_of_more : (u : Path) (b : List ℕ) (q : Path) → Member q (prefixes (u ++ b ∷ []))
    → Member q (prefixes u) ⊎ (q ≡ u ++ b ∷ [])
prefix_of_more [] b q (inl e) = inr (sym e)
prefix_of_more [] b q (inr i) = absurd i
prefix_of_more (a ∷ u) b q (inl e) = inl (inl e)
prefix_of_more (a ∷ u) b q (inr i) =
    let there = member_mapped a q (prefixes (u ++ b ∷ [])) i in
    later_part a u b q there.0 there.2 (prefix_of_more u b there.0 there.1)
  where
    later_part : (a : List ℕ) (u : Path) (b : List ℕ) (q r : Path) → (a ∷ r ≡ q)
        → Member r (prefixes u) ⊎ (r ≡ u ++ b ∷ [])
        → Member q (prefixes (a ∷ u)) ⊎ (q ≡ a ∷ (u ++ b ∷ []))
    later_part a u b q r is (inl j) =
        inl (inr (subst (λ (z : Path). Member z (map (λ s. a ∷ s) (prefixes u))) is (member_map a r (prefixes u) j)))
    later_part a u b q r is (inr e) = inr (sym is ∙ ap (λ z. a ∷ z) e)

prefix_on : (q u x : Path) → Member q (prefixes u) → leads_to u x ≡ true → Member q (prefixes x)
prefix_on q u x i led =
    let parts = prefix_parts u q i in
    leads_member q x (λ e. let is = sym e ∙ parts.2 in cc) (leads_on q u x (prefix_leads u q i) led)

-- the siblings that have come, where one more row has, which is one or is not
one_more : (done : List Path) (y q : Path) → are_siblings y q ≡ true
    → siblings_in (done ++ y ∷ []) q ≡ siblings_in done q + 1
one_more done y q e = filter_more (λ w. are_siblings w q) done y true e

none_more : (done : List Path) (y q : Path) → are_siblings y q ≡ false
    → siblings_in (done ++ y ∷ []) q ≡ siblings_in done q
none_more done y q e = let more = filter_more (λ w. are_siblings w q) done y false e in omega (arith, more)

same_siblings : (done : List Path) (y z : Path) → parent_of y ≡ parent_of z → siblings_in done y ≡ siblings_in done z
same_siblings done y z e =
    ap length (same_filter (λ w. are_siblings w y) (λ w. are_siblings w z) done (λ w. ap
    (λ (p : Path). is_path (parent_of w) p) e))

children_came : (done : List Path) (x y : Path) → parent_of y ≡ x → filter (child_of x) done ≡ []
    → siblings_in done y ≡ 0
children_came done x y e none =
    ap length (same_filter (λ w. are_siblings w y) (child_of x) done (λ w. ap
    (λ (p : Path). is_path (parent_of w) p) e) ∙ none)

module _ (done : List Path) (x y : Path) (rest : List Path) (b : List ℕ) (is : y
    ≡ parent_of y ++ b ∷ []) (led : leads_to (parent_of y) x ≡ true)
    (comes : ComesTo done x) (up : Rises (done ++ y ∷ rest)) (parts : HaveParts (done ++ y ∷ rest)) where
  old_prefix : (q : Path) → Member q (prefixes (parent_of y)) → siblings_in (done ++ y ∷ []) q ≡ siblings_in done q
  old_prefix q i =
      let p = prefix_parts (parent_of y) q i in
      none_more done y q (not_sibling y q p.0 p.1 p.2 (prefix_short (parent_of y) q i))

  more_of : (c : List ℕ) (w : Path) → x ≡ parent_of y ++ c ∷ w
      → siblings_in (done ++ y ∷ []) (parent_of y ++ b ∷ []) ≡ siblings_in done (parent_of y ++ c ∷ []) + 1
  more_of c w e =
      ap (siblings_in (done ++ y ∷ [])) (sym is) ∙ one_more done y y (path_itself (parent_of y))
      ∙ ap (λ (n : ℕ). n + 1) (same_siblings done y (parent_of y ++ c ∷ []) (sym (parent_append (parent_of y) c)))

  first_of_parent : x ≡ parent_of y → siblings_in (done ++ y ∷ []) (parent_of y ++ b ∷ []) ≡ 1
  first_of_parent e =
      ap (siblings_in (done ++ y ∷ [])) (sym is) ∙ one_more done y y (path_itself (parent_of y))
      ∙ ap (λ (n : ℕ). n + 1) (children_came done x y (sym e) (none_yet done x y rest comes up parts))

  pub counts_more : counts (done ++ y ∷ []) y ≡ counted (length (parent_of y)) (counts done x)
  counts_more =
      ap (λ (z : Path). counts (done ++ y ∷ []) z) is
      ∙ counted_map (siblings_in done) (siblings_in (done ++ y ∷ []))
      (parent_of y) x b led old_prefix more_of first_of_parent

  pub ranks_more : ((q : Path) → Member q (prefixes x) → siblings_in done q ≡ rank (done ++ y ∷ rest) q)
      → (q : Path) → Member q (prefixes y) → siblings_in (done ++ y ∷ []) q ≡ rank (done ++ y ∷ rest) q
  ranks_more old q i =
      let j : Member q (prefixes (parent_of y ++ b ∷ [])) = subst (λ (z : Path). Member q (prefixes z)) is i in
      elim (prefix_of_more (parent_of y) b q j) [
        | inl k ↦ old_prefix q k ∙ old q (prefix_on q (parent_of y) x k led)
        | inr e ↦ own q (e ∙ sym is)
      ]
    where
      own : (q : Path) → q ≡ y → siblings_in (done ++ y ∷ []) q ≡ rank (done ++ y ∷ rest) q
      own q e = subst (λ (z : Path). siblings_in (done ++ y ∷ []) z ≡ rank (done ++ y ∷ rest) z) (sym e)
          (let one = one_more done y y (path_itself (parent_of y)) in let two = rank_is done y rest up in
          omega (arith, one, two))

counted_step : (tree done : List Path) (x y : Path) (rest : List Path) (cs : List ℕ) → tree ≡ done ++ y ∷ rest
    → Rises tree → HaveParts tree
    → leads_to (parent_of y) x ≡ true → Counted tree done x cs
    → Counted tree (done ++ y ∷ []) y (counted (length y - 1) cs)
counted_step tree done x y rest cs is up parts led old =
    let up' : Rises (done ++ y ∷ rest) = subst Rises is up in
    let parts' : HaveParts (done ++ y ∷ rest) = subst HaveParts is parts in
    let own = parts_at done y rest parts' in
    let last : (b : List ℕ) × (y ≡ parent_of y ++ b ∷ []) =
    subst (λ (z : Path). (b : List ℕ) × (z ≡ parent_of z ++ b ∷ [])) (sym own.2) (last_part own.0 own.1) in
    let long : length y ≡ length (parent_of y) + 1 =
    subst (λ (z : Path). length z ≡ length (parent_of z) + 1) (sym own.2) (parent_length own.0 own.1) in
    let depth : length y - 1 ≡ length (parent_of y) = omega (arith, long) in
    let old_ranks : (q : Path) → Member q (prefixes x) → siblings_in done q ≡ rank (done ++ y ∷ rest) q =
    λ q i. old.ranks q i ∙ ap (λ (t : List Path). rank t q) is in
    record {
      comes = inr (done, refl);
      is = ap (λ (n : ℕ). counted n cs) depth ∙ ap (counted (length (parent_of y))) old.is
          ∙ sym (counts_more done x y rest last.0 last.1 led old.comes up' parts');
      ranks = λ q i. ranks_more done x y rest last.0 last.1 led old.comes up' parts' old_ranks q i
          ∙ ap (λ (t : List Path). rank t q) (sym is);
    }

map_same : (f g : Path → ℕ) (m : List Path) → ((q : Path) → Member q m → f q ≡ g q) → map f m ≡ map g m
map_same f g [] h = refl
map_same f g (q ∷ m) h = ap₂ (λ (n : ℕ) (l : List ℕ). n ∷ l) (h q (inl refl)) (map_same f g m (λ r i. h r (inr i)))

pub along : (tree done : List Path) (x : Path) (front : List Path) (y : Path) (rest : List Path) (cs : List ℕ)
    → tree ≡ done ++ (front ++ y ∷ rest) → Rises tree → HaveParts tree → Linked x (front ++ y ∷ rest)
    → Counted tree done x cs
    → counts_after cs (front ++ y ∷ []) ≡ ranks_along tree y
along tree done x [] y rest cs is up parts linked old =
    let new = counted_step tree done x y rest cs is up parts linked.0 old in
    new.is ∙ map_same (siblings_in (done ++ y ∷ [])) (rank tree) (prefixes y) new.ranks
along tree done x (z ∷ front) y rest cs is up parts linked old =
    let new = counted_step tree done x z (front ++ y ∷ rest) cs is up parts linked.0 old in
    along tree (done ++ z ∷ []) z front y rest (counted (length z - 1) cs)
    (is ∙ sym (append_assoc done (z ∷ []) (front ++ y ∷ rest))) up parts linked.1 new

pub from_none : (tree : List Path) → Counted tree [] [] []
from_none tree = record { comes = inl (refl, refl); is = refl; ranks = λ q i. absurd i }
