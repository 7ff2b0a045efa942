-- A parent has more children than a number where, and only where, one of them has a rank above that. So the topmost
-- level that the pass notes is the topmost one with such a parent.
use Rattle.std.specs.Prelude.{◌≡◌, ◌⊎◌, ◌+◌, ◌<◌, ◌≤◌, ◌==◌, ◌&&◌, ◌||◌, ℕ, Bool, true, false, List, [], ◌∷◌, ◌++◌}
use Rattle.std.specs.Prelude.{length, filter, find, is_some, Option, None, Some, nat_lt, if◌then◌else◌}
use Rattle.std.proofs.Common.{refl, sym, ◌∙◌, ap, ap₂, subst, inl, inr, arith, cond}
use Rattle.std.proofs.lemmas.Bool.{and_from, and_parts, or_cases, or_left, or_right, eq-eqb, eqb-true}
use Rattle.std.proofs.lemmas.Bool.{lt-ltb, ltb-false, ltb-true}
use Rattle.dd_catalogue.proofs.Members.{Member}
use Rattle.dd_catalogue.specs.Rising.{by_test}
use Rattle.dd_records.specs.declared.level.Level.{Level}
use Rattle.dd_records.specs.declared.level.Level.TheVariants.{Patient, Study, Series, Image}
use Rattle.dd_records.specs.Levels.{levels}
use Rattle.dd_layout.specs.Numbering.{topmost}
use Rattle.dd_layout.specs.Paths.{Path, is_path, parent_of, are_siblings}
use Rattle.dd_layout.specs.Plans.{level_of}
use Rattle.dd_layout.specs.Refusal.{above, crowded, is_crowded}
use Rattle.dd_layout.specs.Tree.{children, rank}
use Rattle.dd_layout.proofs.Blocks.{child_of, path_itself, same_path}
use Rattle.dd_layout.proofs.Passes.{member_at, noted_rows}
use Rattle.dd_layout.proofs.RowsByWalk.{Rises}
use Rattle.dd_layout.proofs.Splits.{rank_is}
use Rattle.dd_layout.proofs.TreeRows.{AreRows, IsRow}

-- ---- the noted level is the topmost of those with a row of a rank above the limit

abbrev is_level : Level → Level → Bool
is_level level other = above level == above other

-- this holds of the level, or one of these rows is of it and has too great a rank
abbrev has_from : ℕ → List Path → (Level → Bool) → List Path → Level → Bool
has_from most rows p [] level = p level
has_from most rows p (x ∷ rest) level =
    has_from most rows (λ l. p l || (is_level (level_of x) l && nat_lt most (rank rows x))) rest level

-- the first level that is marked
abbrev pick : (a b c d : Bool) → Option Level
pick a b c d = cond a (Some Patient) (cond b (Some Study) (cond c (Some Series) (cond d (Some Image) None)))

picked : (level : Level) (a b c d : Bool) → Some (topmost level (pick a b c d))
    ≡ pick (a || (is_level level Patient && true)) (b || (is_level level Study && true))
    (c || (is_level level Series && true)) (d || (is_level level Image && true))
picked Patient true b c d = refl
picked Patient false true c d = refl
picked Patient false false true d = refl
picked Patient false false false true = refl
picked Patient false false false false = refl
picked Study true b c d = refl
picked Study false true c d = refl
picked Study false false true d = refl
picked Study false false false true = refl
picked Study false false false false = refl
picked Series true b c d = refl
picked Series false true c d = refl
picked Series false false true d = refl
picked Series false false false true = refl
picked Series false false false false = refl
picked Image true b c d = refl
picked Image false true c d = refl
picked Image false false true d = refl
picked Image false false false true = refl
picked Image false false false false = refl

same_find : (p q : Level → Bool) (m : List Level) → ((l : Level) → p l ≡ q l) → find p m ≡ find q m
same_find p q [] h = refl
same_find p q (l ∷ m) h =
    ap₂ (λ (b : Bool) (o : Option Level). if b then Some l else o) (h l) (same_find p q m h)

none_more : (b c : Bool) → b ≡ (b || (c && false))
none_more true c = refl
none_more false true = refl
none_more false false = refl

noted_more : (b : Bool) (level : Level) (p : Level → Bool)
    → (if b then Some (topmost level (find p levels)) else find p levels)
    ≡ find (λ l. p l || (is_level level l && b)) levels
noted_more true level p = picked level (p Patient) (p Study) (p Series) (p Image)
noted_more false level p =
    same_find p (λ l. p l || (is_level level l && false)) levels (λ l. none_more (p l) (is_level level l))

noted_is : (most : ℕ) (rows : List Path) (p : Level → Bool) (rest : List Path)
    → noted_rows most rows (find p levels) rest ≡ find (has_from most rows p rest) levels
noted_is most rows p [] = refl
noted_is most rows p (x ∷ rest) =
    ap (λ (o : Option Level). noted_rows most rows o rest) (noted_more (nat_lt most (rank rows x)) (level_of x) p)
    ∙ noted_is most rows (λ l. p l || (is_level (level_of x) l && nat_lt most (rank rows x))) rest

-- ---- a row of a level with too great a rank

abbrev IsBeyond : ℕ → List Path → Level → Path → Type 0
IsBeyond most rows level x = (is_level (level_of x) level ≡ true) × (most < rank rows x)

has_row : (most : ℕ) (rows : List Path) (p : Level → Bool) (rest : List Path) (level : Level)
    → has_from most rows p rest level ≡ true
    → (p level ≡ true) ⊎ ((x : Path) × Member x rest × IsBeyond most rows level x)
has_row most rows p [] level e = inl e
has_row most rows p (x ∷ rest) level e =
    elim (has_row most rows (λ l. p l || (is_level (level_of x) l && nat_lt most (rank rows x))) rest level e) [
      | inl h ↦ here (or_cases (p level) (is_level (level_of x) level && nat_lt most (rank rows x)) h)
      | inr there ↦ inr (there.0, inr there.1, there.2)
    ]
  where
    here : (p level ≡ true) ⊎ ((is_level (level_of x) level && nat_lt most (rank rows x)) ≡ true)
        → (p level ≡ true) ⊎ ((y : Path) × Member y (x ∷ rest) × IsBeyond most rows level y)
    here (inl h) = inl h
    here (inr h) =
        let both = and_parts (is_level (level_of x) level) (nat_lt most (rank rows x)) h in
        inr (x, inl refl, (both.0, ltb-true most (rank rows x) both.1))

has_kept : (most : ℕ) (rows : List Path) (p : Level → Bool) (rest : List Path) (level : Level) → p level ≡ true
    → has_from most rows p rest level ≡ true
has_kept most rows p [] level e = e
has_kept most rows p (x ∷ rest) level e =
    has_kept most rows (λ l. p l || (is_level (level_of x) l && nat_lt most (rank rows x))) rest level
    (or_left (p level) (is_level (level_of x) level && nat_lt most (rank rows x)) e)

row_has : (most : ℕ) (rows : List Path) (p : Level → Bool) (rest : List Path) (level : Level) (x : Path)
    → Member x rest → IsBeyond most rows level x → has_from most rows p rest level ≡ true
row_has most rows p [] level x i h = absurd i
row_has most rows p (y ∷ rest) level x (inl e) h =
    let own : IsBeyond most rows level y = subst (IsBeyond most rows level) (sym e) h in
    has_kept most rows (λ l. p l || (is_level (level_of y) l && nat_lt most (rank rows y))) rest level
    (or_right (p level) (is_level (level_of y) level && nat_lt most (rank rows y))
    (and_from (is_level (level_of y) level) (nat_lt most (rank rows y)) own.0 (lt-ltb most (rank rows y) own.1)))
row_has most rows p (y ∷ rest) level x (inr i) h =
    row_has most rows (λ l. p l || (is_level (level_of y) l && nat_lt most (rank rows y))) rest level x i h

-- ---- what a search finds

find_true : (s : Path → Bool) (m : List Path) → is_some (find s m) ≡ true → (x : Path) × Member x m × (s x ≡ true)
find_true s [] e = cc
find_true s (y ∷ m) e = by_test (s y)
    (λ h. (y, inl refl, h))
    (λ h. let more : is_some (find s m) ≡ true = rw h at e in
    let there = find_true s m more in (there.0, inr there.1, there.2))

true_find : (s : Path → Bool) (m : List Path) (x : Path) → Member x m → s x ≡ true → is_some (find s m) ≡ true
true_find s [] x i e = absurd i
true_find s (y ∷ m) x (inl same) e = let here : s y ≡ true = ap s same ∙ e in rw here refl
true_find s (y ∷ m) x (inr i) e = by_test (s y)
    (λ h. rw h refl)
    (λ h. rw h (true_find s m x i e))

-- ---- the children of one parent, and their ranks

abbrev Split : Path → List Path → Type 0
Split x m = (front : List Path) × (rest : List Path) × (m ≡ front ++ x ∷ rest)

split_at : (x : Path) (m : List Path) → Member x m → Split x m
split_at x [] i = absurd i
split_at x (y ∷ m) (inl e) = ([], m, ap (λ (z : Path). z ∷ m) e)
split_at x (y ∷ m) (inr i) = let there = split_at x m i in (y ∷ there.0, there.1, ap (λ l. y ∷ l) there.2)

kept_at : (s : Path → Bool) (front : List Path) (x : Path) (rest : List Path) → s x ≡ true
    → length (filter s (front ++ x ∷ rest)) ≡ length (filter s front) + (length (filter s rest) + 1)
kept_at s [] x rest e = rw e (omega arith)
kept_at s (y ∷ front) x rest e = by_test (s y)
    (λ h. let more = kept_at s front x rest e in rw h (omega (arith, more)))
    (λ h. let more = kept_at s front x rest e in rw h more)

-- the last one that passes a test, where one does
abbrev LastKept : (Path → Bool) → List Path → Type 0
LastKept s m = (x : Path) × (front : List Path) × (rest : List Path) × (m ≡ front ++ x ∷ rest) × (s x ≡ true)
    × (length (filter s m) ≡ length (filter s front) + 1)

last_kept : (s : Path → Bool) (m : List Path) → 0 < length (filter s m) → LastKept s m
last_kept s [] some = absurd (omega arith)
last_kept s (y ∷ m) some = by_test (nat_lt 0 (length (filter s m)))
    (λ h. let there = last_kept s m (ltb-true 0 (length (filter s m)) h) in
    (there.0, y ∷ there.1, there.2, ap (λ l. y ∷ l) there.3, there.4, more there.1 there.5))
    (λ h. alone (ltb-false 0 (length (filter s m)) h))
  where
    more : (front : List Path) → length (filter s m) ≡ length (filter s front) + 1
        → length (filter s (y ∷ m)) ≡ length (filter s (y ∷ front)) + 1
    more front e = by_test (s y)
        (λ h. rw h (omega (arith, e)))
        (λ h. rw h e)

    alone : length (filter s m) ≤ 0 → LastKept s (y ∷ m)
    alone none = by_test (s y)
        (λ h. let one : length (filter s (y ∷ m)) ≡ 1 = rw h (omega (arith, none)) in
        (y, [], m, refl, h, one))
        (λ h. let long : 0 < length (filter s m) = rw h at some in absurd (omega (arith, long, none)))

parent_depth : (x : Path) → IsRow x → length (parent_of x) ≡ above (level_of x)
parent_depth [] row = absurd row
parent_depth (a ∷ []) row = refl
parent_depth (a ∷ b ∷ []) row = refl
parent_depth (a ∷ b ∷ c ∷ []) row = refl
parent_depth (a ∷ b ∷ c ∷ d ∷ []) row = refl
parent_depth (a ∷ b ∷ c ∷ d ∷ e ∷ x) row = absurd row

-- a rank is at most the number of children of the parent
rank_few : (rows front : List Path) (x : Path) (rest : List Path) → Rises rows → rows ≡ front ++ x ∷ rest
    → rank rows x ≤ length (children rows (parent_of x))
rank_few rows front x rest up is =
    subst (λ (l : List Path). rank l x ≤ length (children l (parent_of x))) (sym is) few where
      few : rank (front ++ x ∷ rest) x ≤ length (children (front ++ x ∷ rest) (parent_of x))
      few =
          let own = rank_is front x rest (subst Rises is up) in
          let all = kept_at (λ y. are_siblings y x) front x rest (path_itself (parent_of x)) in
          omega (arith, own, all)

-- and that number is the rank of the last
last_rank : (rows front : List Path) (x : Path) (rest : List Path) (u : Path) → Rises rows
    → rows ≡ front ++ x ∷ rest → parent_of x ≡ u
    → rank rows x ≡ length (filter (child_of u) front) + 1
last_rank rows front x rest u up is same =
    ap (λ (l : List Path). rank l x) is ∙ rank_is front x rest (subst Rises is up)
    ∙ ap (λ (p : Path). 1 + length (filter (λ y. is_path (parent_of y) p) front)) same ∙ omega arith

-- ---- a level is crowded where it has a row of too great a rank

abbrev is_crowd : ℕ → List Path → Level → Path → Bool
is_crowd most rows level x = (length x == above level) && nat_lt most (length (children rows x))

beyond_crowds : (most : ℕ) (rows : List Path) (level : Level) (x : Path) → AreRows rows → Member x rows
    → IsBeyond most rows level x → is_crowded most rows level ≡ true
beyond_crowds most rows level x are i beyond =
    let there = split_at x rows i in
    let few = rank_few rows there.0 x there.1 are.rising there.2 in
    let deep = parent_depth x (are.parts x i) in
    let same = eqb-true (above (level_of x)) (above level) beyond.0 in
    true_find (is_crowd most rows level) ([] ∷ rows) (parent_of x) (are.parents x i)
    (and_from (length (parent_of x) == above level) (nat_lt most (length (children rows (parent_of x))))
    (eq-eqb (length (parent_of x)) (above level) (deep ∙ same))
    (lt-ltb most (length (children rows (parent_of x))) (omega (arith, few, beyond.1))))

crowd_beyond : (most : ℕ) (rows : List Path) (level : Level) → AreRows rows → is_crowded most rows level ≡ true
    → (x : Path) × Member x rows × IsBeyond most rows level x
crowd_beyond most rows level are e =
    let parent = find_true (is_crowd most rows level) ([] ∷ rows) e in
    let u = parent.0 in
    let both = and_parts (length u == above level) (nat_lt most (length (children rows u))) parent.2 in
    let deep = eqb-true (length u) (above level) both.0 in
    let many = ltb-true most (length (children rows u)) both.1 in
    let last = last_kept (child_of u) rows (omega (arith, many)) in
    let x = last.0 in
    let same = same_path (parent_of x) u last.4 in
    let i : Member x rows = subst (λ (l : List Path). Member x l) (sym last.3) (member_at last.1 x last.2) in
    let is = last_rank rows last.1 x last.2 u are.rising last.3 same in
    let own = parent_depth x (are.parts x i) in (
      x,
      i,
      (
        eq-eqb (above (level_of x)) (above level) (sym own ∙ ap length same ∙ deep),
        omega (arith, is, many, last.5),
      ),
    )

by_both : (a b : Bool) → (a ≡ true → b ≡ true) → (b ≡ true → a ≡ true) → a ≡ b
by_both true b h k = sym (h refl)
by_both false true h k = k refl
by_both false false h k = refl

crowded_same : (most : ℕ) (rows : List Path) → AreRows rows → (level : Level)
    → has_from most rows (λ l. false) rows level ≡ is_crowded most rows level
crowded_same most rows are level = by_both (has_from most rows (λ l. false) rows level) (is_crowded most rows level)
    (λ e. elim (has_row most rows (λ l. false) rows level e) [
      | inl h ↦ cc
      | inr there ↦ beyond_crowds most rows level there.0 are there.1 there.2
    ])
    (λ e. let there = crowd_beyond most rows level are e in
    row_has most rows (λ l. false) rows level there.0 there.1 there.2)

pub noted_is_crowded : (most : ℕ) (rows : List Path) → AreRows rows → noted_rows most rows None rows ≡ crowded most rows
noted_is_crowded most rows are =
    noted_is most rows (λ l. false) rows
    ∙ same_find (has_from most rows (λ l. false) rows) (is_crowded most rows) levels (crowded_same most rows are)
