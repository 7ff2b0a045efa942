-- Versions with their places: one more of them, in order after a sort, and the records of one level by level.
use Rattle.std.specs.Prelude.{◌≡◌, ◌+◌, ◌-◌, ◌<◌, ◌≤◌, ℕ, zero, suc, false, List, [], ◌∷◌, ◌++◌, length, map, take}
use Rattle.std.specs.Prelude.{drop}
use Rattle.std.specs.Prelude.{get_or}
use Rattle.std.specs.List.{AllByRecursion}
use Rattle.std.specs.List.Sorted.{IsSortedBy}
use Rattle.std.specs.Ordering.{is_lt}
use Rattle.std.proofs.Common.{refl, sym, ◌∙◌, ap, arith}
use Rattle.std.proofs.lemmas.List.{take_more, take_all, length-take-le}
use Rattle.std.proofs.lemmas.List.Sorted.{ranks_by, sorted_far}
use Rattle.dd_version.specs.declared.parts.Parts.{Parts}
use Rattle.dd_layout.specs.declared.order.Placed.{Placed}
use Rattle.dd_records.specs.Levels.{levels}
use Rattle.dd_layout.specs.Paths.{Path, path_cmp, is_before, prefixes}
use Rattle.dd_layout.specs.Plans.{path_of}
use Rattle.dd_layout.specs.WalkedRecords.{Standing, standing, standings, AreInOrder, record_here}
use Rattle.dd_layout.proofs.RowRecords.{record_of_level}
use Rattle.dd_layout.proofs.RowsByWalk.{path_total}
use borrow.Rule.Slice.PartMut.{mid_of}

-- ---- one version more

standings_more : (place : ℕ) (m : List Parts) (v : Parts)
    → standings place (m ++ v ∷ []) ≡ standings place m ++ (place + length m, path_of v) ∷ []
standings_more place [] v = ap (λ n. (n, path_of v) ∷ []) (omega arith)
standings_more place (w ∷ m) v =
    let same : suc place + length m ≡ place + length (w ∷ m) = omega arith in
    ap (λ l. (place, path_of w) ∷ l) (standings_more (suc place) m v
    ∙ ap (λ n. standings (suc place) m ++ (n, path_of v) ∷ []) same)

pub place_more : (versions : List Parts) (i : ℕ) (x : Parts) (before after : List Standing) → i < length versions
    → x ≡ get_or versions i x → before ≡ standings 0 (take i versions) → after ≡ before ++ (i, path_of x) ∷ []
    → after ≡ standings 0 (take (i + 1) versions)
place_more versions i x before after below read was is =
    let long : 0 + length (take i versions) ≡ i = let l = length-take-le i versions (omega arith) in omega arith in
    is ∙ ap (λ l. l ++ (i, path_of x) ∷ []) was
    ∙ ap (λ n. standings 0 (take i versions) ++ (n, path_of x) ∷ []) (sym long)
    ∙ sym (standings_more 0 (take i versions) x)
    ∙ ap (λ y. standings 0 (take i versions ++ y ∷ [])) read
    ∙ ap (λ m. standings 0 m) (sym (take_more versions i x below))

-- ---- after a sort by their paths they are in order

abbrev pub path_at : Placed → Path
path_at placed = path_of placed.version.now

first_before : (x : Placed) (xs : List Placed)
    → ((k : ℕ) (d : Placed) → k < length xs → is_before (path_at (get_or xs k d)) (path_at x) ≡ false)
    → AllByRecursion (λ r. is_before r.1 (path_at x) ≡ false) (map standing xs)
first_before x [] h = tt
first_before x (y ∷ xs) h =
    (h zero x (omega arith), first_before x xs (λ k d below. h (suc k) d (omega arith)))

all_before : (xs : List Placed)
    → ((i j : ℕ) (d : Placed) → i ≤ j → j < length xs
    → is_before (path_at (get_or xs j d)) (path_at (get_or xs i d)) ≡ false)
    → AreInOrder (map standing xs)
all_before [] h = tt
all_before (x ∷ xs) h = (
  first_before x xs (λ k d below. h zero (suc k) d (omega arith) (omega arith)),
  all_before xs (λ i j d up below. h (suc i) (suc j) d (omega arith) (omega arith)),
)

pub sorted_in_order : (xs : List Placed) → IsSortedBy (λ a b. is_lt (path_cmp (path_at a) (path_at b))) xs
    → AreInOrder (map standing xs)
sorted_in_order xs sorted =
    all_before xs (sorted_far (λ a b. is_lt (path_cmp (path_at a) (path_at b))) (ranks_by path_total path_at) xs sorted)

-- ---- the records that lead to a version, level by level

each_level : (run : List Standing) (v : Parts) (from : ℕ) → from ≤ 4
    → map (record_of_level run v) (mid_of from (4 - from) levels)
    ≡ map (record_here run) (drop from (prefixes (path_of v)))
each_level run v zero few = refl
each_level run v (suc zero) few = refl
each_level run v (suc (suc zero)) few = refl
each_level run v (suc (suc (suc zero))) few = refl
each_level run v (suc (suc (suc (suc zero)))) few = refl
each_level run v (suc (suc (suc (suc (suc from))))) few = absurd (omega arith)

pub levels_walked : (run : List Standing) (v : Parts) (from n : ℕ) → from ≤ 4
    → length (mid_of from (4 - from) levels) ≤ n
    → map (record_of_level run v) (take n (mid_of from (4 - from) levels))
    ≡ map (record_here run) (drop from (prefixes (path_of v)))
levels_walked run v from n few all =
    ap (λ l. map (record_of_level run v) l) (take_all n (mid_of from (4 - from) levels) all) ∙ each_level run v from few
