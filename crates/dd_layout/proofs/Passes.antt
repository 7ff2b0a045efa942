-- The pass along the records of a tree: its counters are the ranks of the row that it has come to.
use Rattle.std.specs.Prelude.{◌≡◌, ◌-◌, ◌≤◌, ℕ, true, List, [], ◌∷◌, ◌++◌, length, map, Option, None, Some, nat_lt}
use Rattle.std.specs.List.{AllByRecursion}
use Rattle.std.proofs.Common.{refl, sym, ◌∙◌, ap, subst, inl, inr, arith, append_assoc}
use Rattle.std.proofs.lemmas.Bool.{and_from, le-leb, ltb-false}
use Rattle.std.proofs.lemmas.List.{length-map}
use Rattle.dd_catalogue.proofs.Members.{Member}
use Rattle.dd_catalogue.specs.Rising.{by_test}
use Rattle.dd_elem.specs.FileId.{Ranks, AreRanks, IsRank, max_rank, ranks_of}
use Rattle.dd_records.specs.declared.level.Level.{Level}
use Rattle.dd_layout.specs.declared.ranks.Counters.{Counters}
use Rattle.dd_layout.specs.Neighbours.{counted, counts_after}
use Rattle.dd_layout.specs.Numbering.{after, count_of, counted_file, counters_of, file_if_ranks, is_rank, topmost}
use Rattle.dd_layout.specs.Paths.{Path, prefixes}
use Rattle.dd_layout.specs.Plans.{level_of, file_of}
use Rattle.dd_records.specs.Records.{IsFileOf}
use Rattle.dd_layout.specs.Tree.{rank, ranks_along}
use Rattle.dd_layout.proofs.NumberPass.{noted, noted_from}
use Rattle.dd_layout.proofs.TreeRows.{AreRows, IsRow}

-- ---- counts of a path as counters, 0 for each level that it does not reach

abbrev pub filled : List ℕ → Counters
filled [] = counters_of 0 0 0 0
filled (p ∷ []) = counters_of p 0 0 0
filled (p ∷ s ∷ []) = counters_of p s 0 0
filled (p ∷ s ∷ r ∷ []) = counters_of p s r 0
filled (p ∷ s ∷ r ∷ i ∷ more) = counters_of p s r i

-- one row more: none is more than one part longer than the row before
after_counted : (x : Path) → IsRow x → (cs : List ℕ) → length (counted (length x - 1) cs) ≡ length x
    → after (level_of x) (filled cs) ≡ filled (counted (length x - 1) cs)
after_counted [] row cs h = absurd row
after_counted (a ∷ []) row [] h = refl
after_counted (a ∷ []) row (p ∷ []) h = refl
after_counted (a ∷ []) row (p ∷ s ∷ []) h = refl
after_counted (a ∷ []) row (p ∷ s ∷ r ∷ []) h = refl
after_counted (a ∷ []) row (p ∷ s ∷ r ∷ i ∷ more) h = refl
after_counted (a ∷ b ∷ []) row [] h = absurd (omega arith)
after_counted (a ∷ b ∷ []) row (p ∷ []) h = refl
after_counted (a ∷ b ∷ []) row (p ∷ s ∷ []) h = refl
after_counted (a ∷ b ∷ []) row (p ∷ s ∷ r ∷ []) h = refl
after_counted (a ∷ b ∷ []) row (p ∷ s ∷ r ∷ i ∷ more) h = refl
after_counted (a ∷ b ∷ c ∷ []) row [] h = absurd (omega arith)
after_counted (a ∷ b ∷ c ∷ []) row (p ∷ []) h = absurd (omega arith)
after_counted (a ∷ b ∷ c ∷ []) row (p ∷ s ∷ []) h = refl
after_counted (a ∷ b ∷ c ∷ []) row (p ∷ s ∷ r ∷ []) h = refl
after_counted (a ∷ b ∷ c ∷ []) row (p ∷ s ∷ r ∷ i ∷ more) h = refl
after_counted (a ∷ b ∷ c ∷ d ∷ []) row [] h = absurd (omega arith)
after_counted (a ∷ b ∷ c ∷ d ∷ []) row (p ∷ []) h = absurd (omega arith)
after_counted (a ∷ b ∷ c ∷ d ∷ []) row (p ∷ s ∷ []) h = absurd (omega arith)
after_counted (a ∷ b ∷ c ∷ d ∷ []) row (p ∷ s ∷ r ∷ []) h = refl
after_counted (a ∷ b ∷ c ∷ d ∷ []) row (p ∷ s ∷ r ∷ i ∷ more) h = refl
after_counted (a ∷ b ∷ c ∷ d ∷ e ∷ x) row cs h = absurd row

counts_push : (cs : List ℕ) (front : List Path) (x : Path)
    → counts_after cs (front ++ x ∷ []) ≡ counted (length x - 1) (counts_after cs front)
counts_push cs [] x = refl
counts_push cs (y ∷ front) x = counts_push (counted (length y - 1) cs) front x

length_prefixes : (x : Path) → length (prefixes x) ≡ length x
length_prefixes [] = refl
length_prefixes (a ∷ x) =
    let more = length_prefixes x in
    let same = length-map (prefixes x) (λ (q : Path). a ∷ q) in omega (arith, more, same)

-- the counters after a row are its ranks
pub row_after : (rows front : List Path) (x : Path) (rest : List Path) → AreRows rows → Member x rows
    → rows ≡ front ++ x ∷ rest
    → after (level_of x) (filled (counts_after [] front)) ≡ filled (counts_after [] (front ++ x ∷ []))
row_after rows front x rest are i is =
    let more = counts_push [] front x in
    let long : length (counted (length x - 1) (counts_after [] front)) ≡ length x =
    ap length (sym more) ∙ ap length (sym (are.ranks front x rest is)) ∙ length-map (prefixes x) (rank rows)
    ∙ length_prefixes x in
    after_counted x (are.parts x i) (counts_after [] front) long ∙ ap filled (sym more)

own_rank : (rows : List Path) (x : Path) → IsRow x → count_of (level_of x) (filled (ranks_along rows x)) ≡ rank rows x
own_rank rows [] row = absurd row
own_rank rows (a ∷ []) row = refl
own_rank rows (a ∷ b ∷ []) row = refl
own_rank rows (a ∷ b ∷ c ∷ []) row = refl
own_rank rows (a ∷ b ∷ c ∷ d ∷ []) row = refl
own_rank rows (a ∷ b ∷ c ∷ d ∷ e ∷ x) row = absurd row

pub member_at : (front : List Path) (x : Path) (rest : List Path) → Member x (front ++ x ∷ rest)
member_at [] x rest = inl refl
member_at (y ∷ front) x rest = inr (member_at front x rest)

pub row_at : (rows front : List Path) (x : Path) (rest : List Path) → rows ≡ front ++ x ∷ rest → Member x rows
row_at rows front x rest is = subst (λ (l : List Path). Member x l) (sym is) (member_at front x rest)

-- ---- what is noted

abbrev pub noted_rows : ℕ → List Path → Option Level → List Path → Option Level
noted_rows most rows before [] = before
noted_rows most rows before (x ∷ rest) =
    noted_rows most rows (noted most (level_of x) (rank rows x) before) rest

pub walk_noted : (most : ℕ) (rows : List Path) (before : Option Level) (front rest : List Path)
    → AreRows rows → rows ≡ front ++ rest
    → noted_from most (filled (counts_after [] front)) before (map level_of rest) ≡ noted_rows most rows before rest
walk_noted most rows before front [] are is = refl
walk_noted most rows before front (x ∷ rest) are is =
    let i = row_at rows front x rest is in
    let own : count_of (level_of x) (filled (counts_after [] (front ++ x ∷ []))) ≡ rank rows x =
    ap (λ (cs : List ℕ). count_of (level_of x) (filled cs)) (sym (are.ranks front x rest is))
    ∙ own_rank rows x (are.parts x i) in
    ap (λ (c : Counters). noted_from most c (noted most (level_of x) (count_of (level_of x) c) before)
    (map level_of rest)) (row_after rows front x rest are i is)
    ∙ ap (λ (n : ℕ). noted_from most (filled (counts_after [] (front ++ x ∷ []))) (noted most (level_of x) n before)
    (map level_of rest)) own
    ∙ walk_noted most rows (noted most (level_of x) (rank rows x) before) (front ++ x ∷ []) rest are
    (is ∙ sym (append_assoc front (x ∷ []) rest))

-- where nothing is noted, no rank is above the limit
pub none_noted : (most : ℕ) (rows : List Path) (before : Option Level) (rest : List Path)
    → noted_rows most rows before rest ≡ None
    → (before ≡ None) × AllByRecursion (λ x. rank rows x ≤ most) rest
none_noted most rows before [] e = (e, tt)
none_noted most rows before (x ∷ rest) e =
    let more = none_noted most rows (noted most (level_of x) (rank rows x) before) rest e in
    by_test (nat_lt most (rank rows x))
    (λ h. let is : Some (topmost (level_of x) before) ≡ None = rw h at more.0 in cc)
    (λ h. let is : before ≡ None = rw h at more.0 in (is, (ltb-false most (rank rows x) h, more.1)))

-- ---- File IDs

-- the ranks of a row and of what is above it can stand in a File ID
abbrev pub IsNumbered : List Path → Path → Type 0
IsNumbered rows x = AllByRecursion (λ q. rank rows q ≤ max_rank) (prefixes x)

rank_ok : (rows : List Path) (q : Path) → rank rows q ≤ max_rank → IsRank (rank rows q)
rank_ok rows q h = (omega arith, h)

rank_test : (n : ℕ) → IsRank n → is_rank n ≡ true
rank_test n h = and_from _ _ (le-leb 1 n h.0) (le-leb n max_rank h.1)

file_given : (ranks : Ranks) → AreRanks ranks → file_if_ranks ranks ≡ Some ranks
file_given ranks are =
    let a = rank_test ranks.patient are.patient in
    let b = rank_test ranks.study are.study in
    let c = rank_test ranks.series are.series in
    let d = rank_test ranks.image are.image in
    rw (a, b, c, d) refl

four_ranks : (rows : List Path) (a b c d : List ℕ) → IsNumbered rows (a ∷ b ∷ c ∷ d ∷ [])
    → AreRanks (ranks_of (rank rows (a ∷ [])) (rank rows (a ∷ b ∷ [])) (rank rows (a ∷ b ∷ c ∷ []))
    (rank rows (a ∷ b ∷ c ∷ d ∷ [])))
four_ranks rows a b c d h = record {
  patient = rank_ok rows (a ∷ []) h.0;
  study = rank_ok rows (a ∷ b ∷ []) h.1.0;
  series = rank_ok rows (a ∷ b ∷ c ∷ []) h.1.1.0;
  image = rank_ok rows (a ∷ b ∷ c ∷ d ∷ []) h.1.1.1.0;
}

pub row_file : (rows : List Path) (x : Path) → IsRow x → IsNumbered rows x
    → counted_file (level_of x) (filled (ranks_along rows x)) ≡ file_of rows x
row_file rows [] row h = absurd row
row_file rows (a ∷ []) row h = refl
row_file rows (a ∷ b ∷ []) row h = refl
row_file rows (a ∷ b ∷ c ∷ []) row h = refl
row_file rows (a ∷ b ∷ c ∷ d ∷ []) row h = file_given _ (four_ranks rows a b c d h)
row_file rows (a ∷ b ∷ c ∷ d ∷ e ∷ x) row h = absurd row

pub file_is_file : (rows : List Path) (x : Path) → IsRow x → IsNumbered rows x → IsFileOf (level_of x) (file_of rows x)
file_is_file rows [] row h = absurd row
file_is_file rows (a ∷ []) row h = refl
file_is_file rows (a ∷ b ∷ []) row h = refl
file_is_file rows (a ∷ b ∷ c ∷ []) row h = refl
file_is_file rows (a ∷ b ∷ c ∷ d ∷ []) row h = four_ranks rows a b c d h
file_is_file rows (a ∷ b ∷ c ∷ d ∷ e ∷ x) row h = absurd row
