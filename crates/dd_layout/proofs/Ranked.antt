-- What the passes give along the records of a tree: the crowded level, and else each record with its File ID.
use Rattle.std.specs.Prelude.{◌≡◌, ◌≤◌, ℕ, List, [], ◌∷◌, ◌++◌, length, map, Option, None, All}
use Rattle.std.specs.List.{AllByRecursion}
use Rattle.std.proofs.Common.{refl, sym, ◌∙◌, ap, ap₂, subst, inl, inr, arith, append_assoc, take, drop}
use Rattle.std.proofs.lemmas.List.{append-nil, drop_all, take_all}
use Rattle.std.proofs.lemmas.List.Elements.{All-from_recursion, All-map}
use Rattle.dd_catalogue.proofs.Members.{Member}
use Rattle.dd_elem.specs.FileId.{Ranks, max_rank}
use Rattle.dd_version.specs.declared.parts.Parts.{Parts}
use Rattle.dd_records.specs.declared.level.Level.{Level}
use Rattle.dd_layout.specs.declared.ranks.Counters.{Counters}
use Rattle.dd_records.specs.declared.record.PlanRecord.{PlanRecord}
use Rattle.dd_layout.specs.Neighbours.{counts_after}
use Rattle.dd_layout.specs.Numbering.{counted_file, counters_of}
use Rattle.dd_layout.specs.Paths.{Path, prefixes}
use Rattle.dd_layout.specs.Plans.{file_of, level_of, tree}
use Rattle.dd_records.specs.Records.{IsFileOf}
use Rattle.dd_layout.specs.Refusal.{crowded}
use Rattle.dd_layout.specs.Stages.{bare_at, level_in, numbered_at}
use Rattle.dd_layout.specs.Tree.{rank}
use Rattle.dd_layout.proofs.Crowds.{noted_is_crowded}
use Rattle.dd_layout.proofs.NumberPass.{noted_from, numbered_from}
use Rattle.dd_layout.proofs.Passes.{IsNumbered, file_is_file, filled, none_noted, noted_rows, row_after, row_at}
use Rattle.dd_layout.proofs.Passes.{row_file, walk_noted}
use Rattle.dd_layout.proofs.TreeRows.{AreRows, tree_rows}

all_at : (P : Path → Type 0) (m : List Path) (x : Path) → AllByRecursion P m → Member x m → P x
all_at P [] x h i = absurd i
all_at P (y ∷ m) x h (inl e) = subst P e h.0
all_at P (y ∷ m) x h (inr i) = all_at P m x h.1 i

all_from : (P : Path → Type 0) (m : List Path) → ((x : Path) → Member x m → P x) → AllByRecursion P m
all_from P [] h = tt
all_from P (y ∷ m) h = (h y (inl refl), all_from P m (λ x i. h x (inr i)))

noted_at : (most : ℕ) (versions : List Parts) (levels : List Level) → levels ≡ map level_of (tree versions)
    → noted_from most (counters_of 0 0 0 0) None levels ≡ noted_rows most (tree versions) None (tree versions)
noted_at most versions levels is =
    ap (noted_from most (counters_of 0 0 0 0) None) is
    ∙ walk_noted most (tree versions) None [] (tree versions) (tree_rows versions) refl

pub pass_crowded : (most : ℕ) (versions : List Parts) (levels : List Level) → levels ≡ map level_of (tree versions)
    → noted_from most (counters_of 0 0 0 0) None levels ≡ crowded most (tree versions)
pass_crowded most versions levels is =
    noted_at most versions levels is ∙ noted_is_crowded most (tree versions) (tree_rows versions)

-- ---- where no level is crowded, each rank can stand in a File ID

all_numbered : (most : ℕ) (versions : List Parts) → most ≤ max_rank → crowded most (tree versions) ≡ None
    → (x : Path) → Member x (tree versions) → IsNumbered (tree versions) x
all_numbered most versions few fits x i =
    let each = (none_noted most (tree versions) None (tree versions)
    (noted_is_crowded most (tree versions) (tree_rows versions) ∙ fits)).1 in
    all_from (λ q. rank (tree versions) q ≤ max_rank) (prefixes x) (λ q j.
    let at : rank (tree versions) q ≤ most =
    all_at (λ y. rank (tree versions) y ≤ most) (tree versions) q each ((tree_rows versions).above x i q j) in
    omega (arith, at, few))

walk_numbered : (versions : List Parts) (front rest : List Path) → AreRows (tree versions)
    → ((x : Path) → Member x (tree versions) → IsNumbered (tree versions) x) → tree versions ≡ front ++ rest
    → numbered_from (filled (counts_after [] front)) (map (bare_at versions) rest) ≡ map (numbered_at versions) rest
walk_numbered versions front [] are each is = refl
walk_numbered versions front (x ∷ rest) are each is =
    let i = row_at (tree versions) front x rest is in
    let file : counted_file (level_of x) (filled (counts_after [] (front ++ x ∷ []))) ≡ file_of (tree versions) x =
    ap (λ (cs : List ℕ). counted_file (level_of x) (filled cs)) (sym (are.ranks front x rest is))
    ∙ row_file (tree versions) x (are.parts x i) (each x i) in
    ap (λ (c : Counters). record (bare_at versions x) { file = counted_file (level_of x) c }
    ∷ numbered_from c (map (bare_at versions) rest)) (row_after (tree versions) front x rest are i is)
    ∙ ap (λ (f : Option Ranks). record (bare_at versions x) { file = f }
    ∷ numbered_from (filled (counts_after [] (front ++ x ∷ []))) (map (bare_at versions) rest)) file
    ∙ ap (λ (l : List PlanRecord). numbered_at versions x ∷ l)
    (walk_numbered versions (front ++ x ∷ []) rest are each (is ∙ sym (append_assoc front (x ∷ []) rest)))

pub pass_numbered : (most : ℕ) (versions : List Parts) (records : List PlanRecord) → most ≤ max_rank
    → crowded most (tree versions) ≡ None → records ≡ map (bare_at versions) (tree versions)
    → numbered_from (counters_of 0 0 0 0) records ≡ map (numbered_at versions) (tree versions)
pass_numbered most versions records few fits is =
    ap (numbered_from (counters_of 0 0 0 0)) is
    ∙ walk_numbered versions [] (tree versions) (tree_rows versions) (all_numbered most versions few fits) refl

pub files_numbered : (most : ℕ) (versions : List Parts) → most ≤ max_rank → crowded most (tree versions) ≡ None
    → All (λ row. IsFileOf row.level row.file) (map (numbered_at versions) (tree versions))
files_numbered most versions few fits =
    All-map (λ (row : PlanRecord). IsFileOf row.level row.file) (numbered_at versions) (tree versions)
    (All-from_recursion (λ (x : Path). IsFileOf (level_of x) (file_of (tree versions) x)) (tree versions)
    (all_from (λ (x : Path). IsFileOf (level_of x) (file_of (tree versions) x)) (tree versions) (λ x i.
    file_is_file (tree versions) x ((tree_rows versions).parts x i) (all_numbered most versions few fits x i))))

-- ---- at the end of the pass

pub noted_all : (most i : ℕ) (counters : Counters) (before last : Option Level) (records : List PlanRecord)
    → length records ≤ i → noted_from most counters before (map level_in (drop i records)) ≡ last → before ≡ last
noted_all most i counters before last records all e =
    sym (ap (λ (l : List PlanRecord). noted_from most counters before (map level_in l)) (drop_all i records all)) ∙ e

pub numbered_all : (i : ℕ) (counters : Counters) (records made : List PlanRecord) → length records ≤ i
    → take i records ++ numbered_from counters (drop i records) ≡ made → records ≡ made
numbered_all i counters records made all e =
    sym (ap₂ (λ (l m : List PlanRecord). l ++ m) (take_all i records all)
    (ap (numbered_from counters) (drop_all i records all)) ∙ append-nil records) ∙ e
