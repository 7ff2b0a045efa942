-- What is known of files before their turn.
use Rattle.std.proofs.Common.{◌≡◌, ◌∙◌, ◌<◌, ◌+◌, ℕ, zero, suc, Bool}
use Rattle.std.proofs.Common.{true, false, List, [], ◌∷◌, length, get_or, take, ◌-◌}
use Rattle.std.proofs.Common.{Option, None, Some, refl, sym, ap, subst, arith, min, drop, if◌then◌else◌}
use Rattle.std.proofs.lemmas.List.{length-drop, take_all}
use Rattle.std.specs.Prelude.{slice_get}
use Rattle.dd_files.specs.Files.{Held}
use Rattle.dd_filing.specs.Ahead.{NextFiles, first_left, shown}
use Rattle.dd_filing.specs.Taken.{Taken}
use Rattle.dd_filing.specs.declared.places.Ahead.{Ahead}
use Rattle.dd_filing.specs.declared.places.Ahead.TheVariants as known
use Rattle.dd_pile.specs.Copies.{IsKnown}
use Rattle.dd_files.specs.Keeping.{Keeps}
use Rattle.dd_pile.specs.ReadingAhead.{KnowsNext}
use Rattle.dd_pile.specs.declared.source.StageSource.{StageSource}

-- ---- one file

pub nothing_known : (path : List ℕ) (files : Option Held) → IsKnown path known.Unknown files
nothing_known path None = tt
nothing_known path (Some held) = tt

-- ---- the next of them

shown_by : (whole : Bool) (path : List ℕ) (taken : Taken) (files : Option Held)
    → IsKnown path (known.File taken) files
    → IsKnown path (if whole then known.Unknown else known.File taken) files
shown_by true path taken files h = nothing_known path files
shown_by false path taken files h = h

shown_known : (digested : Bool) (path : List ℕ) (file : Ahead) (files : Option Held) → IsKnown path file files
    → IsKnown path (shown digested file) files
shown_known true path file files h = h
shown_known false path (known.File taken) files h = shown_by taken.whole path taken files h
shown_known false path known.Absent files h = h
shown_known false path known.Unknown files h = h

drop_head : (sources : List StageSource) (at : ℕ) (d : StageSource) → at < length sources
    → slice_get (drop at sources) 0 ≡ Some (get_or sources at d)
drop_head [] at d within = absurd (omega (arith, within))
drop_head (first ∷ sources) zero d within = refl
drop_head (first ∷ sources) (suc at) d within = drop_head sources at d (omega (arith, within))

-- what is known of the file whose turn it is
pub next_known : (sources : List StageSource) (at : ℕ) (d : StageSource) (all : NextFiles) (file : Ahead)
    (files : Option Held) → at < length sources → file ≡ first_left all → KnowsNext (drop at sources) all files
    → IsKnown (get_or sources at d).path.now file files
next_known sources at d all file files within is knows =
    let source = get_or sources at d in
    let first = knows 0 source (drop_head sources at d within) in
    subst (λ (x : Ahead). IsKnown source.path.now x files) (sym is)
    (shown_known all.digested source.path.now (get_or all.files all.past known.Unknown) files
    (subst (λ (n : ℕ). IsKnown source.path.now (get_or all.files n known.Unknown) files) (omega arith) first))

drop_none : (n : ℕ) → drop {A = StageSource} n [] ≡ []
drop_none zero = refl
drop_none (suc n) = refl

drop_next : (sources : List StageSource) (at i : ℕ) → slice_get (drop (at + 1) sources) i
    ≡ slice_get (drop at sources) (suc i)
drop_next [] at i =
    ap (λ (xs : List StageSource). slice_get xs i) (drop_none (at + 1))
    ∙ sym (ap (λ (xs : List StageSource). slice_get xs (suc i)) (drop_none at))
drop_next (first ∷ sources) zero i = refl
drop_next (first ∷ sources) (suc at) i =
    let same : suc at + 1 ≡ suc (at + 1) = omega arith in
    ap (λ (n : ℕ). slice_get (drop n (first ∷ sources)) i) same ∙ drop_next sources at i

same_place : (xs : List Ahead) (m n : ℕ) → m ≡ n → get_or xs m known.Unknown ≡ get_or xs n known.Unknown
same_place xs m n same = ap (λ (k : ℕ). get_or xs k known.Unknown) same

pass_index : (xs : List Ahead) (past i : ℕ) → get_or xs (min (past + 1) (length xs) + i) known.Unknown
    ≡ get_or xs (past + suc i) known.Unknown
pass_index [] past i = refl
pass_index (x ∷ xs) zero i = same_place (x ∷ xs) (min (0 + 1) (length (x ∷ xs)) + i) (0 + suc i) (omega arith)
pass_index (x ∷ xs) (suc past) i =
    same_place (x ∷ xs) (min (suc past + 1) (length (x ∷ xs)) + i) (suc (min (past + 1) (length xs) + i)) (omega arith)
    ∙ pass_index xs past i
    ∙ same_place (x ∷ xs) (suc (past + suc i)) (suc past + suc i) (omega arith)

-- what is known of a file that stood stays
kept_known : (file : Ahead) (path : List ℕ) (a b : Option Held) → Keeps a b → IsKnown path file a
    → IsKnown path file b
kept_known file path None b kept h = subst (λ (x : Option Held). IsKnown path file x) (sym kept) tt
kept_known file path (Some a) None kept h = absurd kept
kept_known (known.File taken) path (Some a) (Some b) kept h = λ whole.
    (kept.stays path taken.bytes (h whole).0, (h whole).1)
kept_known known.Absent path (Some a) (Some b) kept h = tt
kept_known known.Unknown path (Some a) (Some b) kept h = tt

-- a slice from a place to the end has all that is left
pub rest_known : (sources : List StageSource) (at : ℕ) (all : NextFiles) (files : Option Held)
    → KnowsNext (take (length sources - at) (drop at sources)) all files → KnowsNext (drop at sources) all files
rest_known sources at all files h =
    let size = length-drop at sources in
    subst (λ (xs : List StageSource). KnowsNext xs all files)
    (take_all (length sources - at) (drop at sources) (omega (arith, size))) h

-- the others, once it is past
pub passed_known : (sources : List StageSource) (at : ℕ) (all after : NextFiles) (old new : Option Held)
    → after ≡ record {
      files = all.files;
      past = min (all.past + 1) (length all.files);
      digested = all.digested;
    }
    → Keeps old new → KnowsNext (drop at sources) all old → KnowsNext (drop (at + 1) sources) after new
passed_known sources at all after old new past kept knows = λ i source is.
    kept_known (get_or after.files (after.past + i) known.Unknown) source.path.now old new kept
    (subst (λ (next : NextFiles). IsKnown source.path.now (get_or next.files (next.past + i) known.Unknown) old)
    (sym past)
    (subst (λ (x : Ahead). IsKnown source.path.now x old) (sym (pass_index all.files all.past i))
    (knows (suc i) source (sym (drop_next sources at i) ∙ is))))
