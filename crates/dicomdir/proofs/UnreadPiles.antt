-- Which sources of piles were not read, source by source, and the status by that.
use Rattle.std.proofs.Common.{◌≡◌, ◌≢◌, ◌∙◌, ◌+◌, ◌++◌, ℕ, suc, List, [], ◌∷◌, Bool, true, false, Ok, Err, ap, ap₂}
use Rattle.std.proofs.Common.{append-nil, append_assoc, arith, length, map, refl, sym}
use Rattle.std.proofs.lemmas.List.{length-append}
use Rattle.std.specs.List.{AllByRecursion}
use Rattle.std.specs.Prelude.{◌↔◌, IfErr, if◌then◌else◌}
use Rattle.dd_sources.specs.Indexing.{skipped_from}
use Rattle.dd_keys.specs.declared.fault.KeyFault.{KeyFault}
use Rattle.dd_keys.specs.Sources.{Answer}
use Rattle.dd_keys.specs.declared.fault.KeyFault.TheVariants as keys
use Rattle.dd_staged.specs.Sources.{Source}
use Rattle.dicomdir.proofs.PastFailures.{read_fault}
use Rattle.dicomdir.specs.Indexes.{has_failed, is_unread, status_past}
use Rattle.dicomdir.specs.Publishes.{sources_in}
use Rattle.dicomdir.specs.Unread.{Staged, WasRead, answer_of, bad_name_by, bad_names_from, listed_from}
use Rattle.dicomdir.specs.declared.unread.StagedName.{StagedName}

-- ---- one source more

pub listed_more : {X : Type 0} (Of : ℕ → Staged → List X) (at : ℕ) (sources : List Source) (source : Source)
    → listed_from Of at (sources ++ source ∷ [])
    ≡ listed_from Of at sources ++ Of (at + length sources) source.found
listed_more Of at [] source =
    let same : at ≡ at + 0 = omega arith in
    append-nil (Of at source.found) ∙ ap (λ (n : ℕ). Of n source.found) same
listed_more Of at (first ∷ sources) source =
    let same : suc at + length sources ≡ at + length (first ∷ sources) = omega arith in
    ap (λ (rest : List _). Of at first.found ++ rest)
    (listed_more Of (suc at) sources source
    ∙ ap (λ (n : ℕ). listed_from Of (suc at) sources ++ Of n source.found) same)
    ∙ sym (append_assoc (Of at first.found) (listed_from Of (suc at) sources)
    (Of (at + length (first ∷ sources)) source.found))

-- a list without sources names none
pub names_start : (before : ℕ) (lists : List (List Source))
    → bad_names_from before (lists ++ [] ∷ []) ≡ bad_names_from before lists
names_start before [] = refl
names_start before (list ∷ lists) =
    ap (λ (rest : List StagedName). listed_from (bad_name_by before) before list ++ rest)
    (names_start (before + length list) lists)

pub names_more : (before : ℕ) (lists : List (List Source)) (part : List Source) (source : Source)
    → bad_names_from before (lists ++ (part ++ source ∷ []) ∷ [])
    ≡ bad_names_from before (lists ++ part ∷ [])
    ++ bad_name_by (before + length (sources_in lists)) (before + length (sources_in lists) + length part) source.found
names_more before [] part source =
    let Of = bad_name_by before in
    let none : length (sources_in []) ≡ 0 = refl in
    let same : before ≡ before + length (sources_in []) = omega (arith, none) in
    append-nil (listed_from Of before (part ++ source ∷ [])) ∙ listed_more Of before part source
    ∙ ap₂ (λ (some more : List StagedName). some ++ more) (sym (append-nil (listed_from Of before part)))
    (ap (λ (n : ℕ). bad_name_by n (n + length part) source.found) same)
names_more before (list ∷ lists) part source =
    let here = listed_from (bad_name_by before) before list in
    let next = before + length list in
    let same : next + length (sources_in lists) ≡ before + length (sources_in (list ∷ lists)) =
    omega (arith, length-append list (sources_in lists)) in
    ap (λ (rest : List StagedName). here ++ rest) (names_more next lists part source
    ∙ ap (λ (n : ℕ). bad_names_from next (lists ++ part ∷ []) ++ bad_name_by n (n + length part) source.found) same)
    ∙ sym (append_assoc here (bad_names_from next (lists ++ part ∷ [])) (bad_name_by
    (before + length (sources_in (list ∷ lists))) (before + length (sources_in (list ∷ lists)) + length part)
    source.found))

-- ---- whether all were read

abbrev answers : List Source → List Answer
answers sources = map (λ source. answer_of source.found) sources

not_unread : (fault : KeyFault) → is_unread fault ≡ false → fault ≢ keys.Read
not_unread fault none is = let amiss : true ≡ false = ap is_unread (sym is) ∙ none in cc

-- where none is skipped for that, the first was read, and none of the rest is
first_read : (n : ℕ) (answer : Answer) (rest : List Answer) → has_failed (skipped_from n (answer ∷ rest)) ≡ false
    → IfErr answer (λ fault. fault ≢ keys.Read) × (has_failed (skipped_from (suc n) rest) ≡ false)
first_read n (Ok version) rest none = (tt, none)
first_read n (Err fault) rest none = by (is_unread fault) refl
  where
    by : (unread : Bool) → is_unread fault ≡ unread
        → (fault ≢ keys.Read) × (has_failed (skipped_from (suc n) rest) ≡ false)
    by true is = absurd (let amiss = rw is at none in cc)
    by false is = (not_unread fault is, rw is at none)

none_unread : (n : ℕ) (sources : List Source) → has_failed (skipped_from n (answers sources)) ≡ false
    → AllByRecursion (λ source. WasRead source.found) sources
none_unread n [] none = tt
none_unread n (source ∷ sources) none =
    let first = first_read n (answer_of source.found) (answers sources) none in
    (first.0, none_unread (suc n) sources first.1)

then_read : (n : ℕ) (answer : Answer) (rest : List Answer) → IfErr answer (λ fault. fault ≢ keys.Read)
    → has_failed (skipped_from (suc n) rest) ≡ false → has_failed (skipped_from n (answer ∷ rest)) ≡ false
then_read n (Ok version) rest other none = none
then_read n (Err fault) rest other none = rw (read_fault fault other) none

all_read : (n : ℕ) (sources : List Source) → AllByRecursion (λ source. WasRead source.found) sources
    → has_failed (skipped_from n (answers sources)) ≡ false
all_read n [] all = refl
all_read n (source ∷ sources) all =
    then_read n (answer_of source.found) (answers sources) all.0 (all_read (suc n) sources all.1)

abbrev status_by : Bool → ℕ
status_by failed = if failed then 3 else 0

zero_exactly : (failed : Bool) → (status_by failed ≡ 0) ↔ (failed ≡ false)
zero_exactly true = (λ is. absurd (cc is), λ is. absurd (cc is))
zero_exactly false = (λ is. refl, λ is. refl)

-- the status is 0 exactly where all were read
pub zero_where_read : (sources : List Source) (skipped : List (ℕ × KeyFault))
    → skipped ≡ skipped_from 0 (answers sources)
    → (status_past 0 skipped ≡ 0) ↔ AllByRecursion (λ source. WasRead source.found) sources
zero_where_read sources skipped is = (
  λ zero. none_unread 0 sources (ap has_failed (sym is) ∙ (zero_exactly (has_failed skipped)).0 zero),
  λ all. (zero_exactly (has_failed skipped)).1 (ap has_failed is ∙ all_read 0 sources all),
)
