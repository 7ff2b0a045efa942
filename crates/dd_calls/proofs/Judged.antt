-- Files that are judged one after the other.
use Rattle.std.proofs.Common.{◌≡◌, ◌∙◌, ℕ, zero, suc, List, [], ◌∷◌, ◌++◌, ◌+◌, ◌<◌, ◌≤◌, length, map, drop, get_or, refl, take}
use Rattle.std.proofs.lemmas.List.{take_all}
use Rattle.dd_scan.specs.Scan.{summary_length}
use Rattle.std.proofs.Common.{Option, Some, None, Bool, true, false, sym, ap, arith, append_assoc, append-nil}
use Rattle.std.specs.Prelude.{◌&&◌, if◌then◌else◌, nat_le, option_map, slice_get, slice_range}
use Rattle.std.proofs.Common.{Result, Ok, Err}
use Rattle.std.proofs.lemmas.Option.{slice_get-get_or, slice_get-map, slice_get_past}
use Rattle.std.specs.Prelude.{IfOk}
use Rattle.dd_report.specs.Agreements.{Standing}
use Rattle.dd_report.specs.declared.checking.Comparison.{Comparison}
use Rattle.dd_calls.specs.declared.finding_row.FindingRow.{FindingRow}
use Rattle.dd_calls.specs.declared.given_file.GivenFile.{GivenFile}
use Rattle.dd_calls.specs.Findings.{before, finding_row, found_given, found_there, row_from, rows_from}
use Rattle.dd_calls.specs.Findings.{unless_misnamed}
use Rattle.dd_calls.specs.declared.standing.Standing.{Standing as StandingValue}
use Rattle.dd_calls.specs.Standings.{Seen, seen_by, standing_view}

-- a value that is compared whole is its own front
pub whole_front : (value : List ℕ) → length value ≤ summary_length → value ≡ take summary_length value
whole_front value short = sym (take_all summary_length value short)

-- these rows, and then those of the others, where each of these can be judged
abbrev pub after : List FindingRow → Option (List FindingRow) → Option (List FindingRow)
after rows None = None
after rows (Some others) = Some (rows ++ others)

after_one : (rows : List FindingRow) (row : FindingRow) (others : Option (List FindingRow))
    → after rows (before (Some row) others) ≡ after (rows ++ row ∷ []) others
after_one rows row None = refl
after_one rows row (Some others) = ap Some (sym (append_assoc rows (row ∷ []) others))

drop_more : {A : Type 0} (xs : List A) (i : ℕ) (d : A) → i < length xs → drop i xs ≡ get_or xs i d ∷ drop (i + 1) xs
drop_more [] i d below = absurd (omega (arith, below))
drop_more (x ∷ xs) zero d below = refl
drop_more (x ∷ xs) (suc i) d below =
    let next : suc i + 1 ≡ suc (i + 1) = omega arith in
    drop_more xs i d (omega (arith, below))
    ∙ ap (λ (n : ℕ). get_or xs i d ∷ drop n (x ∷ xs)) (sym next)

drop_all : {A : Type 0} (xs : List A) (i : ℕ) → length xs ≤ i → drop i xs ≡ []
drop_all [] zero past = refl
drop_all [] (suc i) past = refl
drop_all (x ∷ xs) zero past = absurd (omega (arith, past))
drop_all (x ∷ xs) (suc i) past = drop_all xs i (omega (arith, past))

-- ---- what is given of one file

by_none : (b : Bool) (s : List ℕ) (f : List ℕ → Option FindingRow) → None ≡ (if b then Some s else None)
    → (if b then f s else None) ≡ None
by_none true s f is = cc
by_none false s f is = refl

by_some : (b : Bool) (s given : List ℕ) (f : List ℕ → Option FindingRow)
    → Some given ≡ (if b then Some s else None) → (if b then f s else None) ≡ f given
by_some true s given f is = cc
by_some false s given f is = cc

module _ (comparison : Comparison) (records : List Standing) (contents : List ℕ) (start : ℕ) (file : GivenFile) where
  abbrev is_within : Bool
  is_within = nat_le start file.end && nat_le file.end (length contents)

  abbrev there : List ℕ → Option FindingRow
  there given = option_map finding_row (found_there comparison file.given given (slice_get records file.row))

  pub not_given : None ≡ (if is_within then Some (slice_range contents start file.end) else None)
      → row_from comparison records contents start file ≡ None
  not_given is = by_none is_within (slice_range contents start file.end) there is

  pub is_given : (given : List ℕ) → Some given ≡ (if is_within then Some (slice_range contents start file.end) else None)
      → row_from comparison records contents start file ≡ there given
  is_given given is = by_some is_within (slice_range contents start file.end) given there is

-- ---- the record of a file

seen_in : (all : List Standing) (i : ℕ) (seen : Seen) → option_map seen_by (slice_get all i) ≡ Some seen
    → (entry : Standing) × (slice_get all i ≡ Some entry) × (seen ≡ seen_by entry)
seen_in all i seen is = by (slice_get all i) refl is where
  by : (found : Option Standing) → slice_get all i ≡ found → option_map seen_by found ≡ Some seen
      → (entry : Standing) × (slice_get all i ≡ Some entry) × (seen ≡ seen_by entry)
  by None at e = cc
  by (Some entry) at e = (entry, at, cc)

none_in : (all : List Standing) (i : ℕ) → option_map seen_by (slice_get all i) ≡ None → slice_get all i ≡ None
none_in all i is = by (slice_get all i) is where
  by : (found : Option Standing) → option_map seen_by found ≡ None → found ≡ None
  by None e = refl
  by (Some entry) e = cc

module _ (records : List StandingValue) (i : ℕ) (comparison : Comparison) (form : ℕ) (bytes : List ℕ) where
  same_at : (all : List Standing) → map standing_view records ≡ map seen_by all
      → option_map seen_by (slice_get all i) ≡ option_map standing_view (slice_get records i)
  same_at all same =
      sym (slice_get-map seen_by all i) ∙ ap (λ (l : List Seen). slice_get l i) (sym same)
      ∙ slice_get-map standing_view records i

  pub judged_there : {E : Type 0} (r : Result (Option FindingRow) E) (standing d : StandingValue) → i < length records
      → standing ≡ get_or records i d
      → IfOk r (λ row. (entry : Standing) → standing_view standing ≡ seen_by entry
      → row ≡ option_map finding_row (option_map (unless_misnamed entry.node) (found_given comparison entry form bytes)))
      → IfOk r (λ row. (all : List Standing) → map standing_view records ≡ map seen_by all
      → row ≡ option_map finding_row (found_there comparison form bytes (slice_get all i)))
  judged_there (Err e) standing d below is known = known
  judged_there (Ok row) standing d below is known = λ all same.
      let at = seen_in all i (standing_view (get_or records i d))
      (same_at all same ∙ ap (λ (s : Option StandingValue). option_map standing_view s)
      (slice_get-get_or records i d below)) in
      known at.0 (ap standing_view is ∙ at.2)
      ∙ ap (λ (s : Option Standing). option_map finding_row (found_there comparison form bytes s)) (sym at.1)

  pub nothing_there : length records ≤ i → (all : List Standing) → map standing_view records ≡ map seen_by all
      → None ≡ option_map finding_row (found_there comparison form bytes (slice_get all i))
  nothing_there past all same =
      ap (λ (s : Option Standing). option_map finding_row (found_there comparison form bytes s))
      (sym (none_in all i (same_at all same ∙ ap (λ (s : Option StandingValue). option_map standing_view s)
      (slice_get_past records i past))))

-- ---- all files

module _ (comparison : Comparison) (records : List Standing) (contents : List ℕ) (files : List GivenFile) where
  -- the rows of the first files were found, and the next begins at this place
  abbrev pub AreJudged : ℕ → ℕ → List FindingRow → Type 0
  AreJudged i start rows = rows_from comparison records contents 0 files
      ≡ after rows (rows_from comparison records contents start (drop i files))

  rows_after_none : (all : Option (List FindingRow)) → all ≡ after [] all
  rows_after_none None = refl
  rows_after_none (Some rows) = refl

  pub none_judged : AreJudged 0 0 []
  none_judged = rows_after_none (rows_from comparison records contents 0 files)

  next : (i start : ℕ) (d : GivenFile) (rows : List FindingRow) → i < length files → AreJudged i start rows
      → rows_from comparison records contents 0 files
      ≡ after rows (before (row_from comparison records contents start (get_or files i d))
      (rows_from comparison records contents (get_or files i d).end (drop (i + 1) files)))
  next i start d rows below so_far =
      so_far ∙ ap (λ (fs : List GivenFile). after rows (rows_from comparison records contents start fs))
      (drop_more files i d below)

  pub one_judged : (i start : ℕ) (d : GivenFile) (rows : List FindingRow) (row : FindingRow)
      → i < length files → row_from comparison records contents start (get_or files i d) ≡ Some row
      → AreJudged i start rows → AreJudged (i + 1) (get_or files i d).end (rows ++ row ∷ [])
  one_judged i start d rows row below found so_far =
      let others = rows_from comparison records contents (get_or files i d).end (drop (i + 1) files) in
      next i start d rows below so_far ∙ ap (λ (f : Option FindingRow). after rows (before f others)) found
      ∙ after_one rows row others

  pub one_amiss : (i start : ℕ) (d : GivenFile) (rows : List FindingRow) → i < length files
      → row_from comparison records contents start (get_or files i d) ≡ None → AreJudged i start rows
      → None ≡ rows_from comparison records contents 0 files
  one_amiss i start d rows below amiss so_far =
      let others = rows_from comparison records contents (get_or files i d).end (drop (i + 1) files) in
      sym (next i start d rows below so_far ∙ ap (λ (f : Option FindingRow). after rows (before f others)) amiss)

  pub all_judged : (i start : ℕ) (rows : List FindingRow) → length files ≤ i → AreJudged i start rows
      → Some rows ≡ rows_from comparison records contents 0 files
  all_judged i start rows past so_far =
      sym (so_far ∙ ap (λ (fs : List GivenFile). after rows (rows_from comparison records contents start fs))
      (drop_all files i past) ∙ ap Some (append-nil rows))
