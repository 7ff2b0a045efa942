-- The sources that images are made of have versions, so that their names are paths.
use Rattle.std.proofs.Common.{◌≡◌, ◌∙◌, ◌+◌, ◌<◌, ℕ, suc, List, [], ◌∷◌, Bool, Option, None, Some, Ok, Err}
use Rattle.std.proofs.Common.{arith, false, get_or, length, map, refl, subst, true}
use Rattle.std.proofs.lemmas.List.Elements.{All-cons, All-contains, All-weaker}
use Rattle.std.proofs.lemmas.Option.{slice_get_within}
use Rattle.std.specs.Prelude.{All, IfSome, filter, if◌then◌else◌, slice_get}
use Rattle.std.specs.Str.{IsUtf8}
use Rattle.dd_sources.specs.Indexing.{accepted, accepted_from}
use Rattle.dd_sources.specs.Readings.{Reading, answers_of}
use Rattle.dd_engine.specs.Picking.{ArePicked, FileKey, file_of, files_of, found, found_by, is_image, is_one}
use Rattle.dd_files.specs.Files.{Held}
use Rattle.dd_records.specs.declared.record.PlanRecord.{PlanRecord}
use Rattle.dd_version.specs.declared.parts.Parts.{Parts}
use Rattle.dd_file_set.proofs.Unlinked.{SaysToo}
use Rattle.dicomdir.specs.Indexes.{AnswersName, AreRead, IsRead}
use Rattle.dd_inputs.specs.ListedNames.{HavePaths}
use Rattle.dicomdir.specs.Origins.{IsPathAt}

-- ---- what is picked

-- the source was read, and has a version
abbrev pub HasVersion : List Reading → ℕ → Type 0
HasVersion readings at = (version : Parts) × (slice_get readings at ≡ Some (Ok (Ok version)))

-- what is found among these from a number on
record FoundFrom (n : ℕ) (readings : List Reading) (at : ℕ) : Type 0 where
  k : ℕ
  same : at ≡ n + k
  has : HasVersion readings k

found_later : (n at : ℕ) (reading : Reading) (readings : List Reading) → FoundFrom (suc n) readings at
    → FoundFrom n (reading ∷ readings) at
found_later n at reading readings there = record { k = suc there.k; same = omega (arith, there.same); has = there.has }

found_here : (n : ℕ) (version : Parts) (readings : List Reading) (file : FileKey) (at : ℕ)
    → (found (files_of (accepted_from (suc n) (answers_of readings))) file ≡ Some at → FoundFrom (suc n) readings at)
    → (b : Bool) → (if b then Some n else found (files_of (accepted_from (suc n) (answers_of readings))) file) ≡ Some at
    → FoundFrom n (Ok (Ok version) ∷ readings) at
found_here n version readings file at later true here =
    record { k = 0; same = (let e : n ≡ at = cc in omega (arith, e)); has = (version, refl) }
found_here n version readings file at later false there = found_later n at (Ok (Ok version)) readings (later there)

found_at : (n : ℕ) (readings : List Reading) (file : FileKey) (at : ℕ)
    → found (files_of (accepted_from n (answers_of readings))) file ≡ Some at → FoundFrom n readings at
found_at n [] file at is = absurd (cc)
found_at n (Ok (Ok version) ∷ readings) file at is =
    found_here n version readings file at (λ there. found_at (suc n) readings file at there)
    (is_one (file_of version) file) is
found_at n (Ok (Err fault) ∷ readings) file at is =
    found_later n at (Ok (Err fault)) readings (found_at (suc n) readings file at is)
found_at n (Err fault ∷ readings) file at is =
    found_later n at (Err fault) readings (found_at (suc n) readings file at is)

found_in : (readings : List Reading) (version : Option Parts) (at : ℕ)
    → found_by (files_of (accepted (answers_of readings))) version ≡ Some at → HasVersion readings at
found_in readings None at is = absurd (cc)
found_in readings (Some version) at is =
    let there = found_at 0 readings (file_of version) at is in
    let same : there.k ≡ at = omega (arith, there.same) in
    subst (HasVersion readings) same there.has

each_found : {R : Type 0} (f : R → Option ℕ) (Q : ℕ → Type 0) → ((row : R) (at : ℕ) → f row ≡ Some at → Q at)
    → (rows : List R) (picks : List ℕ) → map (λ pick. Some pick) picks ≡ map f rows → All Q picks
each_found f Q of rows [] is = λ k d within. absurd (omega (arith, within))
each_found f Q of [] (pick ∷ picks) is = absurd (cc)
each_found f Q of (row ∷ rows) (pick ∷ picks) is =
    let here : f row ≡ Some pick = cc in
    let later : map (λ (n : ℕ). Some n) picks ≡ map f rows = cc in
    All-cons Q pick picks (of row pick here) (each_found f Q of rows picks later)

pub picks_have : (readings : List Reading) (versions : List Parts) (rows : List PlanRecord) (picks : List ℕ)
    → ArePicked (files_of (accepted (answers_of readings))) versions rows picks → All (HasVersion readings) picks
picks_have readings versions rows picks is =
    each_found (λ row. found_by (files_of (accepted (answers_of readings))) (slice_get versions row.of))
    (HasVersion readings) (λ row at found. found_in readings (slice_get versions row.of) at found)
    (filter is_image rows) picks is

-- ---- their names

module _ (sources paths : List (List ℕ)) (bad : List ℕ) (old : Option Held) (readings : List Reading)
    (have : HavePaths sources paths bad) (read : AreRead sources old readings) where
  path_is : (at : ℕ) → HasVersion readings at → get_or paths at [] ≡ get_or sources at []
  path_is at (version, is) =
      let within : at < length sources =
      subst (λ (n : ℕ). at < n) read.count (slice_get_within readings at (Ok (Ok version)) is) in
      let answers : AnswersName old (get_or sources at []) (Ok version) =
      subst (λ (o : Option Reading). IfSome o (IsRead old (get_or sources at []))) is (read.each at) in
      have.named at within (λ has.
      (All-contains (λ n. (n < length sources) × ¬ IsUtf8 (get_or sources n [])) bad at have.others has).1
      answers.path)

  -- the paths of the picks are their names
  pub picks_named : (versions : List Parts) (rows : List PlanRecord) (picks : List ℕ)
      → ArePicked (files_of (accepted (answers_of readings))) versions rows picks
      → All (λ at. SaysToo (IsPathAt paths at) (IsPathAt sources at) (λ _. ⊥) (λ _. ⊥)) picks
  picks_named versions rows picks is =
      All-weaker (HasVersion readings)
      (λ at. SaysToo (IsPathAt paths at) (IsPathAt sources at) (λ _. ⊥) (λ _. ⊥))
      (λ at has. record { stands = λ path here. here ∙ path_is at has; links = λ bytes may. may })
      picks (picks_have readings versions rows picks is)
