-- The files of the images of a plan: what one more image adds, the same files by other marks, and that each version
-- has a file.
use denote.Enum.Bare.{sameb}
use Rattle.std.specs.Prelude.{◌≡◌, ◌≢◌, true, List, [], ◌∷◌, All, Contains, map}
use Rattle.std.specs.Prelude.{filter, get_or, Option, None, Some, slice_get, option_map}
use Rattle.std.specs.List.{AllByRecursion}
use Rattle.std.specs.Ordering.{is_eq}
use Rattle.std.proofs.Common.{refl, sym, ◌∙◌, ap, subst, inl, inr}
use Rattle.std.proofs.lemmas.Cmp.{tied_itself}
use Rattle.std.proofs.lemmas.List.{get_or_default}
use Rattle.std.proofs.lemmas.List.Elements.{All-from_recursion}
use Rattle.std.proofs.lemmas.Option.{same_Some}
use Rattle.dd_catalogue.proofs.Members.{Member, member_of}
use Rattle.dd_catalogue.proofs.BestMembers.{best_is_best}
use Rattle.dd_catalogue.specs.Rising.{by_test}
use Rattle.dd_catalogue.specs.Versions.{best_of, versions_ordered}
use Rattle.dd_version.specs.declared.parts.Parts.{Parts}
use Rattle.dd_records.specs.contracts.level.Level.{the_type}
use Rattle.dd_records.specs.declared.level.Level.{Level}
use Rattle.dd_records.specs.declared.level.Level.TheVariants.{Patient, Study, Series, Image}
use Rattle.dd_records.specs.declared.record.PlanRecord.{PlanRecord}
use Rattle.dd_engine.specs.Picking.{AreHeld, ArePicked, FileKey, file_of, found, found_by, is_image, is_one}
use Rattle.dd_engine.proofs.FirstMarks.{file_total, one_file}

-- ---- one record more

-- the test of the level says whether the record is an IMAGE record
pub tested : (row : PlanRecord) → sameb the_type row.level Image ≡ is_image row
tested row = by row.level where
  by : (level : Level) → sameb the_type level Image ≡ is_image (record row { level = level })
  by Patient = refl
  by Study = refl
  by Series = refl
  by Image = refl

-- ---- what is found, by other marks

pub twice : {A B C : Type 0} (g : B → C) (f : A → B) (xs : List A) → map g (map f xs) ≡ map (λ x. g (f x)) xs
twice g f [] = refl
twice g f (x ∷ xs) = ap (λ l. g (f x) ∷ l) (twice g f xs)

-- where each place is mapped, what is found is mapped too
found_told : {T U : Type 0} (f : T → U) (marks : List (T × FileKey)) (file : FileKey)
    → option_map f (found marks file) ≡ found (map (λ mark. (f mark.0, mark.1)) marks) file
found_told f [] file = refl
found_told f (mark ∷ marks) file = by_test (is_one mark.1 file)
    (λ e. rw e refl)
    (λ e. rw e (found_told f marks file))

pub told_by : {T U : Type 0} (f : T → U) (marks : List (T × FileKey)) (o : Option Parts)
    → option_map f (found_by marks o) ≡ found_by (map (λ mark. (f mark.0, mark.1)) marks) o
told_by f marks None = refl
told_by f marks (Some version) = found_told f marks (file_of version)

given : {T U : Type 0} (f : T → U) (picks : List T)
    → map (λ pick. Some pick) (map f picks) ≡ map (option_map f) (map (λ pick. Some pick) picks)
given f [] = refl
given f (pick ∷ picks) = ap (λ l. Some (f pick) ∷ l) (given f picks)

pub picks_told : {T U : Type 0} (f : T → U) (marks : List (T × FileKey)) (versions : List Parts)
    (rows : List PlanRecord) (picks : List T) → ArePicked marks versions rows picks
    → ArePicked (map (λ mark. (f mark.0, mark.1)) marks) versions rows (map f picks)
picks_told f marks versions rows picks is =
    given f picks ∙ ap (map (option_map f)) is
    ∙ twice (option_map f) (λ row. found_by marks (slice_get versions row.of)) (filter is_image rows)
    ∙ (λ j. map (λ row. told_by f marks (slice_get versions row.of) j) (filter is_image rows))

-- ---- what holds for every place holds for each picked place

nothing : {T : Type 0} (at : T) → ◌≡◌ {A = Option T} None (Some at) → ⊥
nothing at is = cc

holds_of_found : {T : Type 0} (P : T → Type 0) (marks : List (T × FileKey)) (file : FileKey) (at : T)
    → AllByRecursion (λ mark. P mark.0) marks → found marks file ≡ Some at → P at
holds_of_found P [] file at all is = absurd (nothing at is)
holds_of_found P (mark ∷ marks) file at all is = by_test (is_one mark.1 file)
    (λ e. let here = rw e at is in subst P (same_Some mark.0 at here) all.0)
    (λ e. let there = rw e at is in holds_of_found P marks file at all.1 there)

pub holds_by : {T : Type 0} (P : T → Type 0) (marks : List (T × FileKey)) (o : Option Parts) (at : T)
    → AllByRecursion (λ mark. P mark.0) marks → found_by marks o ≡ Some at → P at
holds_by P marks None at all is = absurd (nothing at is)
holds_by P marks (Some version) at all is = holds_of_found P marks (file_of version) at all is

pub holds_of_picks : {T : Type 0} (P : T → Type 0) (marks : List (T × FileKey)) (versions : List Parts)
    (rows : List PlanRecord) (picks : List T) → AllByRecursion (λ mark. P mark.0) marks
    → ArePicked marks versions rows picks → All P picks
holds_of_picks {T} P marks versions rows picks all is =
    All-from_recursion P picks (each picks (filter is_image rows) is) where
      each : (picks : List T) (images : List PlanRecord)
          → map (λ pick. Some pick) picks ≡ map (λ row. found_by marks (slice_get versions row.of)) images
          → AllByRecursion P picks
      each [] images is = tt
      each (pick ∷ picks) [] is = absurd (cc is)
      each (pick ∷ picks) (row ∷ images) is =
          let first : Some pick ≡ found_by marks (slice_get versions row.of) = cc is in
          let rest : map (λ pick. Some pick) picks ≡ map (λ row. found_by marks (slice_get versions row.of)) images
          = cc is in
          (holds_by P marks (slice_get versions row.of) pick all (sym first), each picks images rest)

-- ---- each version of a plan has a file

own_file : (version : Parts) → is_one (file_of version) (file_of version) ≡ true
own_file version = one_file (file_of version) (file_of version) ∙ ap is_eq (tied_itself file_total (file_of version))

among : (versions : List Parts) (version other : Parts) → is_one (file_of version) (file_of other) ≡ true
    → Member version versions → filter (λ file. is_one file (file_of other)) (map (λ v. file_of v) versions) ≢ []
among [] version other e there = absurd there
among (first ∷ versions) version other e (inl is) =
    let here : is_one (file_of first) (file_of other) ≡ true = ap (λ v. is_one (file_of v) (file_of other)) is ∙ e in
    rw here (λ none. cc none)
among (first ∷ versions) version other e (inr there) = by_test (is_one (file_of first) (file_of other))
    (λ f. rw f (λ none. cc none))
    (λ f. rw f (among versions version other e there))

-- each version that is kept of them has a file
pub each_kept : (versions left : List Parts) → ((v : Parts) → Member v left → Member v versions)
    → AreHeld (map (λ v. file_of v) versions) (best_of left)
each_kept versions left among_them k d below =
    let m = best_of left in
    let version = get_or m k d in
    let there : Contains m version = (k, below, get_or_default m k version d below) in
    let from = ((best_is_best versions_ordered left).each version).0 there in
    among versions version version (own_file version) (among_them version (member_of version left from.member))

-- and so it is among other files, where each file has the same matches
pub held_too : (files others : List FileKey) (planned : List Parts) → AreHeld others planned
    → ((file : FileKey) → filter (λ one. is_one one file) files ≡ filter (λ one. is_one one file) others)
    → AreHeld files planned
held_too files others planned all same k d below none =
    all k d below (sym (same (file_of (get_or planned k d))) ∙ none)
