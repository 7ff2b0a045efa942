-- The images that were made so far, of the records so far.
use Rattle.std.proofs.Common.{◌≡◌, ◌∙◌, ℕ, zero, suc, ◌+◌, ◌<◌, ◌≤◌, ◌-◌, List, [], ◌∷◌, ◌++◌, Bool, Option, None, Some}
use Rattle.std.proofs.Common.{length, take, drop, filter, get_or, refl, sym, ap, subst, arith, is_some, append-nil}
use Rattle.std.proofs.Common.{if◌then◌else◌}
use Rattle.std.specs.Prelude.{zip}
use Rattle.std.proofs.lemmas.List.{take_all, take_more}
use Rattle.std.proofs.lemmas.List.Elements.{filter-append}
use Rattle.dd_elem.specs.FileId.{Ranks}
use Rattle.dd_files.specs.Files.{Held}
use Rattle.dd_version.specs.declared.parts.Parts.{Parts}
use Rattle.dd_records.specs.declared.record.PlanRecord.{PlanRecord}
use Rattle.dd_file_set.specs.Made.{Copies, CopiesTo, MakesImages, MakesRow, MakesRows}

-- the records that have a file
abbrev pub named : List PlanRecord → List PlanRecord
named rows = filter (λ row. is_some row.file) rows

-- one more image was made after others
rows_then : {P : Type 0} (From MayLink : P → List ℕ → Type 0) (said : P → Option Parts) (folder : List ℕ)
    (versions : List Parts)
    (rows : List (PlanRecord × P)) (row : PlanRecord) (pick : P) (a b c : Option Held)
    → MakesRows From MayLink said folder versions rows a b → MakesRow (From pick) (MayLink pick)
    (said pick) folder versions row b c
    → MakesRows From MayLink said folder versions (rows ++ (row, pick) ∷ []) a c
rows_then From MayLink said folder versions [] row pick a b c so_far made = (
  c,
  subst (λ (held : Option Held). MakesRow (From pick) (MayLink pick) (said pick) folder versions row held c)
      so_far made,
  refl,
)
rows_then From MayLink said folder versions (first ∷ rows) row pick a b c so_far made =
    (so_far.0, so_far.1, rows_then From MayLink said folder versions rows row pick so_far.0 b c so_far.2 made)

-- ---- records, each with its pick

-- where a pick is left, one more record is paired with it
zip_more : {P : Type 0} (xs : List PlanRecord) (x : PlanRecord) (picks : List P) (pick : P) (more : List P)
    → drop (length xs) picks ≡ pick ∷ more → zip (xs ++ x ∷ []) picks ≡ zip xs picks ++ (x, pick) ∷ []
zip_more [] x picks pick more is = rw is refl
zip_more (y ∷ xs) x [] pick more is = absurd (cc)
zip_more (y ∷ xs) x (first ∷ picks) pick more is =
    ap (λ (rest : List (PlanRecord × _)). (y, first) ∷ rest) (zip_more xs x picks pick more is)

drop_more : {P : Type 0} (xs : List PlanRecord) (x : PlanRecord) (picks : List P) (pick : P) (more : List P)
    → drop (length xs) picks ≡ pick ∷ more → more ≡ drop (length (xs ++ x ∷ [])) picks
drop_more [] x picks pick more is = rw is refl
drop_more (y ∷ xs) x [] pick more is = absurd (cc)
drop_more (y ∷ xs) x (first ∷ picks) pick more is = drop_more xs x picks pick more is

-- where no pick is left, further records are not paired
zip_none : {P : Type 0} (ys : List PlanRecord) → zip {X = P} ys [] ≡ []
zip_none [] = refl
zip_none (y ∷ ys) = refl

zip_full : {P : Type 0} (xs ys : List PlanRecord) (picks : List P) → drop (length xs) picks ≡ []
    → zip (xs ++ ys) picks ≡ zip xs picks
zip_full [] ys picks is = rw is (zip_none ys)
zip_full (x ∷ xs) ys [] is = refl
zip_full (x ∷ xs) ys (first ∷ picks) is =
    ap (λ (rest : List (PlanRecord × _)). (x, first) ∷ rest) (zip_full xs ys picks is)

drop_none : {P : Type 0} (n : ℕ) → drop {A = P} n [] ≡ []
drop_none zero = refl
drop_none (suc n) = refl

drop_full : {P : Type 0} (xs ys : List PlanRecord) (picks : List P) → drop (length xs) picks ≡ []
    → drop (length (xs ++ ys)) picks ≡ []
drop_full [] ys picks is = rw is (drop_none (length ys))
drop_full (x ∷ xs) ys [] is = refl
drop_full (x ∷ xs) ys (first ∷ picks) is = drop_full xs ys picks is

-- ---- one record more

-- a record with a file is among them, and one with none is not
kept : (row : PlanRecord) (file : Ranks) → row.file ≡ Some file → named (row ∷ []) ≡ row ∷ []
kept row file some = ap (λ (yes : Bool). if yes then row ∷ [] else []) (ap is_some some)

left_out : (row : PlanRecord) → row.file ≡ None → named (row ∷ []) ≡ []
left_out row unnamed = ap (λ (yes : Bool). if yes then row ∷ [] else []) (ap is_some unnamed)

named_more : (rows : List PlanRecord) (at : ℕ) (d : PlanRecord) → at < length rows
    → named (take (at + 1) rows) ≡ named (take at rows) ++ named (get_or rows at d ∷ [])
named_more rows at d within =
    ap named (take_more rows at d within)
    ∙ filter-append (λ row. is_some row.file) (take at rows) (get_or rows at d ∷ [])

-- where the next record has no file, the records with a file stay the same
more_unnamed : (rows : List PlanRecord) (at : ℕ) (d : PlanRecord) → at < length rows
    → (get_or rows at d).file ≡ None → named (take (at + 1) rows) ≡ named (take at rows)
more_unnamed rows at d within unnamed =
    named_more rows at d within
    ∙ ap (λ (xs : List PlanRecord). named (take at rows) ++ xs) (left_out (get_or rows at d) unnamed)
    ∙ append-nil (named (take at rows))

-- where the next record has a file, it is one more of them
more_named : (rows : List PlanRecord) (at : ℕ) (d : PlanRecord) (file : Ranks) → at < length rows
    → (get_or rows at d).file ≡ Some file
    → named (take (at + 1) rows) ≡ named (take at rows) ++ get_or rows at d ∷ []
more_named rows at d file within some =
    named_more rows at d within
    ∙ ap (λ (xs : List PlanRecord). named (take at rows) ++ xs) (kept (get_or rows at d) file some)

-- ---- the images so far

-- the images of the records before this place are made, and these picks are left for the others
pub record SoFar {P : Type 0} (From MayLink : P → List ℕ → Type 0) (said : P → Option Parts) (folder : List ℕ)
    (versions : List Parts)
    (rows : List PlanRecord) (all : List P) (at : ℕ) (left : List P) (old now : Option Held) : Type 0 where
  pub made : MakesRows From MayLink said folder versions (zip (named (take at rows)) all) old now
  pub rest : left ≡ drop (length (named (take at rows))) all

pub none_yet : {P : Type 0} (From MayLink : P → List ℕ → Type 0) (said : P → Option Parts) (folder : List ℕ)
    (versions : List Parts)
    (rows : List PlanRecord) (all : List P) (held : Option Held)
    → SoFar From MayLink said folder versions rows all 0 all held held
none_yet From MayLink said folder versions rows all held = record { made = refl; rest = refl }

so_far_by : {P : Type 0} (From MayLink : P → List ℕ → Type 0) (said : P → Option Parts) (folder : List ℕ)
    (versions : List Parts)
    (rows : List PlanRecord) (all : List P) (at : ℕ) (d : PlanRecord) (file : Option Ranks) (left later : List P)
    (a b c : Option Held) → at < length rows → (get_or rows at d).file ≡ file
    → CopiesTo From MayLink said folder versions (get_or rows at d) file left later b c
    → SoFar From MayLink said folder versions rows all at left a b → SoFar From MayLink said folder versions rows all
    (at + 1) later a c
so_far_by From MayLink said folder versions rows all at d None left later a b c within is copied so_far = record {
  made = rw (more_unnamed rows at d within is, copied.1) so_far.made;
  rest = rw (more_unnamed rows at d within is) (copied.0 ∙ so_far.rest);
}
so_far_by From MayLink said folder versions rows all at d (Some file) [] later a b c within is copied so_far =
    let front = named (take at rows) in
    let row = get_or rows at d in
    let none = sym so_far.rest in
    record {
      made = rw (more_named rows at d file within is, copied.1, zip_full front (row ∷ []) all none) so_far.made;
      rest = rw (more_named rows at d file within is) (copied.0 ∙ sym (drop_full front (row ∷ []) all none));
    }
so_far_by From MayLink said folder versions rows all at d (Some file)
    (pick ∷ more) later a b c within is copied so_far =
    let front = named (take at rows) in
    let row = get_or rows at d in
    let some = sym so_far.rest in
    record {
      made = rw (more_named rows at d file within is, zip_more front row all pick more some)
          (rows_then From MayLink said folder versions (zip front all) row pick a b c so_far.made copied.1);
      rest = rw (more_named rows at d file within is) (copied.0 ∙ drop_more front row all pick more some);
    }

-- after one more record, the same holds
pub so_far_more : {P : Type 0} (From MayLink : P → List ℕ → Type 0) (said : P → Option Parts) (folder : List ℕ)
    (versions : List Parts)
    (rows : List PlanRecord) (all : List P) (at : ℕ) (d : PlanRecord) (left later : List P) (a b c : Option Held)
    → at < length rows → Copies From MayLink said folder versions (get_or rows at d) left later b c
    → SoFar From MayLink said folder versions rows all at left a b → SoFar From MayLink said folder versions rows all
    (at + 1) later a c
so_far_more From MayLink said folder versions rows all at d left later a b c within copied so_far =
    so_far_by From MayLink said folder versions rows all at d
    (get_or rows at d).file left later a b c within refl copied so_far

-- after all records, the images of all of them are made
pub made_all : {P : Type 0} (From MayLink : P → List ℕ → Type 0) (said : P → Option Parts) (folder : List ℕ)
    (versions : List Parts)
    (rows : List PlanRecord) (all : List P) (at : ℕ) (left : List P) (a b : Option Held) → length rows ≤ at
    → SoFar From MayLink said folder versions rows all at left a b
    → MakesImages From MayLink said folder versions rows all a b
made_all From MayLink said folder versions rows all at left a b past so_far =
    subst (λ (xs : List PlanRecord). MakesRows From MayLink said folder versions (zip (named xs) all) a b)
    (take_all at rows past)
    so_far.made

-- ---- one record

copied_one : {P : Type 0} (From MayLink : P → List ℕ → Type 0) (said : P → Option Parts) (folder : List ℕ)
    (versions : List Parts) (row : PlanRecord)
    (file : Option Ranks) (f : Ranks) (picks : List P) (d : P) (a b : Option Held) → file ≡ Some f → 1 ≤ length picks
    → MakesRow (From (get_or picks 0 d)) (MayLink (get_or picks 0 d)) (said (get_or picks 0 d)) folder versions row a b
    → CopiesTo From MayLink said folder versions row file picks (take (length picks - 1) (drop 1 picks)) a b
copied_one From MayLink said folder versions row None f picks d a b some one made = absurd (cc)
copied_one From MayLink said folder versions row (Some file) f [] d a b some one made = absurd (omega (arith, one))
copied_one From MayLink said folder versions row (Some file) f (pick ∷ more) d a b some one made =
    (take_all (length (pick ∷ more) - 1) more (omega arith), made)

-- the image of the record was made, of the first pick
pub copies_one : {P : Type 0} (From MayLink : P → List ℕ → Type 0) (said : P → Option Parts) (folder : List ℕ)
    (versions : List Parts)
    (row : PlanRecord) (picks : List P) (d : P) (a b : Option Held) → 1 ≤ length picks
    → MakesRow (From (get_or picks 0 d)) (MayLink (get_or picks 0 d)) (said (get_or picks 0 d)) folder versions row a b
    → Copies From MayLink said folder versions row picks (take (length picks - 1) (drop 1 picks)) a b
copies_one From MayLink said folder versions row picks d a b one made =
    copied_one From MayLink said folder versions row row.file made.file picks d a b made.named one made
