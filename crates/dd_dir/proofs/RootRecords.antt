-- The root records of a directory among all of them.
use Rattle.std.proofs.Common.{◌≡◌, ℕ, Bool, true, false, List, [], ◌∷◌, ◌++◌, map, Option, Some, None, cond, reverse}
use Rattle.std.proofs.Common.{refl, sym, ap, ◌∙◌, append_assoc, append-nil}
use Rattle.std.specs.Prelude.{find, filter, option_map}
use Rattle.std.proofs.lemmas.List.{reverse-append}
use Rattle.std.specs.List.{last_or}
use Rattle.dd_version.specs.declared.parts.Parts.{Parts}
use Rattle.dd_records.specs.declared.label.Label.{Label}
use Rattle.dd_records.specs.declared.level.Level.{Level}
use Rattle.dd_records.specs.declared.level.Level.TheVariants.{Patient, Study, Series, Image}
use Rattle.dd_records.specs.declared.record.PlanRecord.{PlanRecord}
use Rattle.dd_layout.specs.Paths.{Path, is_path, parent_of}
use Rattle.dd_layout.specs.Plans.{at_or_none, level_of, record_at, records_of, tree}
use Rattle.dd_layout.specs.Tree.{children, first_child}
use Rattle.dd_set.proofs.FoundElements.{find-map}
use Rattle.dd_dir.specs.Directories.{first_root, last_root}

abbrev pub is_root : Level → Bool
is_root Patient = true
is_root Study = false
is_root Series = false
is_root Image = false

-- the offset of a record
abbrev pub offset_of : Option PlanRecord → ℕ
offset_of None = 0
offset_of (Some row) = row.at

-- a path of one part, and no other, is of a record at the root
root_is : (x : Path) → is_path (parent_of x) [] ≡ is_root (level_of x)
root_is [] = refl
root_is (a ∷ []) = refl
root_is (a ∷ b ∷ []) = refl
root_is (a ∷ b ∷ c ∷ []) = refl
root_is (a ∷ b ∷ c ∷ d ∷ x) = refl

-- the offset of a record is the offset of its path
offset_is : (label : Label) (versions : List Parts) (x : Option Path)
    → offset_of (option_map (record_at label versions) x) ≡ at_or_none label versions x
offset_is label versions None = refl
offset_is label versions (Some x) = refl

pub first_is : (label : Label) (versions : List Parts) (rows : List PlanRecord) (r : Option PlanRecord)
    → rows ≡ records_of label versions → r ≡ find (λ row. is_root row.level) rows
    → offset_of r ≡ first_root label versions
first_is label versions rows r is found =
    let mapped : option_map (record_at label versions) (first_child (tree versions) [])
    ≡ find (λ row. is_root row.level) (map (record_at label versions) (tree versions)) =
    find-map (record_at label versions) (λ row. is_root row.level) (λ x. is_path (parent_of x) []) root_is
    (tree versions) in
    ap offset_of (found ∙ ap (λ (l : List PlanRecord). find (λ row. is_root row.level) l) is ∙ sym mapped)
    ∙ offset_is label versions (first_child (tree versions) [])

-- ---- the last one

-- the first from the back is the last of all that pass
find_reverse : {A : Type 0} (p : A → Bool) (xs ys : List A)
    → find p (reverse xs ++ ys) ≡ last_or (find p ys) (filter p xs)
find_reverse p [] ys = refl
find_reverse p (x ∷ xs) ys =
    ap (λ l. find p (l ++ ys)) (reverse-append (x ∷ []) xs) ∙ ap (λ l. find p l) (append_assoc (reverse xs) (x ∷ []) ys)
    ∙ find_reverse p xs (x ∷ ys) ∙ turn (p x) where
      turn : (b : Bool) → last_or (cond b (Some x) (find p ys)) (filter p xs)
          ≡ last_or (find p ys) (cond b (x ∷ filter p xs) (filter p xs))
      turn true = refl
      turn false = refl

-- the last picture of all that pass
last_map : {A B : Type 0} (f : A → B) (test : B → Bool) (p : A → Bool) → ((x : A) → p x ≡ test (f x)) → (o : Option A)
    (xs : List A) → option_map f (last_or o (filter p xs)) ≡ last_or (option_map f o) (filter test (map f xs))
last_map f test p same o [] = refl
last_map f test p same o (x ∷ xs) =
    rw (same x) (turn (test (f x)) (last_map f test p same (Some x) xs) (last_map f test p same o xs)) where
      turn : (b : Bool) → option_map f (last_or (Some x) (filter p xs)) ≡ last_or (Some (f x)) (filter test (map f xs))
          → option_map f (last_or o (filter p xs)) ≡ last_or (option_map f o) (filter test (map f xs))
          → option_map f (last_or o (cond b (x ∷ filter p xs) (filter p xs)))
          ≡ last_or (option_map f o) (cond b (f x ∷ filter test (map f xs)) (filter test (map f xs)))
      turn true one other = one
      turn false one other = other

pub last_is : (label : Label) (versions : List Parts) (rows : List PlanRecord) (r : Option PlanRecord)
    → rows ≡ records_of label versions → r ≡ find (λ row. is_root row.level) (reverse rows)
    → offset_of r ≡ last_root label versions
last_is label versions rows r is found =
    let back : find (λ row. is_root row.level) (reverse rows) ≡ last_or None (filter (λ row. is_root row.level) rows) =
    ap (λ l. find (λ row. is_root row.level) l) (sym (append-nil (reverse rows)))
    ∙ find_reverse (λ row. is_root row.level) rows [] in
    let mapped : option_map (record_at label versions) (last_or None (children (tree versions) []))
    ≡ last_or None (filter (λ row. is_root row.level) (map (record_at label versions) (tree versions))) =
    last_map (record_at label versions) (λ row. is_root row.level) (λ x. is_path (parent_of x) []) root_is None
    (tree versions) in
    ap offset_of (found ∙ back
    ∙ ap (λ (l : List PlanRecord). last_or None (filter (λ row. is_root row.level) l)) is ∙ sym mapped)
    ∙ offset_is label versions (last_or None (children (tree versions) []))
