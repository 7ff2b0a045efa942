-- The files that are left out: what one more version adds to them, and that each kept version has a mark.
use Rattle.std.specs.Prelude.{◌≡◌, ◌≢◌, Bool, true, not, ℕ, List, [], ◌∷◌, ◌++◌, Contains, filter, map}
use Rattle.std.specs.Prelude.{Some}
use Rattle.std.specs.List.{list_all, zip}
use Rattle.std.specs.List.Sorted.{IsStable}
use Rattle.std.specs.Ordering.{is_eq}
use Rattle.std.proofs.Common.{refl, sym, ◌∙◌, ap, subst, inl, inr, true≢false}
use Rattle.std.proofs.lemmas.List.{map-append}
use Rattle.std.proofs.lemmas.List.Elements.{filter-append}
use Rattle.std.proofs.lemmas.Option.{none-some, same_Some}
use Rattle.dd_catalogue.proofs.Members.{Member, contained}
use Rattle.dd_catalogue.specs.Rising.{by_test}
use Rattle.dd_catalogue.specs.Versions.{kept}
use Rattle.dd_elem.specs.Ordered.{bytes_cmp}
use Rattle.dd_version.specs.declared.parts.Parts.{Parts}
use Rattle.dd_engine.specs.declared.marks.Mark.{Mark}
use Rattle.dd_engine.specs.declared.notes.LeftOut.{LeftOut}
use Rattle.dd_engine.specs.Noting.{LeftAs, is_other, left_as}
use Rattle.dd_engine.specs.Picking.{AreHeld, FileKey, file_of, found, found_by, is_one, key_of, mark_cmp, mark_view}
use Rattle.dd_engine.proofs.FirstMarks.{files_stay, files_viewed, found_stays}
use Rattle.dd_engine.proofs.ImagePicks.{held_too}

-- the places and the UID of a note
abbrev pub says : {T : Type 0} → LeftOut T → LeftAs T
says note = (note.file, Some note.kept, note.instance)

-- what notes say of the versions that are left out, where `files` are the files of all versions
abbrev pub named : {T : Type 0} → List (T × FileKey) → List Parts → List (T × Parts) → List (LeftAs T)
named files m versions =
    map (left_as files m) (filter (λ version. is_other (kept m version.1.instance) version.1) versions)

module _ {T : Type 0} (files : List (T × FileKey)) (m : List Parts) where
  named_more : (done : List (T × Parts)) (next : T × Parts)
      → named files m (done ++ next ∷ []) ≡ named files m done ++ named files m (next ∷ [])
  named_more done next =
      let test : T × Parts → Bool = λ version. is_other (kept m version.1.instance) version.1 in
      ap (map (left_as files m)) (filter-append test done (next ∷ []))
      ∙ map-append (left_as files m) (filter test done) (filter test (next ∷ []))

  -- one version more, of whose instance other bytes are kept, adds its note
  pub note_more : (done : List (T × Parts)) (next : T × Parts) (notes : List (LeftOut T)) (note : LeftOut T)
      (one : Parts) → kept m next.1.instance ≡ Some one → is_other (Some one) next.1 ≡ true → note.file ≡ next.0
      → Some note.kept ≡ found files (file_of one) → note.instance ≡ next.1.instance
      → map (λ note. says note) notes ≡ named files m done
      → map (λ note. says note) (notes ++ note ∷ []) ≡ named files m (done ++ next ∷ [])
  note_more done next notes note one is other file first instance was =
      let chosen : is_other (kept m next.1.instance) next.1 ≡ true = ap (λ o. is_other o next.1) is ∙ other in
      let here : named files m (next ∷ []) ≡ left_as files m next ∷ [] = rw chosen refl in
      let said : says note ≡ left_as files m next =
      (λ j. (file j, first j, instance j)) ∙ ap (λ o. (next.0, found_by files o, next.1.instance)) (sym is) in
      map-append (λ note. says note) notes (note ∷ [])
      ∙ ap (λ l. l ++ says note ∷ []) was
      ∙ ap (λ n. named files m done ++ n ∷ []) said
      ∙ ap (λ l. named files m done ++ l) (sym here)
      ∙ sym (named_more done next)

-- where other bytes are kept of no version's instance, nothing is left out
pub none_left : {T : Type 0} (files : List (T × FileKey)) (m : List Parts) (places : List T) (versions : List Parts)
    → list_all (λ version. not (is_other (kept m version.instance) version)) versions ≡ true
    → [] ≡ named files m (zip places versions)
none_left files m [] versions all = refl
none_left files m (at ∷ places) [] all = refl
none_left files m (at ∷ places) (version ∷ versions) all = by_test (is_other (kept m version.instance) version)
    (λ e. absurd (true≢false (sym (rw e at all))))
    (λ e. rw e (none_left files m places versions (rw e at all)))

-- ---- marks in the order of their files

-- a version that m keeps is a member of m
member_kept : (m : List Parts) (uid : List ℕ) (one : Parts) → kept m uid ≡ Some one → Member one m
member_kept [] uid one is = absurd (none-some one is)
member_kept (v ∷ m) uid one is = by_test (is_eq (bytes_cmp v.instance uid))
    (λ e. inl (same_Some v one (rw e at is)))
    (λ e. inr (member_kept m uid one (rw e at is)))

held_member : (files : List FileKey) (m : List Parts) (one : Parts) → AreHeld files m → Contains m one
    → filter (λ file. is_one file (file_of one)) files ≢ []
held_member files m one all (k, below, is) =
    subst (λ v. filter (λ file. is_one file (file_of v)) files ≢ []) is (all k one below)

-- so the kept version has a mark
pub marks_held : {T : Type 0} (files : List (T × FileKey)) (xs ys : List (Mark T)) (m : List Parts) (uid : List ℕ)
    (one : Parts) → AreHeld (map (λ file. file.1) files) m → map (λ mark. mark_view mark) xs ≡ files
    → IsStable mark_cmp xs ys → kept m uid ≡ Some one
    → filter (λ file. is_one file (file_of one)) (map (λ mark. key_of mark) ys) ≢ []
marks_held files xs ys m uid one all marks stable is =
    let keys : map (λ mark. key_of mark) xs ≡ map (λ file. file.1) files =
    files_viewed xs ∙ ap (map (λ file. file.1)) marks in
    let held = subst (λ l. AreHeld l m) (sym keys) all in
    held_member (map (λ mark. key_of mark) ys) m one (held_too _ _ m held (files_stay xs ys stable))
    (contained one m (member_kept m uid one is))

-- and its first mark is found
pub first_in : {T : Type 0} (files : List (T × FileKey)) (xs ys zs : List (Mark T)) (one : Parts) (at : T)
    → map (λ mark. mark_view mark) xs ≡ files → IsStable mark_cmp xs ys → zs ≡ ys
    → Some at ≡ found (map (λ mark. mark_view mark) zs) (file_of one) → Some at ≡ found files (file_of one)
first_in files xs ys zs one at marks stable is first =
    first ∙ ap (λ l. found (map (λ mark. mark_view mark) l) (file_of one)) is
    ∙ found_stays xs ys stable (file_of one) ∙ ap (λ l. found l (file_of one)) marks
