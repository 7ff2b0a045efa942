-- The first files of kept versions, and the files of the images of a plan.
use Rattle.std.specs.Prelude.{◌≡◌, ◌≢◌, ◌+◌, ◌<◌, Bool, ℕ, zero, suc, true, false, List, [], ◌∷◌, ◌++◌, length, map}
use Rattle.std.specs.Prelude.{filter, get_or, take, Option, Some, slice_get}
use Rattle.std.specs.List.{zip}
use Rattle.std.specs.List.Sorted.{IsStable}
use Rattle.std.proofs.Common.{refl, sym, ◌∙◌, ap, subst, arith, inl, inr}
use Rattle.std.proofs.lemmas.List.{append-nil, length-map, map-append, take_more}
use Rattle.std.proofs.lemmas.List.Elements.{filter-append}
use Rattle.std.proofs.lemmas.Option.{slice_get_read}
use Rattle.dd_catalogue.specs.Contents.{kept_of, left_of}
use Rattle.dd_catalogue.specs.Free.{is_free}
use Rattle.dd_catalogue.specs.Harmony.{agreed, harmonised}
use Rattle.dd_catalogue.specs.Rising.{by_test}
use Rattle.dd_catalogue.specs.Versions.{instance_of}
use Rattle.dd_catalogue.proofs.Members.{Member}
use Rattle.dd_elem.specs.Ordered.{bytes_cmp}
use Rattle.dd_version.specs.declared.parts.Parts.{Parts}
use Rattle.dd_records.specs.declared.record.PlanRecord.{PlanRecord}
use Rattle.dd_engine.specs.declared.marks.Mark.{Mark}
use Rattle.dd_engine.specs.Picking.{AreHeld, ArePicked, FileKey, file_of, files_of, found, found_by, is_image, is_one}
use Rattle.dd_engine.specs.Picking.{key_of, mark_cmp, mark_view, taken_of}
use Rattle.dd_engine.proofs.FirstMarks.{files_stay, files_viewed}
use Rattle.dd_engine.proofs.ImagePicks.{each_kept, held_too}
use Rattle.dd_engine.proofs.PicksWithin.{unmapped}

-- ---- each kept version has a file

filter_member : {V : Type 0} (test : V → Bool) (v : V) (s : List V) → Member v (filter test s) → Member v s
filter_member test v [] i = absurd i
filter_member test v (w ∷ s) i = by_test (test w)
    (λ e. let j = rw e at i in elim j [
      | inl is ↦ inl is
      | inr more ↦ inr (filter_member test v s more)
    ])
    (λ e. let j = rw e at i in inr (filter_member test v s j))

pub left_member : (s : List Parts) (uids : List (List ℕ)) (v : Parts) → Member v (left_of s uids) → Member v s
left_member s uids v i = filter_member (λ (w : Parts). is_free bytes_cmp uids (instance_of w)) v s i

keys_filed : {T : Type 0} (origins : List T) (versions : List Parts) → length origins ≡ length versions
    → map (λ file. file.1) (files_of (zip origins versions)) ≡ map (λ v. file_of v) versions
keys_filed [] [] many = refl
keys_filed [] (v ∷ versions) many = absurd (omega (arith, many))
keys_filed (at ∷ origins) [] many = absurd (omega (arith, many))
keys_filed (at ∷ origins) (v ∷ versions) many =
    ap (λ l. file_of v ∷ l) (keys_filed origins versions (omega (arith, many)))

pub files_kept : {T : Type 0} (origins : List T) (versions m : List Parts) (w : List (List ℕ))
    → length origins ≡ length versions → m ≡ kept_of versions w
    → AreHeld (map (λ file. file.1) (files_of (zip origins versions))) m
files_kept origins versions m w many is =
    subst (λ l. AreHeld l m) (sym (keys_filed origins versions many))
    (subst (λ l. AreHeld (map (λ v. file_of v) versions) l) (sym is)
    (each_kept versions (left_of versions w) (λ v i. left_member versions w v i)))

-- so nothing is kept where there is no file
pub none_kept : {T : Type 0} (files : List (T × FileKey)) (m : List Parts) → AreHeld (map (λ file. file.1) files) m
    → files ≡ [] → m ≡ []
none_kept files [] held none = refl
none_kept files (v ∷ m) held none =
    absurd (held zero v (omega arith)
    (ap (λ l. filter (λ file. is_one file (file_of v)) (map (λ file. file.1) l)) none))

pub none_filed : {T : Type 0} (origins : List T) (versions : List Parts) → versions ≡ []
    → files_of (zip origins versions) ≡ []
none_filed origins [] none = by origins where
  by : {T : Type 0} (origins : List T) → files_of {T = T} (zip origins []) ≡ []
  by [] = refl
  by (at ∷ origins) = refl
none_filed origins (v ∷ versions) none = absurd (cc none)

-- ---- by marks

-- each has a mark
pub mark_held : {T V : Type 0} (files : List (T × FileKey)) (xs ys : List (Mark T)) (m : List Parts) (list : List V)
    (view : V → Parts) (i : ℕ) (item : V) → AreHeld (map (λ file. file.1) files) m
    → map (λ mark. mark_view mark) xs ≡ files → IsStable mark_cmp xs ys → map view list ≡ m → i < length list
    → item ≡ get_or list i item
    → filter (λ file. is_one file (file_of (view item))) (map (λ mark. key_of mark) ys) ≢ []
mark_held files xs ys m list view i item held marks stable is below read =
    let all : AreHeld (map (λ mark. key_of mark) ys) (map view list) =
    subst (λ l. AreHeld (map (λ mark. key_of mark) ys) l) (sym is)
    (held_too _ _ m (subst (λ l. AreHeld l m) (sym (files_viewed xs ∙ ap (map (λ file. file.1)) marks)) held)
    (files_stay xs ys stable)) in
    subst (λ v. filter (λ file. is_one file (file_of (view v))) (map (λ mark. key_of mark) ys) ≢ []) (sym read)
    (unmapped (λ v. filter (λ file. is_one file (file_of v)) (map (λ mark. key_of mark) ys) ≢ []) view list all i item
    below)

-- ---- one file more

pub one_more : {A T : Type 0} (g : A → Option T) (list : List A) (i : ℕ) (item : A) (files : List T) (at : T)
    → i < length list → item ≡ get_or list i item → Some at ≡ g item
    → map (λ file. Some file) files ≡ map g (take i list)
    → map (λ file. Some file) (files ++ at ∷ []) ≡ map g (take (i + 1) list)
one_more g list i item files at below is first was =
    map-append (λ file. Some file) files (at ∷ []) ∙ ap (λ l. l ++ Some at ∷ []) was
    ∙ ap (λ o. map g (take i list) ++ o ∷ []) first
    ∙ sym (ap (map g) (take_more list i item below ∙ ap (λ x. take i list ++ x ∷ []) (sym is))
    ∙ map-append g (take i list) (item ∷ []))

-- ---- one record more

taken_more : {T : Type 0} (files : List T) (rows : List PlanRecord) (i : ℕ) (row : PlanRecord) → i < length rows
    → row ≡ get_or rows i row
    → taken_of files (take (i + 1) rows) ≡ taken_of files (take i rows) ++ taken_of files (row ∷ [])
taken_more files rows i row below is =
    ap (taken_of files) (take_more rows i row below ∙ ap (λ x. take i rows ++ x ∷ []) (sym is))
    ∙ ap (map (λ x. slice_get files x.of)) (filter-append is_image (take i rows) (row ∷ []))
    ∙ map-append (λ x. slice_get files x.of) (filter is_image (take i rows)) (filter is_image (row ∷ []))

pub image_more : {T : Type 0} (files : List T) (rows : List PlanRecord) (i : ℕ) (row : PlanRecord) (picks : List T)
    (at : T) → i < length rows → row ≡ get_or rows i row → is_image row ≡ true → row.of < length files
    → at ≡ get_or files row.of at
    → map (λ pick. Some pick) picks ≡ taken_of files (take i rows)
    → map (λ pick. Some pick) (picks ++ at ∷ []) ≡ taken_of files (take (i + 1) rows)
image_more files rows i row picks at below is image within read was =
    let here : taken_of files (row ∷ []) ≡ Some at ∷ [] =
    rw image (ap (λ o. o ∷ []) (slice_get_read files _ row.of at refl within read)) in
    map-append (λ pick. Some pick) picks (at ∷ []) ∙ ap (λ l. l ++ Some at ∷ []) was
    ∙ ap (λ l. taken_of files (take i rows) ++ l) (sym here)
    ∙ sym (taken_more files rows i row below is)

pub other_more : {T : Type 0} (files : List T) (rows : List PlanRecord) (i : ℕ) (row : PlanRecord) (picks : List T)
    → i < length rows → row ≡ get_or rows i row → is_image row ≡ false
    → map (λ pick. Some pick) picks ≡ taken_of files (take i rows)
    → map (λ pick. Some pick) picks ≡ taken_of files (take (i + 1) rows)
other_more files rows i row picks below is other was =
    let here : taken_of files (row ∷ []) ≡ [] = rw other refl in
    was ∙ sym (append-nil (taken_of files (take i rows)))
    ∙ ap (λ l. taken_of files (take i rows) ++ l) (sym here)
    ∙ sym (taken_more files rows i row below is)

-- ---- the files of a plan's images are those of the kept versions

-- as many files as kept versions
pub many_files : {T : Type 0} (g : Parts → Option T) (files : List T) (m : List Parts)
    → map (λ file. Some file) files ≡ map g m → length files ≡ length (harmonised m)
many_files g files m is =
    sym (length-map files (λ file. Some file)) ∙ ap length is ∙ length-map m g ∙ sym (length-map m (agreed m))

file_at : {T : Type 0} (marks : List (T × FileKey)) (f : Parts → Parts) (files : List T) (m : List Parts)
    → ((v : Parts) → file_of (f v) ≡ file_of v)
    → map (λ file. Some file) files ≡ map (λ v. found marks (file_of v)) m
    → (i : ℕ) → slice_get files i ≡ found_by marks (slice_get (map f m) i)
file_at marks f [] [] same is i = refl
file_at marks f [] (v ∷ m) same is i = absurd (cc is)
file_at marks f (file ∷ files) [] same is i = absurd (cc is)
file_at marks f (file ∷ files) (v ∷ m) same is zero =
    let first : Some file ≡ found marks (file_of v) = cc is in first ∙ ap (found marks) (sym (same v))
file_at marks f (file ∷ files) (v ∷ m) same is (suc i) =
    let rest : map (λ file. Some file) files ≡ map (λ v. found marks (file_of v)) m = cc is in
    file_at marks f files m same rest i

pub picked : {T : Type 0} (marks : List (T × FileKey)) (files : List T) (m : List Parts) (rows : List PlanRecord)
    (picks : List T) → map (λ file. Some file) files ≡ map (λ v. found marks (file_of v)) m
    → map (λ pick. Some pick) picks ≡ taken_of files rows → ArePicked marks (harmonised m) rows picks
picked marks files m rows picks is taken =
    taken ∙ (λ j. map (λ row. file_at marks (agreed m) files m (λ v. refl) is row.of j) (filter is_image rows))
