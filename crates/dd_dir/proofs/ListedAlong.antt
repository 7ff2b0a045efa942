-- The images that trees list which grow from rows: one of each row of an image, in the order of the rows.
use Rattle.std.specs.Prelude.{◌≡◌, ℕ, true, List, [], ◌∷◌, ◌++◌, Option, Some, None, Result, Ok, Err}
use Rattle.std.specs.List.{AllByRecursion}
use Rattle.std.proofs.Common.{refl, sym, ◌∙◌, ap, subst}
use Rattle.dd_records.specs.declared.level.Level.TheVariants.{Patient, Study, Series, Image}
use Rattle.dd_layout.specs.Paths.{Path, leads_to, parent_of}
use Rattle.dd_layout.specs.Plans.{level_of}
use Rattle.dd_layout.proofs.Counts.{Linked}
use Rattle.dd_layout.proofs.HasLevel.{HasLevel}
use Rattle.dd_dir.specs.declared.own_fault.OwnFault.{OwnFault}
use Rattle.dd_dir.specs.Own.{Listed, fault_at, followed, in_patient, in_series, in_study, listed_in, root, unless}
use Rattle.dd_walk.specs.Trees.{Node, tree}
use Rattle.dd_dir.proofs.GrownTrees.{Grown, grown, grown_from}
use Rattle.dd_dir.proofs.ListedImages.{followed_assoc}
use Rattle.dd_dir.proofs.VisitsAlong.{front_is}

-- ---- the images of rows

abbrev pub image_by : (Path → Node) → (a b c d : List ℕ) → Listed
image_by node a b c d = record {
  patient = (node (a ∷ [])).set;
  study = (node (a ∷ b ∷ [])).set;
  series = (node (a ∷ b ∷ c ∷ [])).set;
  own = (node (a ∷ b ∷ c ∷ d ∷ [])).set;
}

abbrev pub row_images : (Path → Node) → Path → List Listed
row_images node (a ∷ b ∷ c ∷ d ∷ []) = image_by node a b c d ∷ []
row_images node path = []

abbrev pub rows_images : (Path → Node) → List Path → List Listed
rows_images node [] = []
rows_images node (x ∷ rest) = row_images node x ++ rows_images node rest

-- the record of a row passes the checks of its level
abbrev pub IsPassed : (Path → Node) → Path → Type 0
IsPassed node x = fault_at (Some (level_of x)) (node x) ≡ None

-- what is listed after a row of these trees
abbrev pub listed_after : (Path → Node) → Path → Grown → Result (List Listed) OwnFault
listed_after node [] g = listed_in root g.patient
listed_after node (a ∷ []) g = followed (listed_in (in_patient (node (a ∷ [])).set) g.study) (listed_in root g.patient)
listed_after node (a ∷ b ∷ []) g =
    followed (listed_in (in_study (node (a ∷ [])).set (node (a ∷ b ∷ [])).set) g.series)
    (followed (listed_in (in_patient (node (a ∷ [])).set) g.study) (listed_in root g.patient))
listed_after node (a ∷ b ∷ c ∷ x) g =
    followed (listed_in (in_series (node (a ∷ [])).set (node (a ∷ b ∷ [])).set (node (a ∷ b ∷ c ∷ [])).set) g.image)
    (followed (listed_in (in_study (node (a ∷ [])).set (node (a ∷ b ∷ [])).set) g.series)
    (followed (listed_in (in_patient (node (a ∷ [])).set) g.study) (listed_in root g.patient)))

-- ---- one row more

abbrev Answer : Type 0
Answer = Result (List Listed) OwnFault

after_none : (x : Answer) → followed (Ok []) x ≡ x
after_none (Ok xs) = refl
after_none (Err fault) = refl

passed : (f : Option OwnFault) (x y : Answer) → f ≡ None → followed (followed (unless f []) x) y ≡ followed x y
passed f x y none =
    ap (λ (g : Option OwnFault). followed (followed (unless g []) x) y) none
    ∙ ap (λ (r : Answer). followed r y) (after_none x)

patient_first : (node : Path → Node) (p : List ℕ) (g : Grown) → IsPassed node (p ∷ [])
    → listed_in root (tree (node (p ∷ [])) g.study g.patient) ≡ listed_after node (p ∷ []) g
patient_first node p g ok =
    passed (fault_at (Some Patient) (node (p ∷ []))) (listed_in (in_patient (node (p ∷ [])).set) g.study)
    (listed_in root g.patient) ok

patient_more : (node : Path → Node) (x : Path) (p : List ℕ) (g : Grown) → IsPassed node (p ∷ [])
    → listed_after node x (grown_from Patient (node (p ∷ [])) g) ≡ listed_after node (p ∷ []) g
patient_more node [] p g ok = patient_first node p g ok
patient_more node (a ∷ []) p g ok =
    let all = listed_in root (tree (node (p ∷ [])) g.study g.patient) in
    after_none all ∙ patient_first node p g ok
patient_more node (a ∷ b ∷ []) p g ok =
    let all = listed_in root (tree (node (p ∷ [])) g.study g.patient) in
    after_none (followed (Ok []) all) ∙ after_none all ∙ patient_first node p g ok
patient_more node (a ∷ b ∷ c ∷ x) p g ok =
    let all = listed_in root (tree (node (p ∷ [])) g.study g.patient) in
    after_none (followed (Ok []) (followed (Ok []) all)) ∙ after_none (followed (Ok []) all) ∙ after_none all
    ∙ patient_first node p g ok

study_first : (node : Path → Node) (p q : List ℕ) (g : Grown) → IsPassed node (p ∷ q ∷ [])
    → followed (listed_in (in_patient (node (p ∷ [])).set) (tree (node (p ∷ q ∷ [])) g.series g.study))
    (listed_in root g.patient)
    ≡ listed_after node (p ∷ q ∷ []) g
study_first node p q g ok =
    let n = node (p ∷ q ∷ []) in
    let a = (node (p ∷ [])).set in
    let x = listed_in (in_study a n.set) g.series in
    let y = listed_in (in_patient a) g.study in
    ap (λ (r : Answer). followed r (listed_in root g.patient)) (passed (fault_at (Some Study) n) x y ok)
    ∙ followed_assoc x y (listed_in root g.patient)

study_more : (node : Path → Node) (p q : List ℕ) (w : Path) (g : Grown) → IsPassed node (p ∷ q ∷ [])
    → listed_after node (p ∷ w) (grown_from Study (node (p ∷ q ∷ [])) g) ≡ listed_after node (p ∷ q ∷ []) g
study_more node p q [] g ok = study_first node p q g ok
study_more node p q (b ∷ []) g ok =
    let all = followed (listed_in (in_patient (node (p ∷ [])).set) (tree (node (p ∷ q ∷ [])) g.series g.study))
    (listed_in root g.patient) in
    after_none all ∙ study_first node p q g ok
study_more node p q (b ∷ c ∷ x) g ok =
    let all = followed (listed_in (in_patient (node (p ∷ [])).set) (tree (node (p ∷ q ∷ [])) g.series g.study))
    (listed_in root g.patient) in
    after_none (followed (Ok []) all) ∙ after_none all ∙ study_first node p q g ok

series_first : (node : Path → Node) (p q r : List ℕ) (g : Grown) → IsPassed node (p ∷ q ∷ r ∷ [])
    → followed (listed_in (in_study (node (p ∷ [])).set (node (p ∷ q ∷ [])).set)
    (tree (node (p ∷ q ∷ r ∷ [])) g.image g.series)) (listed_after node (p ∷ []) g)
    ≡ listed_after node (p ∷ q ∷ r ∷ []) g
series_first node p q r g ok =
    let n = node (p ∷ q ∷ r ∷ []) in
    let a = (node (p ∷ [])).set in
    let b = (node (p ∷ q ∷ [])).set in
    let x = listed_in (in_series a b n.set) g.image in
    let y = listed_in (in_study a b) g.series in
    ap (λ (s : Answer). followed s (listed_after node (p ∷ []) g)) (passed (fault_at (Some Series) n) x y ok)
    ∙ followed_assoc x y (listed_after node (p ∷ []) g)

series_more : (node : Path → Node) (p q r : List ℕ) (w : Path) (g : Grown) → IsPassed node (p ∷ q ∷ r ∷ [])
    → listed_after node (p ∷ q ∷ w) (grown_from Series (node (p ∷ q ∷ r ∷ [])) g)
    ≡ listed_after node (p ∷ q ∷ r ∷ []) g
series_more node p q r [] g ok = series_first node p q r g ok
series_more node p q r (c ∷ x) g ok =
    let all = followed (listed_in (in_study (node (p ∷ [])).set (node (p ∷ q ∷ [])).set)
    (tree (node (p ∷ q ∷ r ∷ [])) g.image g.series)) (listed_after node (p ∷ []) g) in
    after_none all ∙ series_first node p q r g ok

image_more : (node : Path → Node) (p q r s : List ℕ) (w : Path) (g : Grown) → IsPassed node (p ∷ q ∷ r ∷ s ∷ [])
    → listed_after node (p ∷ q ∷ r ∷ w) (grown_from Image (node (p ∷ q ∷ r ∷ s ∷ [])) g)
    ≡ followed (Ok (image_by node p q r s ∷ [])) (listed_after node (p ∷ q ∷ r ∷ s ∷ []) g)
image_more node p q r s w g ok =
    let images = image_by node p q r s ∷ [] in
    let x = listed_in (in_series (node (p ∷ [])).set (node (p ∷ q ∷ [])).set (node (p ∷ q ∷ r ∷ [])).set) g.image in
    let y = listed_after node (p ∷ q ∷ []) g in
    ap (λ (f : Option OwnFault). followed (followed (followed (unless f images) (Ok [])) x) y) ok
    ∙ followed_assoc (Ok images) x y

-- ---- all rows

listed_more : (node : Path → Node) (x y : Path) (rest : List Path) → HasLevel y → leads_to (parent_of y) x ≡ true
    → IsPassed node y
    → listed_after node x (grown node (y ∷ rest))
    ≡ followed (Ok (row_images node y)) (listed_after node y (grown node rest))
listed_more node x [] rest level led ok = absurd level
listed_more node x (p ∷ []) rest level led ok =
    let g = grown node rest in
    patient_more node x p g ok ∙ sym (after_none (listed_after node (p ∷ []) g))
listed_more node x (p ∷ q ∷ []) rest level led ok =
    let is = front_is (p ∷ []) x led in
    let g = grown node rest in
    subst (λ (z : Path). listed_after node z (grown node ((p ∷ q ∷ []) ∷ rest))
    ≡ followed (Ok []) (listed_after node (p ∷ q ∷ []) g)) (sym is.1)
    (study_more node p q is.0 g ok ∙ sym (after_none (listed_after node (p ∷ q ∷ []) g)))
listed_more node x (p ∷ q ∷ r ∷ []) rest level led ok =
    let is = front_is (p ∷ q ∷ []) x led in
    let g = grown node rest in
    subst (λ (z : Path). listed_after node z (grown node ((p ∷ q ∷ r ∷ []) ∷ rest))
    ≡ followed (Ok []) (listed_after node (p ∷ q ∷ r ∷ []) g)) (sym is.1)
    (series_more node p q r is.0 g ok ∙ sym (after_none (listed_after node (p ∷ q ∷ r ∷ []) g)))
listed_more node x (p ∷ q ∷ r ∷ s ∷ []) rest level led ok =
    let is = front_is (p ∷ q ∷ r ∷ []) x led in
    let g = grown node rest in
    subst (λ (z : Path). listed_after node z (grown node ((p ∷ q ∷ r ∷ s ∷ []) ∷ rest))
    ≡ followed (Ok (image_by node p q r s ∷ [])) (listed_after node (p ∷ q ∷ r ∷ s ∷ []) g)) (sym is.1)
    (image_more node p q r s is.0 g ok)
listed_more node x (p ∷ q ∷ r ∷ s ∷ t ∷ y) rest level led ok = absurd level

pub listed_along : (node : Path → Node) (x : Path) (rest : List Path) → AllByRecursion HasLevel rest → Linked x rest
    → AllByRecursion (IsPassed node) rest → listed_after node x (grown node rest) ≡ Ok (rows_images node rest)
listed_along node [] [] level linked ok = refl
listed_along node (a ∷ []) [] level linked ok = refl
listed_along node (a ∷ b ∷ []) [] level linked ok = refl
listed_along node (a ∷ b ∷ c ∷ x) [] level linked ok = refl
listed_along node x (y ∷ rest) level linked ok =
    listed_more node x y rest level.0 linked.0 ok.0
    ∙ ap (λ (r : Answer). followed (Ok (row_images node y)) r) (listed_along node y rest level.1 linked.1 ok.1)
