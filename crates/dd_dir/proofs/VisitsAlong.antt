-- The trees that grow from rows are visited in the order of the rows.
use Rattle.std.specs.Prelude.{◌≡◌, ℕ, true, List, [], ◌∷◌, ◌++◌, map, Option, Some, None}
use Rattle.std.specs.List.{AllByRecursion}
use Rattle.std.specs.Ordering.{is_eq}
use Rattle.std.proofs.Common.{refl, sym, ◌∙◌, ap, subst, append_assoc}
use Rattle.std.proofs.lemmas.Map.Lookups.{exact_bytes}
use Rattle.dd_elem.specs.Ordered.{bytes_cmp}
use Rattle.dd_catalogue.specs.Rising.{is_eq_Equal}
use Rattle.dd_records.specs.declared.level.Level.TheVariants.{Patient, Study, Series, Image}
use Rattle.dd_layout.specs.Paths.{Path, leads_to, parent_of}
use Rattle.dd_layout.proofs.Blocks.{and_parts}
use Rattle.dd_layout.proofs.Counts.{Linked}
use Rattle.dd_layout.proofs.HasLevel.{HasLevel}
use Rattle.dd_walk.specs.Trees.{Node}
use Rattle.dd_dir.specs.Visits.{Visit, own_key, or_root, visits_below}
use Rattle.dd_dir.proofs.GrownTrees.{Grown, grown, grown_from}

-- ---- what is to be visited

abbrev pub at_by : (Path → Node) → Option Path → ℕ
at_by node None = 0
at_by node (Some x) = (node x).at

abbrev pub visit_by : (Path → Node) → Path → Visit
visit_by node x = record { path = x; above = at_by node (or_root (parent_of x)); node = node x }

-- the record has the last part of its path as its key
abbrev pub IsOwn : (Path → Node) → Path → Type 0
IsOwn node x = parent_of x ++ own_key (parent_of x) (node x).set ∷ [] ≡ x

-- what is visited after a row of these trees
abbrev pub visits_after : (Path → Node) → Path → Grown → List Visit
visits_after node [] g = visits_below [] 0 g.patient
visits_after node (a ∷ []) g =
    visits_below (a ∷ []) (node (a ∷ [])).at g.study ++ visits_below [] 0 g.patient
visits_after node (a ∷ b ∷ []) g =
    visits_below (a ∷ b ∷ []) (node (a ∷ b ∷ [])).at g.series
    ++ (visits_below (a ∷ []) (node (a ∷ [])).at g.study ++ visits_below [] 0 g.patient)
visits_after node (a ∷ b ∷ c ∷ x) g =
    visits_below (a ∷ b ∷ c ∷ []) (node (a ∷ b ∷ c ∷ [])).at g.image
    ++ (visits_below (a ∷ b ∷ []) (node (a ∷ b ∷ [])).at g.series
    ++ (visits_below (a ∷ []) (node (a ∷ [])).at g.study ++ visits_below [] 0 g.patient))

-- ---- one row more

patient_first : (node : Path → Node) (p : List ℕ) (g : Grown) → IsOwn node (p ∷ [])
    → visits_after node [] (grown_from Patient (node (p ∷ [])) g)
    ≡ visit_by node (p ∷ []) ∷ visits_after node (p ∷ []) g
patient_first node p g own =
    ap (λ (z : Path). record { path = z; above = 0; node = node (p ∷ []) }
    ∷ (visits_below z (node (p ∷ [])).at g.study ++ visits_below [] 0 g.patient)) own

patient_more : (node : Path → Node) (x : Path) (p : List ℕ) (g : Grown) → IsOwn node (p ∷ [])
    → visits_after node x (grown_from Patient (node (p ∷ [])) g)
    ≡ visit_by node (p ∷ []) ∷ visits_after node (p ∷ []) g
patient_more node [] p g own = patient_first node p g own
patient_more node (a ∷ []) p g own = patient_first node p g own
patient_more node (a ∷ b ∷ []) p g own = patient_first node p g own
patient_more node (a ∷ b ∷ c ∷ x) p g own = patient_first node p g own

study_first : (node : Path → Node) (p q : List ℕ) (g : Grown) → IsOwn node (p ∷ q ∷ [])
    → visits_after node (p ∷ []) (grown_from Study (node (p ∷ q ∷ [])) g)
    ≡ visit_by node (p ∷ q ∷ []) ∷ visits_after node (p ∷ q ∷ []) g
study_first node p q g own =
    let n = node (p ∷ q ∷ []) in
    let at = (node (p ∷ [])).at in
    ap (λ (z : Path). record { path = z; above = at; node = n }
    ∷ ((visits_below z n.at g.series ++ visits_below (p ∷ []) at g.study) ++ visits_below [] 0 g.patient)) own
    ∙ ap (λ (l : List Visit). visit_by node (p ∷ q ∷ []) ∷ l)
    (append_assoc (visits_below (p ∷ q ∷ []) n.at g.series) (visits_below (p ∷ []) at g.study)
    (visits_below [] 0 g.patient))

study_more : (node : Path → Node) (p q : List ℕ) (w : Path) (g : Grown) → IsOwn node (p ∷ q ∷ [])
    → visits_after node (p ∷ w) (grown_from Study (node (p ∷ q ∷ [])) g)
    ≡ visit_by node (p ∷ q ∷ []) ∷ visits_after node (p ∷ q ∷ []) g
study_more node p q [] g own = study_first node p q g own
study_more node p q (b ∷ []) g own = study_first node p q g own
study_more node p q (b ∷ c ∷ x) g own = study_first node p q g own

series_first : (node : Path → Node) (p q r : List ℕ) (g : Grown) → IsOwn node (p ∷ q ∷ r ∷ [])
    → visits_after node (p ∷ q ∷ []) (grown_from Series (node (p ∷ q ∷ r ∷ [])) g)
    ≡ visit_by node (p ∷ q ∷ r ∷ []) ∷ visits_after node (p ∷ q ∷ r ∷ []) g
series_first node p q r g own =
    let n = node (p ∷ q ∷ r ∷ []) in
    let at = (node (p ∷ q ∷ [])).at in
    let rest = visits_below (p ∷ []) (node (p ∷ [])).at g.study ++ visits_below [] 0 g.patient in
    ap (λ (z : Path). record { path = z; above = at; node = n }
    ∷ ((visits_below z n.at g.image ++ visits_below (p ∷ q ∷ []) at g.series) ++ rest)) own
    ∙ ap (λ (l : List Visit). visit_by node (p ∷ q ∷ r ∷ []) ∷ l)
    (append_assoc (visits_below (p ∷ q ∷ r ∷ []) n.at g.image) (visits_below (p ∷ q ∷ []) at g.series) rest)

series_more : (node : Path → Node) (p q r : List ℕ) (w : Path) (g : Grown) → IsOwn node (p ∷ q ∷ r ∷ [])
    → visits_after node (p ∷ q ∷ w) (grown_from Series (node (p ∷ q ∷ r ∷ [])) g)
    ≡ visit_by node (p ∷ q ∷ r ∷ []) ∷ visits_after node (p ∷ q ∷ r ∷ []) g
series_more node p q r [] g own = series_first node p q r g own
series_more node p q r (c ∷ x) g own = series_first node p q r g own

image_more : (node : Path → Node) (p q r s : List ℕ) (w : Path) (g : Grown) → IsOwn node (p ∷ q ∷ r ∷ s ∷ [])
    → visits_after node (p ∷ q ∷ r ∷ w) (grown_from Image (node (p ∷ q ∷ r ∷ s ∷ [])) g)
    ≡ visit_by node (p ∷ q ∷ r ∷ s ∷ []) ∷ visits_after node (p ∷ q ∷ r ∷ s ∷ []) g
image_more node p q r s w g own =
    let n = node (p ∷ q ∷ r ∷ s ∷ []) in
    let at = (node (p ∷ q ∷ r ∷ [])).at in
    let rest = visits_below (p ∷ q ∷ []) (node (p ∷ q ∷ [])).at g.series
    ++ (visits_below (p ∷ []) (node (p ∷ [])).at g.study ++ visits_below [] 0 g.patient) in
    ap (λ (z : Path). record { path = z; above = at; node = n }
    ∷ (visits_below (p ∷ q ∷ r ∷ []) at g.image ++ rest)) own

-- ---- all rows

-- what a front leads to begins with it
pub front_is : (u x : Path) → leads_to u x ≡ true → (w : Path) × (x ≡ u ++ w)
front_is [] x h = (x, refl)
front_is (a ∷ u) [] h = cc
front_is (a ∷ u) (b ∷ x) h =
    let both = and_parts (is_eq (bytes_cmp a b)) (leads_to u x) h in
    let same = exact_bytes a b (is_eq_Equal (bytes_cmp a b) both.0) in
    let rest = front_is u x both.1 in
    (rest.0, ap (λ (z : List ℕ). z ∷ x) (sym same) ∙ ap (λ (z : Path). a ∷ z) rest.1)

visits_more : (node : Path → Node) (x y : Path) (rest : List Path) → HasLevel y → leads_to (parent_of y) x ≡ true
    → IsOwn node y
    → visits_after node x (grown node (y ∷ rest)) ≡ visit_by node y ∷ visits_after node y (grown node rest)
visits_more node x [] rest level led own = absurd level
visits_more node x (p ∷ []) rest level led own = patient_more node x p (grown node rest) own
visits_more node x (p ∷ q ∷ []) rest level led own =
    let is = front_is (p ∷ []) x led in
    let g = grown node rest in
    subst (λ (z : Path). visits_after node z (grown node ((p ∷ q ∷ []) ∷ rest))
    ≡ visit_by node (p ∷ q ∷ []) ∷ visits_after node (p ∷ q ∷ []) g) (sym is.1) (study_more node p q is.0 g own)
visits_more node x (p ∷ q ∷ r ∷ []) rest level led own =
    let is = front_is (p ∷ q ∷ []) x led in
    let g = grown node rest in
    subst (λ (z : Path). visits_after node z (grown node ((p ∷ q ∷ r ∷ []) ∷ rest))
    ≡ visit_by node (p ∷ q ∷ r ∷ []) ∷ visits_after node (p ∷ q ∷ r ∷ []) g) (sym is.1)
    (series_more node p q r is.0 g own)
visits_more node x (p ∷ q ∷ r ∷ s ∷ []) rest level led own =
    let is = front_is (p ∷ q ∷ r ∷ []) x led in
    let g = grown node rest in
    subst (λ (z : Path). visits_after node z (grown node ((p ∷ q ∷ r ∷ s ∷ []) ∷ rest))
    ≡ visit_by node (p ∷ q ∷ r ∷ s ∷ []) ∷ visits_after node (p ∷ q ∷ r ∷ s ∷ []) g) (sym is.1)
    (image_more node p q r s is.0 g own)
visits_more node x (p ∷ q ∷ r ∷ s ∷ t ∷ y) rest level led own = absurd level

pub visits_along : (node : Path → Node) (x : Path) (rest : List Path) → AllByRecursion HasLevel rest → Linked x rest
    → AllByRecursion (IsOwn node) rest → visits_after node x (grown node rest) ≡ map (visit_by node) rest
visits_along node [] [] level linked own = refl
visits_along node (a ∷ []) [] level linked own = refl
visits_along node (a ∷ b ∷ []) [] level linked own = refl
visits_along node (a ∷ b ∷ c ∷ x) [] level linked own = refl
visits_along node x (y ∷ rest) level linked own =
    visits_more node x y rest level.0 linked.0 own.0
    ∙ ap (λ (l : List Visit). visit_by node y ∷ l) (visits_along node y rest level.1 linked.1 own.1)
