-- Namings in their order, each once, and the patients that they are grouped into.
use Rattle.std.proofs.Common.{◌≡◌, ◌∙◌, ◌⊎◌, ◌+◌, ◌-◌, ◌<◌, ◌≤◌, refl, sym, ap, subst, arith, inl, inr, ℕ, suc, true}
use Rattle.std.proofs.Common.{List, [], ◌∷◌, ◌++◌, filter, length, get_or, take, drop}
use Rattle.std.specs.List.{AllByRecursion, prefix_len}
use Rattle.std.specs.List.Sorted.{IsStrictlySortedBy}
use Rattle.std.specs.Ordering.{eq_by_cmp, on}
use Rattle.std.specs.Str.{bytes_eq}
use Rattle.std.specs.declared.cmp.Ordering.TheVariants.{Less}
use Rattle.std.proofs.lemmas.Cmp.{nat_list_cmp_total, tied_itself}
use Rattle.std.proofs.lemmas.List.{append_assoc, length-drop, length-take, take_rest}
use Rattle.std.proofs.lemmas.List.Elements.{filter-append}
use Rattle.std.proofs.lemmas.Map.Lookups.{exact_bytes}
use Rattle.std.proofs.lemmas.Slice.Eq.{bytes_eq-Decides}
use Rattle.dd_elem.specs.Ordered.{bytes_cmp}
use Rattle.dd_catalogue.specs.Rising.{by_order, by_test, is_eq_Equal}
use Rattle.dd_engine.specs.Namings.{Naming, add_naming, grouped, has_id, has_several, naming_apart, naming_cmp}
use Rattle.dd_engine.specs.Namings.{patient_of}
use Rattle.dd_engine.specs.PatientNames.{NamedPatient, name_cmp}
use Rattle.dd_catalogue.proofs.FirstAndRest.{first_and_rest, rest_of}
use Rattle.dd_catalogue.proofs.Members.{Member}

-- namings that tie are equal
pub tied : (x y : Naming) → eq_by_cmp naming_cmp x y ≡ true → x ≡ y
tied x y e = naming_apart x y (is_eq_Equal (naming_cmp x y) e)

-- ---- the first patient of namings

-- it has the names of all namings in front that have its ID
pub grouped_first : (first : Naming) (others : List Naming)
    → grouped (first ∷ others)
    ≡ patient_of first (take (prefix_len (has_id first.id) others) others)
    ∷ grouped (drop (prefix_len (has_id first.id) others) others)
grouped_first first [] = refl
grouped_first first (next ∷ others) =
    let behind = grouped_first next others in
    by_test (bytes_eq next.id first.id)
    (λ e. let is : next.id ≡ first.id = (bytes_eq-Decides next.id first.id).0 e in
    rw (behind, e, is) (one_more (record { id = first.id; name = next.name }) others))
    (λ e. rw (behind, e) (ap (λ patients. patient_of first [] ∷ patients) (sym behind)))
  where
    one_more : (next : Naming) (others : List Naming)
        → patient_of first (next ∷ take (prefix_len (has_id first.id) others) others)
        ∷ grouped (drop (prefix_len (has_id first.id) others) others)
        ≡ patient_of first (take (1 + prefix_len (has_id first.id) others) (next ∷ others))
        ∷ grouped (drop (1 + prefix_len (has_id first.id) others) (next ∷ others))
    one_more next others =
        let count : suc (prefix_len (has_id first.id) others) ≡ 1 + prefix_len (has_id first.id) others = omega arith in
        ap (λ (n : ℕ). patient_of first (take n (next ∷ others)) ∷ grouped (drop n (next ∷ others))) count

-- ---- what holds for namings holds for their patients

weaker : {X : Type 0} (P Q : X → Type 0) → ((x : X) → P x → Q x) → (xs : List X)
    → AllByRecursion P xs → AllByRecursion Q xs
weaker P Q so [] h = tt
weaker P Q so (x ∷ xs) h = (so x h.0, weaker P Q so xs h.1)

-- for each ID
pub all_ids : (P : List ℕ → Type 0) (namings : List Naming)
    → AllByRecursion (λ n. P n.id) namings → AllByRecursion (λ p. P p.id) (grouped namings)
all_ids P [] h = tt
all_ids P (first ∷ others) h = added_ids P first (grouped others) h.0 (all_ids P others h.1)
  where
    added_ids : (P : List ℕ → Type 0) (first : Naming) (patients : List NamedPatient) → P first.id
        → AllByRecursion (λ p. P p.id) patients → AllByRecursion (λ p. P p.id) (add_naming first patients)
    added_ids P first [] own h = (own, tt)
    added_ids P first (patient ∷ patients) own h = by_test (bytes_eq patient.id first.id)
        (λ e. rw e (own, h.1))
        (λ e. rw e (own, h))

-- for each ID together with each name
abbrev pub AllNamed : (Naming → Type 0) → List NamedPatient → Type 0
AllNamed P = AllByRecursion (λ p. AllByRecursion (λ name. P (record { id = p.id; name = name })) p.names)

pub all_named : (P : Naming → Type 0) (namings : List Naming)
    → AllByRecursion P namings → AllNamed P (grouped namings)
all_named P [] h = tt
all_named P (first ∷ others) h = added_named P first (grouped others) h.0 (all_named P others h.1)
  where
    added_named : (P : Naming → Type 0) (first : Naming) (patients : List NamedPatient) → P first
        → AllNamed P patients → AllNamed P (add_naming first patients)
    added_named P first [] own h = ((own, tt), tt)
    added_named P first (patient ∷ patients) own h = by_test (bytes_eq patient.id first.id)
        (λ e. let is = (bytes_eq-Decides patient.id first.id).0 e in
        rw e (
          (
            own,
            subst (λ id. AllByRecursion (λ name. P (record { id = id; name = name })) patient.names) is h.0,
          ),
          h.1,
        ))
        (λ e. rw e ((own, tt), h))

-- ---- the order of patients and of their names

-- the first ID is below the other, or the same
abbrev AtMost : List ℕ → List ℕ → Type 0
AtMost one other = (bytes_cmp one other ≡ Less) ⊎ (one ≡ other)

at_most : (n m : Naming) → naming_cmp n m ≡ Less → AtMost n.id m.id
at_most n m less = by_order (bytes_cmp n.id m.id)
    (λ e. inl e)
    (λ e. inr (exact_bytes n.id m.id e))
    (λ e. absurd (let no = rw e at less in cc))

-- of two namings with one ID, the first has the greater name
name_below : (n m : Naming) → m.id ≡ n.id → naming_cmp n m ≡ Less → name_cmp n.name m.name ≡ Less
name_below n m is less = rw (is, tied_itself nat_list_cmp_total n.id) at less

pub ids_rise : (namings : List Naming) → IsStrictlySortedBy naming_cmp namings
    → IsStrictlySortedBy (on (λ p. p.id) bytes_cmp) (grouped namings)
unfolding IsStrictlySortedBy
ids_rise [] h = tt
ids_rise (first ∷ others) h = added_rises first (grouped others) (ids_rise others h.1)
    (all_ids (AtMost first.id) others (weaker _ _ (at_most first) others h.0))
  where
    added_rises : (first : Naming) (patients : List NamedPatient)
        → IsStrictlySortedBy (on (λ p. p.id) bytes_cmp) patients
        → AllByRecursion (λ p. AtMost first.id p.id) patients
        → IsStrictlySortedBy (on (λ p. p.id) bytes_cmp) (add_naming first patients)
    added_rises first [] h least = (tt, tt)
    added_rises first (patient ∷ patients) h least = by_test (bytes_eq patient.id first.id)
        (λ e. let is = (bytes_eq-Decides patient.id first.id).0 e in
        rw e (subst (λ id. AllByRecursion (λ p. bytes_cmp id p.id ≡ Less) patients) is h.0, h.1))
        (λ e. let below : bytes_cmp first.id patient.id ≡ Less = elim least.0 [
          | inl less ↦ less
          | inr is ↦ absurd (let no = sym e ∙ (bytes_eq-Decides patient.id first.id).1 (sym is) in cc)
        ] in
        rw e ((below, weaker _ _ (λ p. nat_list_cmp_total.trans first.id patient.id p.id below) patients h.0), h))

pub names_fall : (namings : List Naming) → IsStrictlySortedBy naming_cmp namings
    → AllByRecursion (λ p. IsStrictlySortedBy name_cmp p.names) (grouped namings)
unfolding IsStrictlySortedBy
names_fall [] h = tt
names_fall (first ∷ others) h = added_falls first (grouped others) (names_fall others h.1)
    (all_named (λ n. naming_cmp first n ≡ Less) others h.0)
  where
    added_falls : (first : Naming) (patients : List NamedPatient)
        → AllByRecursion (λ p. IsStrictlySortedBy name_cmp p.names) patients
        → AllNamed (λ n. naming_cmp first n ≡ Less) patients
        → AllByRecursion (λ p. IsStrictlySortedBy name_cmp p.names) (add_naming first patients)
    added_falls first [] h below = ((tt, tt), tt)
    added_falls first (patient ∷ patients) h below = by_test (bytes_eq patient.id first.id)
        (λ e. let is = (bytes_eq-Decides patient.id first.id).0 e in
        rw e (
          (
            weaker _ _ (λ name. name_below first (record { id = patient.id; name = name }) is) patient.names below.0,
            h.0,
          ),
          h.1,
        ))
        (λ e. rw e ((tt, tt), h))

-- ---- each naming belongs to a patient

-- a patient has the ID and the name
abbrev pub IsNamed : List NamedPatient → List ℕ → List ℕ → Type 0
IsNamed [] id name = ⊥
IsNamed (p ∷ ps) id name = ((p.id ≡ id) × Member name p.names) ⊎ IsNamed ps id name

added_first : (first : Naming) (patients : List NamedPatient) → IsNamed (add_naming first patients) first.id first.name
added_first first [] = inl (refl, inl refl)
added_first first (patient ∷ patients) = by_test (bytes_eq patient.id first.id)
    (λ e. rw e (inl (refl, inl refl)))
    (λ e. rw e (inl (refl, inl refl)))

added_later : (first : Naming) (patients : List NamedPatient) (id name : List ℕ)
    → IsNamed patients id name → IsNamed (add_naming first patients) id name
added_later first [] id name h = absurd h
added_later first (patient ∷ patients) id name (inl own) = by_test (bytes_eq patient.id first.id)
    (λ e. let is = (bytes_eq-Decides patient.id first.id).0 e in
    rw e (inl (sym is ∙ own.0, inr own.1)))
    (λ e. rw e (inr (inl own)))
added_later first (patient ∷ patients) id name (inr h) = by_test (bytes_eq patient.id first.id)
    (λ e. rw e (inr h))
    (λ e. rw e (inr (inr h)))

pub each_named : (namings : List Naming) (n : Naming) → Member n namings → IsNamed (grouped namings) n.id n.name
each_named [] n h = absurd h
each_named (first ∷ others) n (inl is) =
    subst (λ n. IsNamed (add_naming first (grouped others)) n.id n.name) is (added_first first (grouped others))
each_named (first ∷ others) n (inr h) = added_later first (grouped others) n.id n.name (each_named others n h)

-- ---- the patients with more than one name, found one after another

-- the first naming and those with its ID give at most one such patient, and the rest give the others
pub several_first : (all rest : List Naming) (first : Naming) (done more : List NamedPatient) (n : ℕ)
    → 0 < length rest → first ≡ get_or rest 0 first → n ≡ prefix_len (has_id first.id) (rest_of rest)
    → more ≡ done ++ filter has_several (patient_of first (take n (rest_of rest)) ∷ [])
    → filter has_several (grouped all) ≡ done ++ filter has_several (grouped rest)
    → filter has_several (grouped all)
    ≡ more ++ filter has_several (grouped (take (length (rest_of rest) - n) (drop n (rest_of rest))))
several_first all rest first done more n some read count added so =
    let patient = patient_of first (take n (rest_of rest)) in
    let later = grouped (drop n (rest_of rest)) in
    so
    ∙ ap (λ l. done ++ filter has_several (grouped l)) (first_and_rest rest first some read)
    ∙ ap (λ l. done ++ filter has_several l) (grouped_first first (rest_of rest))
    ∙ ap (λ k. done ++ filter has_several
    (patient_of first (take k (rest_of rest)) ∷ grouped (drop k (rest_of rest)))) (sym count)
    ∙ ap (λ l. done ++ l) (filter-append has_several (patient ∷ []) later)
    ∙ sym (append_assoc done (filter has_several (patient ∷ [])) (filter has_several later))
    ∙ ap (λ l. l ++ filter has_several later) (sym added)
    ∙ ap (λ l. more ++ filter has_several (grouped l)) (sym (take_rest (rest_of rest) n))

-- the rest is not longer than all namings
pub several_shorter : (all rest : List Naming) (n : ℕ) → length rest ≤ length all
    → length (take (length (rest_of rest) - n) (drop n (rest_of rest))) ≤ length all
several_shorter all rest n less =
    omega (
      arith,
      less,
      length-take (length (rest_of rest) - n) (drop n (rest_of rest)),
      length-drop n (rest_of rest),
      length-take (length rest - 1) (drop 1 rest),
      length-drop 1 rest,
    )
