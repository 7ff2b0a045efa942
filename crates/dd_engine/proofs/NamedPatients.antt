-- Grouping the namings of versions gives exactly the patients that the versions name more than once.
use Rattle.std.proofs.Common.{◌≡◌, ◌≢◌, ◌↔◌, refl, sym, ◌∙◌, ap, subst, arith, inl, inr, ℕ, Bool, true}
use Rattle.std.proofs.Common.{List, [], ◌∷◌, length, map, filter, nat_lt, Contains}
use Rattle.std.specs.List.{AllByRecursion}
use Rattle.std.specs.List.Sorted.{IsStrictlySortedBy}
use Rattle.std.specs.Ordering.{on}
use Rattle.std.specs.declared.cmp.Ordering.TheVariants.{Less}
use Rattle.std.proofs.lemmas.Bool.{lt-ltb, ltb-true}
use Rattle.std.proofs.lemmas.Cmp.{nat_list_cmp_total, tied_itself}
use Rattle.std.proofs.lemmas.List.Elements.{All-contains, All-contains_itself, All-filter, All-from_recursion}
use Rattle.std.proofs.lemmas.List.Elements.{All-weaker, filter_passes, recursion_from_All}
use Rattle.std.proofs.lemmas.List.Kept.{IsStrictlySortedBy-filter}
use Rattle.dd_elem.specs.Ordered.{bytes_cmp}
use Rattle.dd_version.specs.declared.parts.Parts.{Parts}
use Rattle.dd_catalogue.specs.Best.{SameMembers}
use Rattle.dd_catalogue.specs.Rising.{by_test}
use Rattle.dd_engine.specs.Namings.{Naming, grouped, has_several, naming_cmp, naming_of}
use Rattle.dd_engine.specs.PatientNames.{AreNamed, HasItsNames, HasName, NamedPatient, name_cmp}
use Rattle.dd_engine.proofs.NamingGroups.{IsNamed, all_named, each_named, ids_rise, names_fall}
use Rattle.dd_catalogue.proofs.Members.{Member, contained, member_of}

-- ---- a patient among patients that rise

-- a patient whose ID is below the IDs of others shares none of these
apart : (x y : NamedPatient) (patients : List NamedPatient)
    → AllByRecursion (λ z. bytes_cmp x.id z.id ≡ Less) patients → Member y patients → x.id ≡ y.id → ⊥
apart x y [] h j is = j
apart x y (z ∷ patients) h (inl e) is =
    let less : bytes_cmp x.id x.id ≡ Less =
    ap (λ id. bytes_cmp x.id id) (is ∙ sym (ap (λ patient. patient.id) e)) ∙ h.0 in
    let no = sym (tied_itself nat_list_cmp_total x.id) ∙ less in
    cc
apart x y (z ∷ patients) h (inr j) is = apart x y patients h.1 j is

-- two patients of the list with the same ID are the same
one_patient : (patients : List NamedPatient) (p q : NamedPatient)
    → IsStrictlySortedBy (on (λ patient. patient.id) bytes_cmp) patients
    → Member p patients → Member q patients → p.id ≡ q.id → p ≡ q
unfolding IsStrictlySortedBy
one_patient [] p q h i j is = absurd i
one_patient (x ∷ patients) p q h (inl e) (inl f) is = sym e ∙ f
one_patient (x ∷ patients) p q h (inl e) (inr j) is =
    absurd (apart x q patients h.0 j (ap (λ patient. patient.id) e ∙ is))
one_patient (x ∷ patients) p q h (inr i) (inl f) is =
    absurd (apart x p patients h.0 i (ap (λ patient. patient.id) f ∙ sym is))
one_patient (x ∷ patients) p q h (inr i) (inr j) is = one_patient patients p q h.1 i j is

-- where the ID and the name are in the list, one patient has both
named_patient : (patients : List NamedPatient) (id name : List ℕ) → IsNamed patients id name
    → (p : NamedPatient) × Member p patients × (p.id ≡ id) × Member name p.names
named_patient [] id name h = absurd h
named_patient (p ∷ patients) id name (inl own) = (p, inl refl, own.0, own.1)
named_patient (p ∷ patients) id name (inr h) =
    let there = named_patient patients id name h in
    (there.0, inr there.1, there.2, there.3)

-- a list with two different names has more than one
are_several : (names : List (List ℕ)) (one other : List ℕ) → Member one names → Member other names → one ≢ other
    → nat_lt 1 (length names) ≡ true
are_several [] one other i j apart = absurd i
are_several (x ∷ []) one other (inl e) (inl f) apart = absurd (apart (sym e ∙ f))
are_several (x ∷ []) one other (inl e) (inr j) apart = absurd j
are_several (x ∷ []) one other (inr i) j apart = absurd i
are_several (x ∷ y ∷ names) one other i j apart = lt-ltb 1 (length (x ∷ y ∷ names)) (omega arith)

kept : {X : Type 0} (test : X → Bool) (xs : List X) (x : X) → Member x xs → test x ≡ true → Member x (filter test xs)
kept test [] x i passes = absurd i
kept test (y ∷ xs) x (inl e) passes =
    let first : test y ≡ true = ap test e ∙ passes in
    rw first (inl e)
kept test (y ∷ xs) x (inr i) passes = by_test (test y)
    (λ e. rw e (inr (kept test xs x i passes)))
    (λ e. rw e (kept test xs x i passes))

-- ---- the namings of the versions

naming_there : (versions : List Parts) (v : Parts) → Member v versions → Member (naming_of v) (map naming_of versions)
naming_there [] v i = i
naming_there (w ∷ versions) v (inl e) = inl (ap naming_of e)
naming_there (w ∷ versions) v (inr i) = inr (naming_there versions v i)

naming_from : (versions : List Parts) (id name : List ℕ)
    → Member (record { id = id; name = name }) (map naming_of versions) → HasName versions id name
naming_from [] id name i = absurd i
naming_from (v ∷ versions) id name (inl e) =
    (v, contained v (v ∷ versions) (inl refl), ap (λ n. n.id) e, ap (λ n. n.name) e)
naming_from (v ∷ versions) id name (inr i) =
    let there = naming_from versions id name i in
    (there.0, contained there.0 (v ∷ versions) (inr (member_of there.0 versions there.1)), there.2, there.3)

-- where namings are exactly the namings of the versions, they say which names the versions have with an ID
pub same_names : (versions : List Parts) (namings : List Naming) (id name : List ℕ)
    → SameMembers namings (map naming_of versions)
    → Contains namings (record { id = id; name = name }) ↔ HasName versions id name
same_names versions namings id name same = (
  λ h. naming_from versions id name (member_of _ _ ((same (record { id = id; name = name })).0 h)),
  λ h. (same (record { id = id; name = name })).1 (contained _ _
      (subst (λ n. Member n (map naming_of versions)) (λ i. record { id = h.2 i; name = h.3 i })
      (naming_there versions h.0 (member_of h.0 versions h.1)))),
)

-- ---- the patients of the versions

-- one of the namings has the patient's ID and this name
abbrev IsAmong : List Naming → NamedPatient → List ℕ → Type 0
IsAmong namings patient name = Contains namings (record { id = patient.id; name = name })

-- the names of a patient are exactly the names that namings with its ID have
its_names : (namings : List Naming) (patient : NamedPatient) (name : List ℕ)
    → IsStrictlySortedBy naming_cmp namings → Member patient (grouped namings)
    → Contains patient.names name ↔ IsAmong namings patient name
its_names namings patient name rising there = (
  λ h. let all = All-from_recursion (λ p. AllByRecursion (IsAmong namings p) p.names) (grouped namings)
      (all_named (Contains namings) namings (recursion_from_All _ namings (All-contains_itself namings))) in
      let own = All-contains (λ p. AllByRecursion (IsAmong namings p) p.names) (grouped namings) patient all
      (contained patient (grouped namings) there) in
      All-contains (IsAmong namings patient) patient.names name
      (All-from_recursion (IsAmong namings patient) patient.names own) h,
  λ h. let has = named_patient (grouped namings) patient.id name
      (each_named namings (record { id = patient.id; name = name }) (member_of _ namings h)) in
      let same = one_patient (grouped namings) has.0 patient (ids_rise namings rising) has.1 there has.2 in
      subst (λ p. Contains p.names name) same (contained name has.0.names has.3),
)

has_its_names : (versions : List Parts) (namings : List Naming) (patient : NamedPatient)
    → ((id name : List ℕ) → Contains namings (record { id = id; name = name }) ↔ HasName versions id name)
    → IsStrictlySortedBy naming_cmp namings → Contains (filter has_several (grouped namings)) patient
    → HasItsNames versions patient
has_its_names versions namings patient same rising h =
    let there : Contains (grouped namings) patient = All-contains (Contains (grouped namings)) _ patient
    (All-filter has_several (Contains (grouped namings)) (grouped namings) (All-contains_itself (grouped namings))) h in
    let passes = All-contains (λ p. has_several p ≡ true) _ patient (filter_passes has_several (grouped namings)) h in
    record {
      several = ltb-true 1 (length patient.names) passes;
      falling = All-contains (λ p. IsStrictlySortedBy name_cmp p.names) (grouped namings) patient
          (All-from_recursion _ (grouped namings) (names_fall namings rising)) there;
      each = λ name.
          let own = its_names namings patient name rising (member_of patient (grouped namings) there) in
          let all = same patient.id name in
          (λ c. all.0 (own.0 c), λ c. own.1 (all.1 c));
    }

pub are_named : (versions : List Parts) (namings : List Naming)
    → SameMembers namings (map naming_of versions) → IsStrictlySortedBy naming_cmp namings
    → AreNamed versions (filter has_several (grouped namings))
are_named versions namings members rising =
    let same : (id name : List ℕ)
    → Contains namings (record { id = id; name = name }) ↔ HasName versions id name =
    λ id name. same_names versions namings id name members in
    record {
      rising = IsStrictlySortedBy-filter _ has_several (grouped namings) (ids_rise namings rising);
      own = All-weaker (Contains (filter has_several (grouped namings))) (HasItsNames versions)
          (λ patient h. has_its_names versions namings patient same rising h)
          (filter has_several (grouped namings)) (All-contains_itself (filter has_several (grouped namings)));
      every = λ id one other first second apart.
          let has = named_patient (grouped namings) id one
          (each_named namings (record { id = id; name = one }) (member_of _ namings ((same id one).1 first))) in
          let names : (name : List ℕ) → HasName versions id name → Contains has.0.names name = λ name h.
          (its_names namings has.0 name rising has.1).1 (subst (λ i. Contains namings (record { id = i; name = name }))
          (sym has.2) ((same id name).1 h)) in
          let several = are_several has.0.names one other (member_of one has.0.names (names one first))
          (member_of other has.0.names (names other second)) apart in
          (has.0, contained has.0 _ (kept has_several (grouped namings) has.0 has.1 several), has.2);
    }

-- where there are no versions, there is no such patient
pub none_named : AreNamed [] []
unfolding IsStrictlySortedBy
none_named = are_named [] [] (λ naming. (λ h. h, λ h. h)) tt
