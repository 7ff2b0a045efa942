-- How many keys are compared where keys are taken out of a list.
use Rattle.std.specs.Prelude.{◌≡◌, ◌<◌, ◌≤◌, ◌+◌, ◌-◌, ℕ, List, [], ◌∷◌, Result, Ok, Err, length, get_or, drop, map}
use Rattle.std.specs.Prelude.{min, ◌==◌}
use Rattle.std.specs.List.{AllWithin, HoldsAt}
use Rattle.std.specs.declared.cmp.Ordering.TheVariants.{Less, Equal, Greater}
use Rattle.std.proofs.Common.{refl, sym, ◌∙◌, ap, subst, arith, add-one, zero, suc}
use Rattle.std.proofs.lemmas.Bool.{eqb-true, eqb-false}
use Rattle.std.proofs.lemmas.Cmp.{nat_list_cmp_total, tied_back}
use Rattle.std.proofs.lemmas.List.{length-drop, length-map}
use Rattle.std.proofs.lemmas.Map.Lookups.{exact_bytes}
use Rattle.dd_elem.specs.Ordered.{bytes_cmp}
use Rattle.dd_catalogue.specs.Best.{IsAbove, IsRising}
use Rattle.dd_catalogue.specs.CatalogueJoin.{uids_ordered}
use Rattle.dd_catalogue.specs.Compared.{compared_keys}
use Rattle.dd_catalogue.specs.Rising.{by_test, greater_turned, less_turned}
use Rattle.dd_catalogue.specs.Table.{IsIndex, found_index, met_by, passed_by}
use Rattle.dd_catalogue.proofs.TakenOut.{AreBelow, below_rest, from_here, rising-drop}
use Rattle.dd_catalogue.proofs.Woven.{compared_at_end, step_end_mine, step_equal, step_greater, step_less}

above-map : {V : Type 0} (key : V → List ℕ) (k : List ℕ) (m : List V) → IsAbove key bytes_cmp k m
    → IsAbove (λ u. u) bytes_cmp k (map key m)
above-map key k [] up = tt
above-map key k (v ∷ m) up = (up.0, above-map key k m up.1)

pub rising-map : {V : Type 0} (key : V → List ℕ) (m : List V) → IsRising key bytes_cmp m
    → IsRising (λ u. u) bytes_cmp (map key m)
rising-map key [] up = tt
rising-map key (v ∷ m) up = (above-map key (key v) m up.0, rising-map key m up.1)

-- ---- a search for the first key of a list

-- the smaller keys before this place are compared with it
skipped : (k : List ℕ) (m w : List (List ℕ)) (p : ℕ) → IsRising (λ u. u) bytes_cmp (k ∷ m)
    → IsRising (λ u. u) bytes_cmp w → p ≤ length w → AllWithin (λ u. bytes_cmp u k ≡ Less) w 0 p
    → compared_keys bytes_cmp (k ∷ m) w ≡ p + compared_keys bytes_cmp (k ∷ m) (drop p w)
skipped k m w zero up up' within low = omega arith
skipped k m [] (suc p) up up' within low = absurd (omega arith)
skipped k m (u ∷ w) (suc p) up up' within low =
    let here : bytes_cmp k u ≡ Greater = less_turned nat_list_cmp_total u k (low 0 u (omega arith) (omega arith)) in
    let step : compared_keys bytes_cmp (k ∷ m) (u ∷ w) ≡ 1 + compared_keys bytes_cmp (k ∷ m) w =
    (step_greater uids_ordered k u m w up up' here).4 in
    let rest : compared_keys bytes_cmp (k ∷ m) w ≡ p + compared_keys bytes_cmp (k ∷ m) (drop p w) =
    skipped k m w p up up'.1 (omega arith) (λ j d a b. low (suc j) d (omega arith) (omega arith)) in
    omega (arith, step, rest)

-- the key is there
found : (k : List ℕ) (m w : List (List ℕ)) (p : ℕ) → IsRising (λ u. u) bytes_cmp (k ∷ m)
    → IsRising (λ u. u) bytes_cmp w → p < length w → HoldsAt (λ u. bytes_cmp u k ≡ Equal) w p
    → compared_keys bytes_cmp (k ∷ m) (drop p w) ≡ 1 + compared_keys bytes_cmp m (drop (p + 1) w)
found k m [] p up up' within tie = absurd (omega arith)
found k m (u ∷ w) zero up up' within tie =
    (step_equal uids_ordered k u m w up up' (tied_back nat_list_cmp_total u k (tie u))).4
found k m (u ∷ w) (suc p) up up' within tie = rw (add-one (suc p))
    (found k m w p up up'.1 (omega arith) tie ∙ rw (add-one p) refl)

-- a greater key is there, or the end
stopped : (k : List ℕ) (m w : List (List ℕ)) (p : ℕ) → IsRising (λ u. u) bytes_cmp (k ∷ m)
    → IsRising (λ u. u) bytes_cmp w → p ≤ length w → AllWithin (λ u. bytes_cmp u k ≡ Greater) w p (length w)
    → compared_keys bytes_cmp (k ∷ m) (drop p w) ≡ min 1 (length w - p) + compared_keys bytes_cmp m (drop p w)
stopped k m [] zero up up' within high =
    let one = compared_at_end (λ u. u) bytes_cmp bytes_cmp (k ∷ m) [] refl in
    let rest = compared_at_end (λ u. u) bytes_cmp bytes_cmp m [] refl in
    omega (arith, one, rest)
stopped k m [] (suc p) up up' within high = absurd (omega arith)
stopped k m (u ∷ w) zero up up' within high =
    let here : bytes_cmp k u ≡ Less = greater_turned nat_list_cmp_total u k (high 0 u (omega arith) (omega arith)) in
    let step : compared_keys bytes_cmp (k ∷ m) (u ∷ w) ≡ 1 + compared_keys bytes_cmp m (u ∷ w) =
    (step_less uids_ordered k u m w up up' here).4 in
    omega (arith, step)
stopped k m (u ∷ w) (suc p) up up' within high =
    let rest : compared_keys bytes_cmp (k ∷ m) (drop p w) ≡ min 1 (length w - p) + compared_keys bytes_cmp m (drop p w) =
    stopped k m w p up up'.1 (omega arith) (λ j d a b. high (suc j) d (omega arith) (omega arith)) in
    omega (arith, rest)

sought : (k : List ℕ) (m w : List (List ℕ)) (r : Result ℕ ℕ) → IsRising (λ u. u) bytes_cmp (k ∷ m)
    → IsRising (λ u. u) bytes_cmp w → IsIndex (λ u. u) k w r
    → AllWithin (λ u. bytes_cmp u k ≡ Less) w 0 (found_index r)
    → compared_keys bytes_cmp (k ∷ m) w
    ≡ passed_by r + met_by (length w) r + compared_keys bytes_cmp m (drop (passed_by r) w)
sought k m w (Ok p) up up' is low =
    let first = skipped k m w p up up' (omega (arith, is.0)) low in
    let last = found k m w p up up' is.0 is.1 in
    omega (arith, first, last)
sought k m w (Err p) up up' is low =
    let first = skipped k m w p up up' is.0 low in
    let last = stopped k m w p up up' is.0 is.2 in
    omega (arith, first, last)

-- ---- one walk along both

pub passed_within : (k : List ℕ) (w : List (List ℕ)) (r : Result ℕ ℕ) → IsIndex (λ u. u) k w r
    → passed_by r ≤ length w
passed_within k w (Ok i) is = omega (arith, is.0)
passed_within k w (Err i) is = is.0

pub met_at_most : (n : ℕ) (r : Result ℕ ℕ) → met_by n r ≤ 1
met_at_most n (Ok i) = omega arith
met_at_most n (Err i) = omega arith

-- the keys that were passed are below all values that are left
pub below_passed : {V : Type 0} (key : V → List ℕ) (w : List (List ℕ)) (r : Result ℕ ℕ) (m : List V) (i : ℕ) (x : V)
    → IsRising key bytes_cmp m → i < length m → x ≡ get_or m i x → IsIndex (λ u. u) (key x) w r
    → AllWithin (λ u. bytes_cmp u (key x) ≡ Less) w 0 (found_index r)
    → AreBelow key w (passed_by r) (drop (i + 1) m)
below_passed key w (Err p) m i x up below read is low = below_rest key w p m i x up below read low
below_passed key w (Ok p) m i x up below read is low = λ j d a b. at_or_before j d b
  where
    here : IsRising key bytes_cmp (x ∷ drop (i + 1) m)
    here = subst (λ s. IsRising key bytes_cmp s) (from_here m i x below read) (rising-drop key m i up)

    at_or_before : (j : ℕ) (d : List ℕ) → j < p + 1 → IsAbove key bytes_cmp (get_or w j d) (drop (i + 1) m)
    at_or_before j d b = by_test (j == p)
        (λ e. let same : j ≡ p = eqb-true j p e in
        subst (λ u. IsAbove key bytes_cmp u (drop (i + 1) m))
        (sym (ap (λ q. get_or w q d) same ∙ exact_bytes (get_or w p d) (key x) (is.1 d))) here.0)
        (λ e. let other = eqb-false j p e in
        below_rest key w p m i x up below read low j d (omega arith) (omega (arith, other, b)))

pub counted_more : {V : Type 0} (key : V → List ℕ) (m : List V) (i : ℕ) (x : V) (w : List (List ℕ))
    (passed met total : ℕ) (r : Result ℕ ℕ)
    → IsRising key bytes_cmp m → IsRising (λ u. u) bytes_cmp w → i < length m → x ≡ get_or m i x → passed ≤ length w
    → AllWithin (λ u. bytes_cmp u (key x) ≡ Less) w 0 passed → IsIndex (λ u. u) (key x) w r
    → AllWithin (λ u. bytes_cmp u (key x) ≡ Less) w 0 (found_index r)
    → passed + met + compared_keys bytes_cmp (map key (drop i m)) (drop passed w) ≡ total
    → passed_by r + (met + met_by (length w) r)
    + compared_keys bytes_cmp (map key (drop (i + 1) m)) (drop (passed_by r) w) ≡ total
counted_more key m i x w passed met total r up up' below read within low is low' before =
    let rest = map key (drop (i + 1) m) in
    let split : drop i m ≡ x ∷ drop (i + 1) m = from_here m i x below read in
    let here : IsRising (λ u. u) bytes_cmp (key x ∷ rest) =
    rising-map key (x ∷ drop (i + 1) m) (subst (λ s. IsRising key bytes_cmp s) split (rising-drop key m i up)) in
    let now : compared_keys bytes_cmp (map key (drop i m)) (drop passed w)
    ≡ compared_keys bytes_cmp (key x ∷ rest) (drop passed w) =
    ap (λ s. compared_keys bytes_cmp (map key s) (drop passed w)) split in
    let first = skipped (key x) rest w passed here up' within low in
    let last = sought (key x) rest w r here up' is low' in
    omega (arith, now, first, last, before)

-- no value is left
pub counted_all : {V : Type 0} (key : V → List ℕ) (m : List V) (i : ℕ) (w : List (List ℕ)) (p : ℕ)
    → IsRising (λ u. u) bytes_cmp w → length m ≤ i
    → compared_keys bytes_cmp (map key (drop i m)) (drop p w) ≡ 0
counted_all key m i w p up end =
    let none : length (map key (drop i m)) ≡ 0 = omega (arith, length-map (drop i m) key, length-drop i m) in
    (step_end_mine uids_ordered (map key (drop i m)) (drop p w) none (rising-drop (λ u. u) w p up)).3
