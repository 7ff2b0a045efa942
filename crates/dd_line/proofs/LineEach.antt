-- Lists of which all members have a property, and the rows and rules under one id.
use Rattle.std.proofs.Common.{◌≡◌, Bool, true, false, List, [], ◌∷◌, ◌++◌, refl, ap, ◌||◌, sym, subst, true≢false}
use Rattle.std.specs.List.{find}
use Rattle.std.specs.Prelude.{IfSome, if◌then◌else◌}
use Rattle.std.specs.Str.{bytes_eq}
use Rattle.clap.specs.Kinds.{Kinds, or_else}
use Rattle.clap.specs.Walk.{Row, Rule, Text, at_row, has_row}
use Rattle.dd_line.specs.Line.{is_among}
use Rattle.std.proofs.lemmas.Slice.Eq.{bytes_eq-Decides}

-- ---- faults that do not come

pub first_none : (a b : Kinds) → or_else a b ≡ [] → a ≡ []
first_none [] b none = refl
first_none (k ∷ ks) b none = none

pub second_none : (a b : Kinds) → or_else a b ≡ [] → b ≡ []
second_none [] b none = none
second_none (k ∷ ks) b none = cc

-- ---- lists

-- P holds of each
abbrev pub Each : {X : Type 0} → (X → Type 0) → List X → Type 0
Each P [] = Unit {0}
Each P (x ∷ xs) = P x × Each P xs

pub each_join : {X : Type 0} (P : X → Type 0) (xs ys : List X) → Each P xs → Each P ys → Each P (xs ++ ys)
each_join P [] ys xall yall = yall
each_join P (x ∷ xs) ys xall yall = (xall.0, each_join P xs ys xall.1 yall)

-- what is found is one of them, and passes
pub each_found : {X : Type 0} (P : X → Type 0) (p : X → Bool) (xs : List X) → Each P xs
    → IfSome (find p xs) (λ x. P x × (p x ≡ true))
each_found P p [] all = tt
each_found P p (x ∷ xs) all = go (p x) refl (each_found P p xs all.1)
  where
    go : (t : Bool) → p x ≡ t → IfSome (find p xs) (λ y. P y × (p y ≡ true))
        → IfSome (find p (x ∷ xs)) (λ y. P y × (p y ≡ true))
    go true t rest = rw t (all.0, t)
    go false t rest = rw t rest

-- the rules of this name
abbrev pub named_in : Text → List Rule → List Rule
named_in name [] = []
named_in name (a ∷ rest) = if bytes_eq a.id name then a ∷ named_in name rest else named_in name rest

-- P holds of each rule where it holds of the rules with this name and of the rules with another name
pub each_named : (P : Rule → Type 0) (name : Text) (rules : List Rule)
    → ((a : Rule) → bytes_eq a.id name ≡ false → P a) → Each P (named_in name rules) → Each P rules
each_named P name [] other own = tt
each_named P name (a ∷ rest) other own = go (bytes_eq a.id name) refl (each_named P name rest other) own
  where
    go : (t : Bool) → bytes_eq a.id name ≡ t → (Each P (named_in name rest) → Each P rest)
        → Each P (if t then a ∷ named_in name rest else named_in name rest) → P a × Each P rest
    go true t later own = (own.0, later own.1)
    go false t later own = (other a t, later own)

pub at_row_each : (P : Row → Type 0) (id : Text) (change : Row → List Row) (missing rows : List Row)
    → ((r : Row) → P r → bytes_eq r.id id ≡ true → Each P (change r)) → Each P missing → Each P rows
    → Each P (at_row id change missing rows)
at_row_each P id change missing [] changed more all = more
at_row_each P id change missing (r ∷ rows) changed more all =
    go (bytes_eq r.id id) refl (at_row_each P id change missing rows changed more all.1)
  where
    go : (t : Bool) → bytes_eq r.id id ≡ t → Each P (at_row id change missing rows)
        → Each P (at_row id change missing (r ∷ rows))
    go true t rest = rw t (each_join P (change r) rows (changed r all.0 t) all.1)
    go false t rest = rw t (all.0, rest)

-- where no row has the id, the missing rows are added at the end
pub at_row_absent : (id : Text) (change : Row → List Row) (missing rows : List Row) → has_row id rows ≡ false
    → at_row id change missing rows ≡ rows ++ missing
at_row_absent id change missing [] none = refl
at_row_absent id change missing (r ∷ rows) none =
    go (bytes_eq r.id id) refl none (at_row_absent id change missing rows)
  where
    go : (t : Bool) → bytes_eq r.id id ≡ t → (bytes_eq r.id id || has_row id rows) ≡ false
        → (has_row id rows ≡ false → at_row id change missing rows ≡ rows ++ missing)
        → at_row id change missing (r ∷ rows) ≡ (r ∷ rows) ++ missing
    go true t none rest = let some = rw t at none in absurd (true≢false some)
    go false t none rest = rw t (ap (λ (x : List Row). r ∷ x) (rest (rw t at none)))

-- the rules of one name have what all rules have
pub named_each : (P : Rule → Type 0) (name : Text) (rules : List Rule) → Each P rules → Each P (named_in name rules)
named_each P name [] all = tt
named_each P name (a ∷ rest) all = go (bytes_eq a.id name) (named_each P name rest all.1)
  where
    go : (t : Bool) → Each P (named_in name rest)
        → Each P (if t then a ∷ named_in name rest else named_in name rest)
    go true later = (all.0, later)
    go false later = later

-- P holds of each text that is among those of which it holds
pub among_each : (P : Text → Type 0) (names : List Text) → Each P names → (name : Text)
    → is_among names name ≡ true → P name
among_each P [] all name is = absurd (true≢false (sym is))
among_each P (n ∷ names) all name is = go (bytes_eq n name) refl is (among_each P names all.1 name)
  where
    go : (t : Bool) → bytes_eq n name ≡ t → (t || is_among names name) ≡ true
        → (is_among names name ≡ true → P name) → P name
    go true t is rest = subst P ((bytes_eq-Decides n name).0 t) all.0
    go false t is rest = rest is
