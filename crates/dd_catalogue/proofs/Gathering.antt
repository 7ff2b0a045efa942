-- Values that are joined to a first one, in turn.
use Rattle.std.specs.Prelude.{◌≡◌, ◌≢◌, ◌<◌, ◌≤◌, ◌+◌, ℕ, List, [], ◌∷◌, length, get_or, take, Contains}
use Rattle.std.specs.List.{All, fold}
use Rattle.std.proofs.Common.{refl, sym, ◌∙◌, ap, subst, arith, zero, suc}
use Rattle.std.proofs.lemmas.List.{take_all}
use Rattle.std.proofs.lemmas.List.Elements.{All-cons, Contains-get_or}
use Rattle.std.proofs.lemmas.List.Sums.{fold_more}
use Rattle.dd_catalogue.specs.Joins.{AreJoined}

pub fold_one : {V : Type 0} (join : V → V → V) (a : V) (xs : List V) (i : ℕ) (x b b' : V) → i < length xs
    → x ≡ get_or xs i x
    → b ≡ fold join a (take i xs) → b' ≡ join b x → b' ≡ fold join a (take (i + 1) xs)
fold_one join a xs i x b b' below read before after =
    after ∙ ap (λ y. join y x) before ∙ ap (λ y. join (fold join a (take i xs)) y) read
    ∙ sym (fold_more join a xs i x below)

pub first_value : {V : Type 0} (IsValue : V → Type 0) (join : V → V → V) (a : V) (xs : List V) (i : ℕ) (b : V)
    → b ≡ fold join a (take i xs) → IsValue b → (0 < i → IsValue a) → IsValue a
first_value IsValue join a xs zero b e value h = subst IsValue e value
first_value IsValue join a xs (suc i) b e value h = h (omega arith)

some_length : {V : Type 0} (xs : List V) → xs ≢ [] → 0 < length xs
some_length [] ne = absurd (ne refl)
some_length (x ∷ xs) ne = omega arith

pub all_values : {V : Type 0} (IsValue : V → Type 0) (a : V) (xs : List V) (i : ℕ) → length xs ≤ i
    → All IsValue (take i xs) → (0 < i → IsValue a) → AreJoined IsValue a xs
all_values IsValue a xs i whole rest first = λ ne.
    let some = some_length xs ne in
    let below : 0 < i = omega arith in
    All-cons IsValue a xs (first below) (subst (λ s. All IsValue s) (take_all i xs whole) rest)

-- the value of a turn is one of the list
pub item_there : {V : Type 0} (xs : List V) (i : ℕ) (x : V) → i < length xs → x ≡ get_or xs i x → Contains xs x
item_there xs i x below read = subst (λ y. Contains xs y) (sym read) (Contains-get_or xs i x below)
