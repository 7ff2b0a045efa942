-- A list with a first value is that value, and then the rest.
use Rattle.std.proofs.Common.{◌≡◌, ◌-◌, ◌<◌, List, [], ◌∷◌, length, take, drop, get_or, map, refl, sym, ap, ◌∙◌, arith}
use Rattle.std.proofs.lemmas.List.{take_all}

-- the list without its first value
abbrev pub rest_of : {X : Type 0} → List X → List X
rest_of l = take (length l - 1) (drop 1 l)

pub rest_is : {X : Type 0} (x : X) (l : List X) → rest_of (x ∷ l) ≡ l
rest_is x l =
    let less : length (x ∷ l) - 1 ≡ length l = omega arith in
    ap (λ n. take n l) less ∙ take_all (length l) l (omega arith)

pub first_and_rest : {X : Type 0} (l : List X) (x : X) → 0 < length l → x ≡ get_or l 0 x → l ≡ x ∷ rest_of l
first_and_rest [] x some read = absurd (omega (arith, some))
first_and_rest (y ∷ l) x some read = ap (λ z. z ∷ l) (sym read) ∙ ap (λ r. x ∷ r) (sym (rest_is y l))

pub map_rest : {X Y : Type 0} (f : X → Y) (l : List X) → map f (rest_of l) ≡ rest_of (map f l)
map_rest f [] = refl
map_rest f (x ∷ l) = ap (λ s. map f s) (rest_is x l) ∙ sym (rest_is (f x) (map f l))
