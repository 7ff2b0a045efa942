-- The names of one spelling more.
use Rattle.std.proofs.Common.{◌≡◌, ◌∙◌, ℕ, List, [], ◌∷◌, ◌++◌, ◌+◌, ◌<◌, ◌≤◌, length, map, take, get_or}
use Rattle.std.proofs.Common.{arith, sym, ap, subst}
use Rattle.std.proofs.lemmas.List.{length-map, map-append, take_all, take_more}
use Rattle.dd_spelling.specs.Spellings.{shown, spelled}
use Rattle.dd_spelling.specs.declared.spelling.Spelling.{Spelling}
use Rattle.dd_calls.specs.declared.texts.Texts.{Texts}
use Rattle.dd_calls.specs.Texts.{AreTexts, Puts}
use Rattle.dd_calls.proofs.Growing.{are_then}

-- the name in each of these spellings
abbrev pub names_in : List Spelling → List ℕ → List (List ℕ)
names_in spellings name = map (λ (s : Spelling). spelled s name) spellings

are_eight : (spellings : List Spelling) (name : List ℕ) → names_in spellings name ≡ shown name → length spellings ≡ 8
are_eight spellings name are =
    sym (length-map spellings (λ (s : Spelling). spelled s name)) ∙ ap (λ (ns : List (List ℕ)). length ns) are

pub name_more : (spellings : List Spelling) (i : ℕ) (d : Spelling) (name text : List ℕ) (a b : Texts)
    → i < 8 → names_in spellings name ≡ shown name → text ≡ spelled (get_or spellings i d) name
    → AreTexts (names_in (take i spellings) name) a → Puts (text ∷ []) a b
    → AreTexts (names_in (take (i + 1) spellings) name) b
name_more spellings i d name text a b early are is so_far next =
    let below : i < length spellings = omega (arith, early, are_eight spellings name are) in
    let of : Spelling → List ℕ = λ (s : Spelling). spelled s name in
    let front = take i spellings in
    let all : names_in front name ++ text ∷ [] ≡ names_in (take (i + 1) spellings) name =
    ap (λ (t : List ℕ). names_in front name ++ t ∷ []) is
    ∙ sym (map-append of front (get_or spellings i d ∷ []))
    ∙ ap (λ (ss : List Spelling). map of ss) (sym (take_more spellings i d below)) in
    subst (λ (v : List (List ℕ)). AreTexts v b) all (are_then (names_in front name) (text ∷ []) a b so_far next)

pub all_names : (spellings : List Spelling) (i : ℕ) (name : List ℕ) (a : Texts) → 8 ≤ i
    → names_in spellings name ≡ shown name → AreTexts (names_in (take i spellings) name) a → AreTexts (shown name) a
all_names spellings i name a late are so_far =
    let past : length spellings ≤ i = omega (arith, late, are_eight spellings name are) in
    subst (λ (v : List (List ℕ)). AreTexts v a)
    (ap (λ (ss : List Spelling). names_in ss name) (take_all i spellings past) ∙ are) so_far
