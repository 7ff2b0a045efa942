-- The parts of a list of names: the first part, the names so far, and how the parts make the list.
use Rattle.std.proofs.Common.{◌≡◌, ◌≢◌, ◌∙◌, ◌==◌, ◌⊎◌, ◌++◌, ◌+◌, ◌-◌, ◌<◌, ◌≤◌, ℕ, Bool, true, false}
use Rattle.std.proofs.Common.{List, [], ◌∷◌, Some, None, ap, ap₂, append_assoc, append-nil, arith, cond, drop}
use Rattle.std.proofs.Common.{inl, inr, length, length-drop, refl, subst, sym, take}
use Rattle.std.specs.List.{All, Contains, flat_map, onto_first, position, position_or_len}
use Rattle.std.proofs.Math.Nat.{le-max_right}
use Rattle.std.proofs.lemmas.Bool.Decides.{nat_tests}
use Rattle.std.proofs.lemmas.List.{take_all, get_or-take, get_or_at, get_or_append_left, length-append, length-take-le}
use Rattle.std.proofs.lemmas.List.Elements.{All-cons, All-contains, All-head, All-nil, All-push, All-tail, All-weaker}
use Rattle.std.proofs.lemmas.List.Sums.{fails_before_first, passes_at_first, split_at_first}
use Rattle.dd_files.proofs.FirstPlaces.{first_within, none_within}
use Rattle.dd_inputs.specs.ListedNames.{AreNames, FailsAt, IsListOf, IsListed, parts}

-- ---- the first part

abbrev at_first : List ℕ → ℕ
at_first list = position_or_len (λ byte. byte == 0) list

cons_yes : (byte : ℕ) (list : List ℕ) → (byte == 0) ≡ true → parts (byte ∷ list) ≡ [] ∷ parts list
cons_yes byte list e = ap (λ b. cond b ([] ∷ parts list) (onto_first byte (parts list))) e

cons_no : (byte : ℕ) (list : List ℕ) → (byte == 0) ≡ false → parts (byte ∷ list) ≡ onto_first byte (parts list)
cons_no byte list e = ap (λ b. cond b ([] ∷ parts list) (onto_first byte (parts list))) e

abbrev HasNoZero : List ℕ → Type 0
HasNoZero list = All (λ byte. (byte == 0) ≡ false) list

-- a list with no zero byte is one part
one_part : (byte : ℕ) (list : List ℕ) → HasNoZero (byte ∷ list) → parts (byte ∷ list) ≡ (byte ∷ list) ∷ []
one_part byte [] none = cons_no byte [] (All-head (λ b. (b == 0) ≡ false) byte [] none)
one_part byte (next ∷ list) none =
    cons_no byte (next ∷ list) (All-head (λ b. (b == 0) ≡ false) byte (next ∷ list) none)
    ∙ ap (onto_first byte) (one_part next list (All-tail (λ b. (b == 0) ≡ false) byte (next ∷ list) none))

-- the first part ends at the first zero byte
part_then : (front : List ℕ) (end : ℕ) (behind : List ℕ) → HasNoZero front → (end == 0) ≡ true
    → parts (front ++ end ∷ behind) ≡ front ∷ parts behind
part_then [] end behind none is = cons_yes end behind is
part_then (byte ∷ front) end behind none is =
    cons_no byte (front ++ end ∷ behind) (All-head (λ b. (b == 0) ≡ false) byte front none)
    ∙ ap (onto_first byte) (part_then front end behind (All-tail (λ b. (b == 0) ≡ false) byte front none) is)

no_zero_before : (list : List ℕ) (n : ℕ) → n ≤ at_first list → n ≤ length list → HasNoZero (take n list)
no_zero_before list n before within = λ k d below.
    let inside : k < n = omega (arith, below, length-take-le n list within) in
    subst (λ (byte : ℕ). (byte == 0) ≡ false) (sym (get_or-take n list k d inside))
    (fails_before_first (λ byte. byte == 0) list k d (omega (arith, inside, before)))

-- there is a zero byte, and after it the other parts
pub some_behind : (list : List ℕ) (at : ℕ) → Some at ≡ position (λ byte. byte == 0) list
    → parts list ≡ take at list ∷ parts (take (length list - (at + 1)) (drop (at + 1) list))
some_behind list at is =
    let found = first_within (λ byte. byte == 0) list at is in
    let rest = take_all (length list - (at + 1)) (drop (at + 1) list) (omega (arith, length-drop (at + 1) list)) in
    ap parts (split_at_first (λ byte. byte == 0) list 0 found.0)
    ∙ part_then (take (at_first list) list) _ (drop (at_first list + 1) list)
    (no_zero_before list (at_first list) (omega arith) (omega (arith, found.0)))
    (passes_at_first (λ byte. byte == 0) list 0 found.0)
    ∙ ap (λ (n : ℕ). take n list ∷ parts (drop (n + 1) list)) found.1
    ∙ ap (λ (xs : List ℕ). take at list ∷ parts xs) (sym rest)

-- a list with no zero byte is one part
pub none_behind : (list : List ℕ) → None ≡ position (λ byte. byte == 0) list → list ≢ [] → parts list ≡ list ∷ []
none_behind [] is some = absurd (some refl)
none_behind (byte ∷ list) is some =
    let past = none_within (λ byte. byte == 0) (byte ∷ list) is in
    one_part byte list
    (λ k d within. fails_before_first (λ byte. byte == 0) (byte ∷ list) k d (omega (arith, within, past)))

-- ---- the names so far

-- these names were read, and the other parts are left
pub record NamesRead (keeps_going : Bool) (list : List ℕ) (names : List (List ℕ)) (rest : List ℕ) : Type 0 where
  pub all : parts list ≡ names ++ parts rest
  pub good : All (IsListed keeps_going) names

pub none_read : (keeps_going : Bool) (list : List ℕ) → NamesRead keeps_going list [] list
none_read keeps_going list = record { all = refl; good = All-nil (IsListed keeps_going) }

pub name_read : (keeps_going : Bool) (list : List ℕ) (names : List (List ℕ)) (name rest later : List ℕ)
    → parts rest ≡ name ∷ parts later → NamesRead keeps_going list names rest → IsListed keeps_going name
    → NamesRead keeps_going list (names ++ name ∷ []) later
name_read keeps_going list names name rest later is so_far good = record {
  all = so_far.all ∙ ap (λ (xs : List (List ℕ)). names ++ xs) is
      ∙ sym (append_assoc names (name ∷ []) (parts later));
  good = All-push (IsListed keeps_going) names name so_far.good good;
}

-- where no parts are left
pub all_read : (keeps_going : Bool) (list : List ℕ) (names : List (List ℕ)) (rest : List ℕ) → rest ≡ []
    → NamesRead keeps_going list names rest → names ≡ parts list
all_read keeps_going list names rest none so_far =
    sym (so_far.all ∙ ap (λ (xs : List ℕ). names ++ parts xs) none ∙ append-nil names)

longer_some : (byte : ℕ) (names : List (List ℕ)) → onto_first byte names ≢ []
longer_some byte [] none = absurd (cc)
longer_some byte (name ∷ names) none = absurd (cc)

-- a list that is not empty has a part
parts_some : (list : List ℕ) → list ≢ [] → parts list ≢ []
parts_some [] some none = some refl
parts_some (byte ∷ list) some none = go (byte == 0) refl
  where
    go : (t : Bool) → (byte == 0) ≡ t → ⊥
    go true t = absurd (cc (sym (cons_yes byte list t) ∙ none))
    go false t = longer_some byte (parts list) (sym (cons_no byte list t) ∙ none)

pub all_good : (keeps_going : Bool) (list : List ℕ) (names : List (List ℕ)) (rest : List ℕ) → rest ≡ [] → list ≢ []
    → NamesRead keeps_going list names rest → AreNames keeps_going (parts list)
all_good keeps_going list names rest none some so_far = record {
  some = parts_some list some;
  each = subst (All (IsListed keeps_going)) (all_read keeps_going list names rest none so_far) so_far.good;
}

-- an empty list has no part, and no empty part is taken
none_listed : (keeps_going : Bool) → ¬ IsListed keeps_going []
none_listed false name = name.some refl
none_listed true some = some refl

pub fails_empty : (keeps_going : Bool) (list : List ℕ) → list ≡ [] → FailsAt keeps_going (parts list) 1
fails_empty keeps_going list none = subst (λ (xs : List ℕ). FailsAt keeps_going (parts xs) 1) (sym none) (record {
  counted = omega arith;
  within = omega arith;
  before = λ k d low high. absurd (omega (arith, low, high));
  fails = none_listed keeps_going;
})

-- where the next part is not taken
pub fails_next : (keeps_going : Bool) (list : List ℕ) (names : List (List ℕ)) (part rest later : List ℕ)
    → parts rest ≡ part ∷ parts later → NamesRead keeps_going list names rest → ¬ IsListed keeps_going part
    → FailsAt keeps_going (parts list) (length names + 1)
fails_next keeps_going list names part rest later is so_far bad =
    let at_part = get_or_at names part (parts later) [] (length names + 1 - 1) (omega arith) in
    subst (λ (xs : List (List ℕ)). FailsAt keeps_going xs (length names + 1))
    (sym (so_far.all ∙ ap (λ (xs : List (List ℕ)). names ++ xs) is)) (record {
      counted = omega arith;
      within = omega (
        arith,
        le-max_right 1 (length (names ++ part ∷ parts later)),
        length-append names (part ∷ parts later),
      );
      before = λ k d low high.
          let earlier : k < length names = omega (arith, high) in
          subst (IsListed keeps_going) (sym (get_or_append_left names (part ∷ parts later) d k earlier))
          (so_far.good k d earlier);
      fails = λ name. bad (subst (IsListed keeps_going) at_part name);
    })

-- ---- how the parts make the list

-- the parts, each with a zero byte after it, are the list, which may lack the last one
abbrev Makes : List (List ℕ) → List ℕ → Type 0
Makes names list = (flat_map (λ part. part ++ 0 ∷ []) names ≡ list)
    ⊎ (flat_map (λ part. part ++ 0 ∷ []) names ≡ list ++ 0 ∷ [])

makes_ended : (byte : ℕ) (names : List (List ℕ)) (list : List ℕ) → byte ≡ 0 → Makes names list
    → Makes ([] ∷ names) (byte ∷ list)
makes_ended byte names list zero_byte (inl is) = inl (ap₂ (λ (b : ℕ) (l : List ℕ). b ∷ l) (sym zero_byte) is)
makes_ended byte names list zero_byte (inr is) = inr (ap₂ (λ (b : ℕ) (l : List ℕ). b ∷ l) (sym zero_byte) is)

makes_longer : (byte : ℕ) (names : List (List ℕ)) (list : List ℕ) → Makes names list
    → Makes (onto_first byte names) (byte ∷ list)
makes_longer byte [] [] makes = inr refl
makes_longer byte [] (next ∷ list) (inl is) = absurd (cc)
makes_longer byte [] (next ∷ list) (inr is) = absurd (cc)
makes_longer byte (name ∷ names) list (inl is) = inl (ap (λ (l : List ℕ). byte ∷ l) is)
makes_longer byte (name ∷ names) list (inr is) = inr (ap (λ (l : List ℕ). byte ∷ l) is)

abbrev AreApart : List (List ℕ) → Type 0
AreApart names = All (λ part. All (λ byte. byte ≢ 0) part) names

longer_apart : (byte : ℕ) (names : List (List ℕ)) → byte ≢ 0 → AreApart names → AreApart (onto_first byte names)
longer_apart byte [] some apart =
    All-cons (λ part. All (λ b. b ≢ 0) part) (byte ∷ []) [] (All-cons (λ b. b ≢ 0) byte [] some (All-nil (λ b. b ≢ 0)))
    apart
longer_apart byte (name ∷ names) some apart =
    All-cons (λ part. All (λ b. b ≢ 0) part) (byte ∷ name) names
    (All-cons (λ b. b ≢ 0) byte name some (All-head (λ part. All (λ b. b ≢ 0) part) name names apart))
    (All-tail (λ part. All (λ b. b ≢ 0) part) name names apart)

record AreMade (list : List ℕ) : Type 0 where
  pub apart : AreApart (parts list)
  pub joined : Makes (parts list) list

made_more : (byte : ℕ) (list : List ℕ) (t : Bool) → (byte == 0) ≡ t → AreMade list → AreMade (byte ∷ list)
made_more byte list true is made = record {
  apart = subst AreApart (sym (cons_yes byte list is))
      (All-cons (λ part. All (λ b. b ≢ 0) part) [] (parts list) (All-nil (λ b. b ≢ 0)) made.apart);
  joined = subst (λ (xs : List (List ℕ)). Makes xs (byte ∷ list)) (sym (cons_yes byte list is))
      (makes_ended byte (parts list) list (search (arith, nat_tests, is)) made.joined);
}
made_more byte list false is made = record {
  apart = subst AreApart (sym (cons_no byte list is))
      (longer_apart byte (parts list) (search (arith, nat_tests, is)) made.apart);
  joined = subst (λ (xs : List (List ℕ)). Makes xs (byte ∷ list)) (sym (cons_no byte list is))
      (makes_longer byte (parts list) list made.joined);
}

are_made : (list : List ℕ) → AreMade list
are_made [] = record { apart = All-nil (λ part. All (λ b. b ≢ 0) part); joined = inl refl }
are_made (byte ∷ list) = made_more byte list (byte == 0) refl (are_made list)

pub parts_listed : (list : List ℕ) → IsListOf (parts list) list
parts_listed list = record {
  apart = All-weaker (λ part. All (λ b. b ≢ 0) part) (λ part. ¬ Contains part 0)
      (λ part apart has. All-contains (λ b. b ≢ 0) part 0 apart has refl) (parts list) (are_made list).apart;
  joined = (are_made list).joined;
}
