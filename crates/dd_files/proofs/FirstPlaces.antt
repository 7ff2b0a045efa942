-- Where the first element stands that passes a test, as the search for it answers.
use Rattle.std.proofs.Common.{◌≡◌, ℕ, Bool, true, false, cond, List, ◌<◌, ◌≤◌, Some, None, length, refl, sym, arith}
use Rattle.std.proofs.Common.{nat_lt}
use Rattle.std.specs.List.{position, position_or_len}
use Rattle.std.proofs.lemmas.Bool.Decides.{nat_tests}
use Rattle.std.proofs.lemmas.Option.{same_Some}

pub first_within : (test : ℕ → Bool) (list : List ℕ) (at : ℕ) → Some at ≡ position test list
    → (position_or_len test list < length list) × (position_or_len test list ≡ at)
first_within test list at is = go (nat_lt (position_or_len test list) (length list)) refl is
  where
    go : (t : Bool) → nat_lt (position_or_len test list) (length list) ≡ t
        → Some at ≡ cond t (Some (position_or_len test list)) None
        → (position_or_len test list < length list) × (position_or_len test list ≡ at)
    go true t is = (search (arith, nat_tests, t), same_Some (position_or_len test list) at (sym is))
    go false t is = absurd (cc)

pub none_within : (test : ℕ → Bool) (list : List ℕ) → None ≡ position test list
    → length list ≤ position_or_len test list
none_within test list is = go (nat_lt (position_or_len test list) (length list)) refl is
  where
    go : (t : Bool) → nat_lt (position_or_len test list) (length list) ≡ t
        → None ≡ cond t (Some (position_or_len test list)) None → length list ≤ position_or_len test list
    go true t is = absurd (cc)
    go false t is = search (arith, nat_tests, t)
