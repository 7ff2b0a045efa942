-- How a device counts its calls and its failures, and what one read or write does to it.
use Rattle.std.specs.Prelude.{◌≡◌, ℕ, ◌+◌, ◌-◌, ◌<◌, ◌≤◌, min, List, [], ◌++◌, length, take, Option, None, Some, Result}
use Rattle.std.specs.Prelude.{Ok, Err, MatchResult, ⊤, ◌⊎◌}
use Rattle.std.proofs.Common.{inl, inr}

-- the value at which a count stays
abbrev pub last_count : ℕ
last_count = 18446744073709551615

-- a count after one more
abbrev pub counted : ℕ → ℕ
counted n = min (n + 1) last_count

-- the device failed, where its failures were `old` and are `new`
abbrev pub HasFailed : ℕ → ℕ → Type 0
HasFailed old new = counted old ≤ new

-- the device was called and did not fail, where its failures were `old` and are `new`
abbrev pub HasWorked : ℕ → ℕ → Type 0
HasWorked old new = (new ≡ old) × (old < last_count)

-- neither the calls nor the failures are at the last value
abbrev pub IsLive : ℕ → ℕ → Type 0
IsLive calls failures = (calls < last_count) × (failures < last_count)

-- the bytes that a read put to the front of its buffer
abbrev pub read_piece : {E : Type 0} → Result ℕ E → List ℕ → List ℕ
read_piece (Ok n) buf = take n buf
read_piece (Err e) buf = []

-- a reader that had given some bytes since a past has now given them and then `bytes`, whatever that past is
pub record Gives {S P : Type 0} (has_given : S → P → List ℕ → Type 0) (old new : S) (bytes : List ℕ) : Type 0 where
  pub then : (past : P) (before : List ℕ) → has_given old past before → has_given new past (before ++ bytes)

-- the same of a reader whose states have all bytes that it has given
abbrev pub GivesTold : {S : Type 0} → (S → List ℕ) → S → S → List ℕ → Type 0
GivesTold told old new bytes = Gives {P = Unit {0}} (λ s _ all. all ≡ told s) old new bytes

-- one of two facts about bytes: about what happened since the first past, or since the second
abbrev pub either_fact : {S P : Type 0} → (S → List ℕ → Type 0) → (P → List ℕ → Type 0) → S ⊎ P → List ℕ → Type 0
either_fact one other (inl past) bytes = one past bytes
either_fact one other (inr past) bytes = other past bytes

-- a write took a byte, or there was none to take
abbrev pub TakesSome : {E : Type 0} → Result ℕ E → List ℕ → Type 0
TakesSome r bytes = MatchResult r (λ n. n ≡ 0 → length bytes ≡ 0) (λ _. ⊥)

-- a write took nothing where there was a byte to take, or it gave an error
abbrev pub TakesNone : {E : Type 0} → Result ℕ E → List ℕ → Type 0
TakesNone r bytes = MatchResult r (λ n. (n ≡ 0) × (0 < length bytes)) (λ _. ⊤)

-- a device that is to fail for good after a number of bytes, where that is wanted, has not come there
abbrev pub IsBeforeFail : Option ℕ → ℕ → Type 0
IsBeforeFail None passed = ⊤
IsBeforeFail (Some fails) passed = passed < fails

-- how many of `wanted` bytes such a device lets pass
abbrev pub passing : Option ℕ → ℕ → ℕ → ℕ
passing None passed wanted = wanted
passing (Some fails) passed wanted = min wanted (fails - passed)
