-- Sources by number: how their counts change, and what reading all of them gives.
use Rattle.std.specs.Prelude.{◌≡◌, ◌≢◌, ◌+◌, ◌-◌, ◌<◌, ◌≤◌, min, ℕ, List, length, map, slice_get}
use Rattle.std.specs.Prelude.{Option, IfSome, Result, IfErr, IsErr, IsOk}
use Rattle.dd_elem.specs.Device.{counted, last_count, HasFailed, IsLive}
use Rattle.dd_keys.specs.Sources.{AnswersSource, IsOfSource, Answer}
use Rattle.dd_sources.specs.declared.engine_fault.EngineFault.{EngineFault}
use Rattle.dd_sources.specs.declared.engine_fault.EngineFault.TheVariants.{Memory, Absent, Unread, Plan}
use Rattle.dd_sources.specs.declared.sources.Sources.{Sources}
use Rattle.dd_sources.specs.Indexing.{accepted, skipped, versions_of}

-- ---- the counts of a supply, by the number of the source

-- a count of `n` after `m` more
abbrev pub added : ℕ → ℕ → ℕ
added n m = min (n + m) last_count

-- the counts of all sources are as they were
pub record AllStay {A : Type 0} (old new : ℕ → A) : Type 0 where
  pub stays : (at : ℕ) → new at ≡ old at

-- the counts of all sources but one are
pub record OthersStay {A : Type 0} (at : ℕ) (old new : ℕ → A) : Type 0 where
  pub stays : (other : ℕ) → other ≢ at → new other ≡ old other

-- a source can be opened: there is one of this number, and no count of it is at the last value
pub record IsOpenable (at sources : ℕ) (refusals unread reads lent : ℕ → ℕ) : Type 0 where
  pub there : at < sources
  pub live : IsLive (refusals at) (unread at)
  pub lendable : IsLive (reads at) (lent at)

-- What the result of an opening does to the refusals: where it is refused, and there is such a source, that source's
-- count is one more; no other changes.
pub record CountsRefusal {R E : Type 0} (result : Result R E) (at sources : ℕ) (old new : ℕ → ℕ) : Type 0 where
  pub worked : IsOk result → AllStay old new
  pub refused : IsErr result → at < sources → new at ≡ counted (old at)
  pub others : OthersStay at old new

-- what the result of an opening does to the lent readers: one more of this source is, or all are as they were
pub record Lends {R E : Type 0} (result : Result R E) (at : ℕ) (old new : ℕ → ℕ) : Type 0 where
  pub lent : IsOk result → new at ≡ old at + 1
  pub unlent : IsErr result → AllStay old new
  pub others : OthersStay at old new

-- one reader of this source is lent no more, where there is such a source, and all others are as they were
pub record TakesBack (at sources : ℕ) (old new : ℕ → ℕ) : Type 0 where
  pub back : at < sources → new at ≡ old at - 1
  pub others : OthersStay at old new

-- the count of this source grew by `more`, where there is such a source, and no other did
pub record AddsTo (at sources more : ℕ) (old new : ℕ → ℕ) : Type 0 where
  pub here : at < sources → new at ≡ added (old at) more
  pub others : OthersStay at old new

-- Where it is counted how many bytes a reader of this source gave, the count is right. The counts of all other sources
-- are as they were.
pub record CountsGiven (was_given : List ℕ → Type 0) (at sources : ℕ) (old new : ℕ → Option ℕ) : Type 0 where
  pub here : at < sources
      → IfSome (new at) (λ count. (bytes : List ℕ) → was_given bytes → count ≡ min (length bytes) last_count)
  pub others : OthersStay at old new

-- of a source of at most `limit` bytes all were counted, where they are known and counted
abbrev pub HasGivenAll : ℕ → Option (List ℕ) → Option ℕ → Type 0
HasGivenAll limit contents given = IfSome contents (λ file. length file ≤ limit
    → IfSome given (λ count. count ≡ min (length file) last_count))

-- the counts of all sources before one are as they were
pub record StayBelow (at : ℕ) (old new : ℕ → ℕ) : Type 0 where
  pub stays : (before : ℕ) → before < at → new before ≡ old before

-- each count grew by at most `most`
pub record EachGrows (most : ℕ) (old new : ℕ → ℕ) : Type 0 where
  pub grows : (at : ℕ) → new at ≤ old at + most

-- Of each source as many readers are lent as before. One was read at most `most` times more, and no other.
pub record IsUsed (at most : ℕ) (lent back reads read : ℕ → ℕ) : Type 0 where
  pub ended : AllStay lent back
  pub few : read at ≤ reads at + most
  pub others : OthersStay at reads read

-- Reading `sources` sources ended with a fault; the refusals were `refusals` and are `refused`, the failures of their
-- readers were `unread` and are `failed`. A source that is named failed in this, and none before it did; where memory
-- ran out none failed.
abbrev pub EndsWith : EngineFault → ℕ → (ℕ → ℕ) → (ℕ → ℕ) → (ℕ → ℕ) → (ℕ → ℕ) → Type 0
EndsWith Memory sources refusals refused unread failed = AllStay refusals refused × AllStay unread failed
EndsWith (Absent at) sources refusals refused unread failed = (at < sources)
    × (refused at ≡ counted (refusals at)) × StayBelow at refusals refused × StayBelow at unread failed
EndsWith (Unread at) sources refusals refused unread failed = (at < sources)
    × HasFailed (unread at) (failed at) × StayBelow at refusals refused × StayBelow at unread failed
EndsWith (Plan fault) sources refusals refused unread failed = ⊥

-- ---- the answers for sources

-- the answer for a source, whether its bytes are known or not
pub record IsAnswer (limit : ℕ) (contents : Option (List ℕ)) (answer : Answer) : Type 0 where
  pub settled : IfErr answer IsOfSource
  pub right : IfSome contents (λ file. AnswersSource limit file answer)

-- they are the answers for the first sources
pub record AreAnswers (limit : ℕ) (contents : ℕ → Option (List ℕ)) (answers : List Answer) : Type 0 where
  pub each : (at : ℕ) → IfSome (slice_get answers at) (IsAnswer limit (contents at))

-- what was read has the versions among the answers, each with its source, and the sources without one
pub record Holds (answers : List Answer) (read : Sources) : Type 0 where
  pub versions : read.versions.items ≡ versions_of (accepted answers)
  pub origins : read.origins.items ≡ map (λ source. source.0) (accepted answers)
  pub skips : read.skipped.items ≡ skipped answers
