-- What became of each source where those that fail are passed: its answer, or why its bytes could not be had.
use Rattle.std.specs.Prelude.{◌≡◌, ℕ, List, [], ◌∷◌, length, map, slice_get, Option, IfSome, Result, Ok, Err}
use Rattle.dd_elem.specs.Device.{counted, HasFailed}
use Rattle.dd_keys.specs.declared.fault.KeyFault.TheVariants.{Read}
use Rattle.dd_keys.specs.Sources.{Answer}
use Rattle.dd_sources.specs.declared.engine_fault.EngineFault.{EngineFault}
use Rattle.dd_sources.specs.declared.engine_fault.EngineFault.TheVariants.{Memory, Absent, Unread, Plan}
use Rattle.dd_sources.specs.declared.supply.Supply.{Ghosts as SupplyOf}
use Rattle.dd_sources.specs.Supply.{AllStay, HasGivenAll, IsAnswer, OthersStay}

-- ---- what became of one source

-- the answer for its bytes, or why these could not be had
abbrev pub Reading : Type 0
Reading = Result Answer EngineFault

-- a source whose bytes could not be had is answered as one whose read failed
abbrev pub answer_of : Reading → Answer
answer_of (Ok answer) = answer
answer_of (Err fault) = Err Read

-- The source of this number was not read, for this reason. The refusals were `refusals` and are `refused`, the failures
-- of the readers were `unread` and are `failed`. No other source failed.
abbrev pub FailsSource : ℕ → EngineFault → (ℕ → ℕ) → (ℕ → ℕ) → (ℕ → ℕ) → (ℕ → ℕ) → Type 0
FailsSource at (Absent number) refusals refused unread failed = (number ≡ at) × (refused at ≡ counted (refusals at))
    × OthersStay at refusals refused × AllStay unread failed
FailsSource at (Unread number) refusals refused unread failed = (number ≡ at) × HasFailed (unread at) (failed at)
    × OthersStay at unread failed × AllStay refusals refused
FailsSource at Memory refusals refused unread failed = AllStay refusals refused × AllStay unread failed
FailsSource at (Plan fault) refusals refused unread failed = ⊥

-- By the counts of a source before and after, it has this answer, or it could not be opened or read. A source that has
-- one is there, and all its bytes were counted.
abbrev pub IsReading : ℕ → Option (List ℕ) → Type 0 → Option ℕ → ℕ → Reading → ℕ → ℕ → ℕ → ℕ → Type 0
IsReading limit contents There given at (Ok answer) refusals refused unread failed =
    IsAnswer limit contents answer × (refused ≡ refusals) × (failed ≡ unread) × There
    × HasGivenAll limit contents given
IsReading limit contents There given at (Err (Absent number)) refusals refused unread failed =
    (number ≡ at) × (refused ≡ counted refusals) × (failed ≡ unread)
IsReading limit contents There given at (Err (Unread number)) refusals refused unread failed =
    (number ≡ at) × (refused ≡ refusals) × HasFailed unread failed
IsReading limit contents There given at (Err fault) refusals refused unread failed = ⊥

-- the fault is that of a source, past which an index can go on
abbrev pub IsOfOne : EngineFault → Type 0
IsOfOne (Absent at) = Unit {0}
IsOfOne (Unread at) = Unit {0}
IsOfOne Memory = ⊥
IsOfOne (Plan fault) = ⊥

-- ---- what became of all

-- they are the readings of the first sources
pub record AreReadings (limit : ℕ) (contents : ℕ → Option (List ℕ)) (There : ℕ → Type 0) (given : ℕ → Option ℕ)
    (readings : List Reading) (refusals refused unread failed : ℕ → ℕ) : Type 0 where
  pub each : (at : ℕ) → IfSome (slice_get readings at) (λ reading. IsReading limit (contents at) (There at) (given at)
      at reading (refusals at) (refused at) (unread at) (failed at))

-- the answers of these readings
abbrev pub answers_of : List Reading → List Answer
answers_of readings = map answer_of readings

-- the numbers of the sources that could not be opened
abbrev pub absent_in : List Reading → List ℕ
absent_in [] = []
absent_in (Err (Absent number) ∷ readings) = number ∷ absent_in readings
absent_in (reading ∷ readings) = absent_in readings

module _ {S In : Type 0} (supply : SupplyOf S In) where
  -- these are the readings of all sources of the supply
  pub record AreAllReadings (limit : ℕ) (readings : List Reading) (old new : S) : Type 0 where
    pub count : length readings ≡ supply.sources old
    pub right : AreReadings limit (supply.contents old) (supply.is_there (supply.rest old)) (supply.given new) readings
        (supply.refusals old) (supply.refusals new) (supply.unread old) (supply.unread new)
