-- What a slot has taken.
use Rattle.std.specs.Prelude.{◌≡◌, ℕ, List, None, Option, Some}
use Rattle.sha2.specs.Hashers.{Holds256}
use Rattle.sha2.specs.declared.Sha256.{Sha256}
use Rattle.dd_slots.specs.declared.digests.Lanes.{Lanes}
use Rattle.dd_slots.specs.declared.digests.Lanes.TheVariants as lanes
use Rattle.dd_slots.specs.declared.slot.Slot.{Slot}

-- these bytes are kept, or a hasher holds them
abbrev pub HasTaken : Option Sha256 → List ℕ → List ℕ → Type 0
HasTaken None kept bytes = kept ≡ bytes
HasTaken (Some hasher) kept bytes = Holds256 hasher bytes

-- the slot is of these bytes
abbrev pub IsSlotOf : Slot → List ℕ → Type 0
IsSlotOf slot bytes = HasTaken slot.hasher slot.kept.items bytes

-- how many files are digested at once
abbrev pub lane_count : Lanes → ℕ
lane_count lanes.Four = 4
lane_count lanes.Eight = 8
