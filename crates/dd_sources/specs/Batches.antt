-- Versions whose digests are open until slots are digested together, and what reading sources gives until then.
use Rattle.std.specs.Prelude.{◌≡◌, ◌<◌, ◌≤◌, ◌++◌, ◌∷◌, ℕ, List, [], Option, length, map, take}
use Rattle.sha2.specs.Sha256.{sha256}
use Rattle.dd_slots.specs.Slots.{IsSlotOf}
use Rattle.dd_slots.specs.declared.slot.Slot.{Slot}
use Rattle.dd_version.specs.Copies.{with_digest}
use Rattle.dd_version.specs.declared.parts.Parts.{Parts}
use Rattle.dd_keys.specs.Kept.{digested_by}
use Rattle.dd_keys.specs.Sources.{Answer}
use Rattle.dd_sources.specs.declared.batch.Batch.{Batch}
use Rattle.dd_sources.specs.declared.sources.Sources.{Sources}
use Rattle.dd_sources.specs.Indexing.{accepted, skipped, versions_of}
use Rattle.dd_sources.specs.Supply.{IsAnswer}

-- ---- versions of a batch

-- a version whose digest is open, and a slot of all bytes of its source
pub record Pending : Type 0 where
  pub version : Parts
  pub slot : Slot
  pub bytes : List ℕ
  pub kept : IsSlotOf slot bytes

-- the version with the digest of these bytes
abbrev pub digested : Pending → Parts
digested pending = with_digest pending.version (sha256 pending.bytes)

abbrev pub slots_of : Batch → List Slot
slots_of batch =
    batch.first ∷ batch.second ∷ batch.third ∷ batch.fourth ∷ batch.fifth ∷ batch.sixth ∷ batch.seventh
    ∷ batch.next ∷ []

-- the slots of the versions that are open
abbrev pub open_slots : Batch → List Slot
open_slots batch = take batch.used (slots_of batch)

-- The last of these versions are open, and their bytes are in the batch. Once these have their digests, all versions
-- are `closed`.
pub record IsOpen (batch : Batch) (versions closed : List Parts) : Type 0 where
  pub front : List Parts
  pub pending : List Pending
  pub many : length pending ≡ batch.used
  pub slots : open_slots batch ≡ map (λ one. one.slot) pending
  pub all : versions ≡ front ++ map (λ one. one.version) pending
  pub done : closed ≡ front ++ map digested pending

-- fewer than eight are open, and no more than there are
abbrev pub HasRoom : Batch → List Parts → Type 0
HasRoom batch versions = (batch.used < 8) × (batch.used ≤ length versions)

-- ---- what is read

-- with the digest of the bytes in the slot it is the answer for a source
pub record IsOpenAnswer (limit : ℕ) (contents : Option (List ℕ)) (slot : Slot) (answer : Answer) : Type 0 where
  pub bytes : List ℕ
  pub kept : IsSlotOf slot bytes
  pub right : IsAnswer limit contents (digested_by (sha256 bytes) answer)

-- what was read has these answers once the last versions have their digests
pub record HoldsOpen (answers : List Answer) (read : Sources) (batch : Batch) : Type 0 where
  pub versions : IsOpen batch read.versions.items (versions_of (accepted answers))
  pub origins : read.origins.items ≡ map (λ source. source.0) (accepted answers)
  pub skips : read.skipped.items ≡ skipped answers
