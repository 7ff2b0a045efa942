-- What the reading of a supply gives, or with which fault it ends, by the counts of its sources before and after.
use Rattle.std.specs.Prelude.{◌<◌, ℕ}
use Rattle.dd_sources.specs.declared.engine_fault.EngineFault.{EngineFault}
use Rattle.dd_sources.specs.declared.supply.Supply.{Ghosts as SupplyOf}
use Rattle.dd_sources.specs.Faults.{FailsBy}
use Rattle.dd_sources.specs.Supply.{EndsWith, HasGivenAll}

module _ {S In : Type 0} (supply : SupplyOf S In) where
  -- each source can be opened
  abbrev pub AllThere : S → Type 0
  AllThere old = (at : ℕ) → at < supply.sources old → supply.is_there (supply.rest old) at

  -- of each source of at most `limit` bytes all were counted, where they are known and counted
  abbrev pub AllGiven : ℕ → S → S → Type 0
  AllGiven limit old new = (at : ℕ) → at < supply.sources old
      → HasGivenAll limit (supply.contents old at) (supply.given new at)

  -- reading all sources ended with this fault
  abbrev pub ReadingEndsBy : EngineFault → S → S → Type 0
  ReadingEndsBy fault old new = EndsWith fault (supply.sources old)
      (supply.refusals old) (supply.refusals new) (supply.unread old) (supply.unread new)

  -- indexing them did
  abbrev pub IndexingEndsBy : EngineFault → S → S → Type 0
  IndexingEndsBy fault old new = FailsBy fault (supply.sources old)
      (supply.refusals old) (supply.refusals new) (supply.unread old) (supply.unread new)
