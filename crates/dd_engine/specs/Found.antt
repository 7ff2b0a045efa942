-- What was found of sources that were read before.
use Rattle.std.specs.Prelude.{◌≡◌, ℕ, List, map}
use Rattle.dd_sources.specs.Indexing.{accepted, skipped, versions_of}
use Rattle.dd_keys.specs.declared.fault.KeyFault.{KeyFault}
use Rattle.dd_keys.specs.Sources.{Answer}
use Rattle.dd_version.specs.declared.parts.Parts.{Parts}

-- versions with the numbers of their sources, and the sources without one
pub record Found : Type 0 where
  pub versions : List Parts
  pub origins : List ℕ
  pub skipped : List (ℕ × KeyFault)

-- it is what these answers say
pub record HasFound (answers : List Answer) (found : Found) : Type 0 where
  pub versions : found.versions ≡ versions_of (accepted answers)
  pub origins : found.origins ≡ map (λ source. source.0) (accepted answers)
  pub skips : found.skipped ≡ skipped answers
