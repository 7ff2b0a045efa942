-- When sources have the same versions, whatever their order and however often one comes.
use Rattle.std.specs.Prelude.{◌≡◌, ◌<◌, ◌≤◌, ℕ, List, length, Option, Some, IsSome}
use Rattle.std.specs.Prelude.{Result, Ok, Err}
use Rattle.dd_dir.specs.Directories.{directory_of}
use Rattle.dd_keys.specs.Versions.{IsVersion}
use Rattle.dd_version.specs.declared.parts.Parts.{Parts}
use Rattle.dd_layout.specs.Limits.{Limits}
use Rattle.dd_layout.specs.Layouts.{Layout}
use Rattle.dd_engine.specs.declared.choice.Choice.{Choice}
use Rattle.dd_engine.specs.declared.engine.Indexed.{Indexed}
use Rattle.dd_sources.specs.declared.engine_fault.EngineFault.{EngineFault}
use Rattle.dd_sources.specs.declared.engine_fault.EngineFault.TheVariants.{Plan}
use Rattle.dd_engine.specs.Indexed.{AnswersSupply}

-- the bytes of each of the first sources are known
abbrev pub AreKnown : (ℕ → Option (List ℕ)) → ℕ → Type 0
AreKnown contents sources = (at : ℕ) → at < sources → IsSome (contents at)

-- one of the first sources has at most `limit` bytes, and this is their version
pub record IsVersionThere (limit : ℕ) (contents : ℕ → Option (List ℕ)) (sources : ℕ) (version : Parts) : Type 0 where
  pub at : ℕ
  pub within : at < sources
  pub file : List ℕ
  pub bytes : contents at ≡ Some file
  pub short : length file ≤ limit
  pub right : IsVersion file version

-- the answer of an index of sources whose bytes are known
pub record IndexesKnown (choice : Choice) (limits : Limits) (limit : ℕ) (contents : ℕ → Option (List ℕ)) (sources : ℕ)
    (answer : Result Indexed EngineFault) : Type 0 where
  pub known : AreKnown contents sources
  pub answers : AnswersSupply choice limits limit contents sources answer

-- two plans are the same, and the bytes of their directories
pub record AreSamePlans (one other : Layout) : Type 0 where
  pub plan : one ≡ other
  pub directory : directory_of one.label one.versions one.withdrawn
      ≡ directory_of other.label other.versions other.withdrawn

-- two answers have the same plan, or the same refusal of a plan, unless a source failed or memory ran out
abbrev pub Agree : Result Indexed EngineFault → Result Indexed EngineFault → Type 0
Agree (Ok one) (Ok other) = AreSamePlans one.plan other.plan
Agree (Ok one) (Err (Plan fault)) = ⊥
Agree (Err (Plan fault)) (Ok other) = ⊥
Agree (Err (Plan fault)) (Err (Plan other)) = fault ≡ other
Agree one other = Unit {0}
