-- When a merge of the directories of single images plans what an index of the images plans.
use Rattle.std.specs.Prelude.{◌≡◌, ℕ, List, [], ◌∷◌, Result, Ok, Err}
use Rattle.dd_version.specs.declared.parts.Parts.{Parts}
use Rattle.dd_engine.specs.declared.engine.Indexed.{Indexed}
use Rattle.dd_sources.specs.declared.engine_fault.EngineFault.{EngineFault}
use Rattle.dd_sources.specs.declared.engine_fault.EngineFault.TheVariants as engine
use Rattle.dd_engine.specs.declared.merge.Merged.{Merged}
use Rattle.dd_engine.specs.declared.merge_fault.MergeFault.{MergeFault}
use Rattle.dd_engine.specs.declared.merge_fault.MergeFault.TheVariants as merge
use Rattle.dd_keys.specs.Sources.{Answer}
use Rattle.dd_sources.specs.Indexing.{accepted, versions_of}
use Rattle.dd_engine.specs.SameVersions.{AreSamePlans}
use Rattle.dd_making.specs.Images.{IsOfVersion}

-- each of these sets is the directory of the version in that place, as `of_image` gives it
abbrev pub AreOfVersions : List Parts → List (List ℕ) → Type 0
AreOfVersions [] [] = Unit {0}
AreOfVersions [] (set ∷ sets) = ⊥
AreOfVersions (version ∷ versions) [] = ⊥
AreOfVersions (version ∷ versions) (set ∷ sets) = IsOfVersion version set × AreOfVersions versions sets

-- they are the directories of the sources that have a version
abbrev pub AreOfSources : List Answer → List (List ℕ) → Type 0
AreOfSources answers sets = AreOfVersions (versions_of (accepted answers)) sets

-- An index and a merge have the same plan, and the bytes of one directory, or the same refusal of a plan, unless an
-- allocation was refused. The merge refuses no set.
abbrev pub PlansAgree : Result Indexed EngineFault → Result Merged MergeFault → Type 0
PlansAgree indexed (Err (merge.Dir at fault)) = ⊥
PlansAgree indexed (Err (merge.Own at fault)) = ⊥
PlansAgree indexed (Err merge.Memory) = Unit {0}
PlansAgree (Ok indexed) (Ok merged) = AreSamePlans indexed.plan merged.plan
PlansAgree (Ok indexed) (Err (merge.Plan fault)) = ⊥
PlansAgree (Err (engine.Plan fault)) (Ok merged) = ⊥
PlansAgree (Err (engine.Plan fault)) (Err (merge.Plan other)) = fault ≡ other
PlansAgree (Err fault) merged = Unit {0}
