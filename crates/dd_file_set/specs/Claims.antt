-- Which file a refusal names where a copied file is not what the plan says of it.
use Rattle.std.specs.Prelude.{◌≡◌, ◌⊎◌}
use Rattle.dd_filing.specs.declared.agreeing.Filed.{Filed}
use Rattle.dd_filing.specs.declared.agreeing.Filed.TheVariants.{AsPlanned, OtherVersion, Mislabelled}
use Rattle.dd_faults.specs.declared.refusal.ProgramFault.TheVariants.{Changed}
use Rattle.dd_faults.specs.declared.refusal.Refusal.{Refusal}
use Rattle.dd_faults.specs.declared.refusal.Subject.{Subject}
use Rattle.dd_faults.specs.Refusal.{IsMemory}

-- the file has changed, and what is named is such a subject
pub record IsChanged (Names : Subject → Type 0) (refusal : Refusal) : Type 0 where
  pub fault : refusal.fault ≡ Changed
  pub subject : Names refusal.subject

-- The refusal of a copy, by what it is beside the planned version. Where it is of another version, the file that it was
-- copied from is named. Where it is mislabelled, the claimant is named, which takes memory to find.
abbrev pub IsRefusedAs : Filed → (Subject → Type 0) → (Subject → Type 0) → Refusal → Type 0
IsRefusedAs AsPlanned Origin Claimant refusal = ⊥
IsRefusedAs OtherVersion Origin Claimant refusal = IsChanged Origin refusal
IsRefusedAs Mislabelled Origin Claimant refusal = IsMemory refusal ⊎ IsChanged Claimant refusal
