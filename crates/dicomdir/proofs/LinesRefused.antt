-- Why a line is refused whose words the program takes: memory ran out, its limit is wrong, or it names no source. No
-- help is printed then.
use Rattle.std.proofs.Common.{◌≡◌, ◌⊎◌, ℕ, inl, inr, arith, subst, sym}
use Rattle.dd_line.specs.Line.{IsMissingArgument, IsRefusedWhere, IsWrongValue}
use Rattle.dd_line.specs.declared.line.LineFault.{LineFault}
use Rattle.dd_line.specs.declared.line.LineFault.TheVariants.{Refused, Memory}
use Rattle.dd_refusals.specs.Mistakes.{IsMistake}

missing_mistake : (fault : LineFault) → IsMissingArgument fault → IsMistake fault
missing_mistake (Refused e) missing = (λ help. cc, λ version. cc)
missing_mistake Memory missing = tt

wrong_mistake : (fault : LineFault) → IsWrongValue fault → IsMistake fault
wrong_mistake (Refused e) wrong = (λ help. cc, λ version. cc)
wrong_mistake Memory wrong = tt

pub taken_mistake : (fault : LineFault) (Wrong Lacks : Type 0) → IsRefusedWhere Wrong Lacks fault → IsMistake fault
taken_mistake fault Wrong Lacks (inl memory) = subst IsMistake (sym memory) tt
taken_mistake fault Wrong Lacks (inr (inl (is, wrong))) = wrong_mistake fault wrong
taken_mistake fault Wrong Lacks (inr (inr (lacks, missing))) = missing_mistake fault missing

-- with status 2 its limit is wrong, or it names no source
pub taken_lacks : (fault : LineFault) (status : ℕ) (Bad Wrong Lacks : Type 0) → IsRefusedWhere Wrong Lacks fault
    → (fault ≡ Memory → status ≡ 1) → status ≡ 2 → Bad ⊎ (Wrong ⊎ Lacks)
taken_lacks fault status Bad Wrong Lacks (inl memory) one two = absurd (omega (arith, one memory, two))
taken_lacks fault status Bad Wrong Lacks (inr (inl (is, wrong))) one two = inr (inl is)
taken_lacks fault status Bad Wrong Lacks (inr (inr (lacks, missing))) one two = inr (inr lacks)
