-- Where the files stand that images are made of, and which of them a refusal names.
use Rattle.std.specs.Prelude.{◌≡◌, ◌<◌, ℕ, List, [], All, Option, Some, None, Result, Ok, Err, slice_index_or}
use Rattle.dd_engine.specs.declared.merge.Pick.{Pick}
use Rattle.dd_engine.specs.declared.merge_fault.MergeFault.{MergeFault}
use Rattle.dd_engine.specs.declared.merge_fault.MergeFault.TheVariants as faults
use Rattle.dd_engine.specs.Saying.{AnswersSaying}
use Rattle.dd_faults.specs.declared.refusal.Subject.{Subject}
use Rattle.dd_faults.specs.Refusal.{IsSetFile}
use Rattle.dd_files.specs.Paths.{IsPathIn, id_path}
use Rattle.dd_version.specs.declared.parts.Parts.{Parts}

-- the path of this number
abbrev pub IsPathAt : List (List ℕ) → ℕ → List ℕ → Type 0
IsPathAt paths at path = path ≡ slice_index_or paths at []

-- a file of a file-set, by the number of the set and its File ID, stands at this path
abbrev pub IsMemberPath : List (List ℕ) → Pick → List ℕ → Type 0
IsMemberPath folders pick path = All (λ byte. byte < 128) pick.file.now
    → IsPathIn (slice_index_or folders pick.set []) (id_path pick.file.now) path

-- By this answer the subject is a file of the set whose record is the first to say what the plan says. Where no record
-- does or a set can't be read again, it is a file of the pick's set. Where memory ran out, none is named.
abbrev pub IsNamedBy : Result (Option Pick) MergeFault → Pick → Subject → Type 0
IsNamedBy (Ok (Some first)) pick subject = IsSetFile first.set subject
IsNamedBy (Ok None) pick subject = IsSetFile pick.set subject
IsNamedBy (Err (faults.Dir at fault)) pick subject = IsSetFile pick.set subject
IsNamedBy (Err (faults.Own at fault)) pick subject = IsSetFile pick.set subject
IsNamedBy (Err (faults.Plan fault)) pick subject = ⊥
IsNamedBy (Err faults.Memory) pick subject = ⊥

abbrev pub IsClaimant : Parts → List (List ℕ) → Pick → Subject → Type 0
IsClaimant planned sets pick subject =
    (answer : Result (Option Pick) MergeFault) × AnswersSaying planned sets answer × IsNamedBy answer pick subject
