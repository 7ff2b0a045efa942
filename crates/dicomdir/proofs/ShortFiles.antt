-- A source of which a version is known has no more bytes than one may have.
use Rattle.std.proofs.Common.{◌<◌, ◌≤◌, ℕ, List, Ok, arith, length}
use Rattle.dd_keys.specs.Sources.{AnswersSource}
use Rattle.dd_version.specs.declared.parts.Parts.{Parts}
use Rattle.dicomdir.specs.Indexes.{most_of_source}

pub short_file : (file : List ℕ) (version : Parts) → AnswersSource most_of_source file (Ok version)
    → length file ≤ most_of_source
short_file file version answers =
    let no : most_of_source < length file → ⊥ = λ long. (let e = answers.long.1 long in absurd (cc)) in
    omega (arith, no)
