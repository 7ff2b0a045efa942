-- What an index reads of its sources: of each the answer for its bytes, the versions of those that have one, and the
-- best of these.
use Rattle.std.specs.Prelude.{ℕ, suc, List, [], ◌∷◌, map, Ok, Err}
use Rattle.dd_catalogue.specs.Versions.{best_of}
use Rattle.dd_keys.specs.Sources.{Answer}
use Rattle.dd_keys.specs.declared.fault.KeyFault.{KeyFault}
use Rattle.dd_version.specs.declared.parts.Parts.{Parts}

-- ---- what was read

-- a version and the number of its source
abbrev pub Sourced : Type 0
Sourced = ℕ × Parts

-- from this number on: the sources that have a version, and those that have none, each with its fault
abbrev pub accepted_from : ℕ → List Answer → List Sourced
accepted_from at [] = []
accepted_from at (Ok version ∷ answers) = (at, version) ∷ accepted_from (suc at) answers
accepted_from at (Err fault ∷ answers) = accepted_from (suc at) answers

abbrev pub skipped_from : ℕ → List Answer → List (ℕ × KeyFault)
skipped_from at [] = []
skipped_from at (Ok version ∷ answers) = skipped_from (suc at) answers
skipped_from at (Err fault ∷ answers) = (at, fault) ∷ skipped_from (suc at) answers

abbrev pub accepted : List Answer → List Sourced
accepted answers = accepted_from 0 answers

abbrev pub skipped : List Answer → List (ℕ × KeyFault)
skipped answers = skipped_from 0 answers

-- the versions of all sources that have one, and the best of them
abbrev pub versions_of : List Sourced → List Parts
versions_of sources = map (λ source. source.1) sources

abbrev pub best_of_sources : List Sourced → List Parts
best_of_sources sources = best_of (versions_of sources)
