-- Sources whose answers are known: with their numbers, which are below their count.
use Rattle.std.specs.Prelude.{◌≡◌, ◌<◌, ◌≤◌, ◌+◌, ℕ, suc, List, [], ◌∷◌, length, map, All, Ok, Err}
use Rattle.std.proofs.lemmas.List.Elements.{All-nil, All-cons}
use Rattle.dd_keys.specs.declared.fault.KeyFault.{KeyFault}
use Rattle.dd_keys.specs.Sources.{Answer}
use Rattle.std.specs.List.{AllByRecursion, zip}
use Rattle.std.proofs.Common.{refl, ap, ap₂, ◌∙◌, arith}
use Rattle.dd_version.specs.declared.parts.Parts.{Parts}
use Rattle.dd_sources.specs.Indexing.{Sourced, accepted_from, skipped_from}
use Rattle.dd_sources.specs.Indexing.{versions_of}
use Rattle.dd_engine.specs.Picking.{files_of}

-- the numbers of sources
abbrev numbers_of : List Sourced → List ℕ
numbers_of sources = map (λ source. source.0) sources

zipped : (sources : List Sourced) → zip (numbers_of sources) (versions_of sources) ≡ sources
zipped [] = refl
zipped (source ∷ sources) = ap (λ rest. source ∷ rest) (zipped sources)

-- the zipped numbers and versions of the sources are the sources
pub zip_is : (sources : List Sourced) (numbers : List ℕ) (versions : List Parts) → numbers ≡ numbers_of sources
    → versions ≡ versions_of sources → zip numbers versions ≡ sources
zip_is sources numbers versions p v =
    ap₂ (λ (a : List ℕ) (b : List Parts). zip a b) p v ∙ zipped sources

-- ---- numbers of sources

-- the number of each skipped source is below the count of sources
pub skipped_below : (n at : ℕ) (answers : List Answer) → at + length answers ≤ n
    → All (λ skip. skip.0 < n) (skipped_from at answers)
skipped_below n at [] h = All-nil (λ (skip : ℕ × KeyFault). skip.0 < n)
skipped_below n at (Ok version ∷ answers) h = skipped_below n (suc at) answers (omega arith)
skipped_below n at (Err fault ∷ answers) h =
    All-cons (λ (skip : ℕ × KeyFault). skip.0 < n) (at, fault) (skipped_from (suc at) answers) (omega arith)
    (skipped_below n (suc at) answers (omega arith))

-- the number of each source with a version is below the count of sources
pub accepted_below : (n at : ℕ) (answers : List Answer) → at + length answers ≤ n
    → AllByRecursion (λ file. file.0 < n) (files_of (accepted_from at answers))
accepted_below n at [] h = tt
accepted_below n at (Ok version ∷ answers) h = (omega arith, accepted_below n (suc at) answers (omega arith))
accepted_below n at (Err fault ∷ answers) h = accepted_below n (suc at) answers (omega arith)
