-- The sources so far have the first paths and names, and it is said which names are bad.
use Rattle.std.proofs.Common.{◌≡◌, ℕ, Some, length, map, take}
use Rattle.std.specs.Prelude.{slice_get}
use Rattle.dd_line.specs.Line.{words_of}
use Rattle.dd_pile.specs.declared.source.StageSource.{StageSource}
use Rattle.dicomdir.specs.FileSupply.{is_one}
use Rattle.dicomdir.proofs.staging.sources_at.Given as goal

abbrev pub invariant-loop-at : goal.invariant-loop-at
invariant-loop-at l = (map (λ source. source.path.now) l.staged.items ≡ words_of (take l.at l.paths))
    × (map (λ source. source.name.now) l.staged.items ≡ words_of (take l.at l.sources.names.now))
    × ((n : ℕ) (source : StageSource) → slice_get l.staged.items n ≡ Some source
    → source.is_bad_name ≡ is_one l.sources.bad_names.now n)
    × (length l.staged.items ≡ l.at)
