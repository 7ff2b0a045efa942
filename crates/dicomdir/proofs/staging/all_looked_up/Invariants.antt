-- The paths so far are those of the first names.
use Rattle.std.proofs.Common.{◌≡◌, length, map, take}
use Rattle.dd_line.specs.Line.{words_of}
use Rattle.dd_inputs.specs.From.{looked_up}
use Rattle.dicomdir.proofs.staging.all_looked_up.Given as goal

abbrev pub invariant-loop-name : goal.invariant-loop-name
invariant-loop-name l = (words_of l.paths.items ≡ map (looked_up l.from) (words_of (take l.name-index l.names)))
    × (length l.paths.items ≡ l.name-index)
