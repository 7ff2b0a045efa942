use Rattle.std.proofs.Common.{◌≡◌, length, take}
use Rattle.dd_line.specs.Line.{words_of}
use Rattle.dd_inputs.proofs.source_paths.copies_of.Given as goal

abbrev pub invariant-loop-path : goal.invariant-loop-path
invariant-loop-path l = (words_of l.copies.items ≡ words_of (take l.path-index l.paths))
    × (length l.copies.items ≡ l.path-index)
