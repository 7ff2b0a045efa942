-- The list of each pile so far was read, and the files are as they were.
use Rattle.std.proofs.Common.{◌≡◌, take}
use Rattle.dd_line.specs.Line.{words_of}
use Rattle.dicomdir.specs.Publishes.{HasPiled}
use Rattle.dicomdir.proofs.piles.read_piles.Given as goal

abbrev pub invariant-loop-at : goal.invariant-loop-at
invariant-loop-at g l = record {
  piled : HasPiled (take l.at (words_of l.piles)) (g.F.Files.held l.fn.files) l.piled;
  kept : g.F.Files.held l.files ≡ g.F.Files.held l.fn.files;
}
