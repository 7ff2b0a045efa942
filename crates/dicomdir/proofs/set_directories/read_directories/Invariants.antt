-- Each folder so far has given its directory, and the files are as they were.
use Rattle.std.proofs.Common.{◌≡◌, length, map, take}
use Rattle.dd_line.specs.Line.{words_of}
use Rattle.dicomdir.specs.Merges.{AreDirectories}
use Rattle.dicomdir.proofs.set_directories.read_directories.Given as goal

abbrev pub invariant-loop-at : goal.invariant-loop-at
invariant-loop-at g l = record {
  count : length l.all.items ≡ l.at;
  read : AreDirectories (take l.at (words_of l.folders)) (map (λ bytes. bytes.items) l.all.items)
      (g.F.Files.held l.fn.files);
  kept : g.F.Files.held l.files ≡ g.F.Files.held l.fn.files;
}
