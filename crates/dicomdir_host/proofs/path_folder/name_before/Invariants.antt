use Rattle.std.proofs.Common.{◌≤◌}
use Rattle.dicomdir_host.specs.Folders.{HasNoSlash}
use Rattle.dicomdir_host.proofs.path_folder.name_before.Given as goal

abbrev pub invariant-loop-start : goal.invariant-loop-start
invariant-loop-start l = record {
  bound : l.start ≤ l.place;
  name : HasNoSlash l.path l.start l.place;
}

abbrev pub decreases-loop-start : goal.decreases-loop-start
decreases-loop-start l = l.start
