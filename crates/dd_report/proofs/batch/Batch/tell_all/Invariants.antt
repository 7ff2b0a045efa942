-- What is found of the files so far is printed.
use Rattle.std.proofs.Common.{◌≡◌, take}
use Rattle.std.specs.Prelude.{◌||◌, not}
use Rattle.std.specs.List.{flat_map}
use Rattle.dd_version.specs.Fitting.{is_empty}
use Rattle.dd_report.specs.Batches.{pending_files, pending_line}
use Rattle.dd_lines.specs.Telling.{way_of}
use Rattle.dd_lines.proofs.GoingOn.{Went}
use Rattle.dd_report.proofs.batch.Batch.tell_all.Given as goal

abbrev pub invariant-loop-at : goal.invariant-loop-at
invariant-loop-at g l = record {
  same : l.lines.to.ghost_name ≡ l.initial.lines.to.ghost_name;
  went : Went pending_line (pending_files l.self) l.at (way_of g.W.Write l.initial.lines) (way_of g.W.Write l.lines);
  found : l.found ≡ (l.self.found || not (is_empty (flat_map pending_line (take l.at (pending_files l.self)))));
  kept : g.F.Files.held l.files ≡ g.F.Files.held l.initial.files;
  refusals : g.F.Files.refusals l.files ≡ g.F.Files.refusals l.initial.files;
}
