-- The lines of the records so far went.
use Rattle.std.proofs.Common.{◌≡◌}
use Rattle.dd_lines.specs.Telling.{way_of}
use Rattle.dd_lines.proofs.GoingOn.{Went}
use Rattle.dd_report.proofs.FoundLines.{record_text}
use Rattle.dd_report.proofs.file_set_listing.add_records.Given as goal

abbrev pub invariant-loop-record : goal.invariant-loop-record
invariant-loop-record g l = record {
  same : l.lines.to.ghost_name ≡ l.initial.lines.to.ghost_name;
  went : Went record_text l.records l.record-index (way_of g.W.Write l.initial.lines) (way_of g.W.Write l.lines);
}
