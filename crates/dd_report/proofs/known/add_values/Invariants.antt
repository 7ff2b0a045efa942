-- The values so far went.
use Rattle.std.proofs.Common.{◌≡◌}
use Rattle.dd_set.specs.Views.{set_view}
use Rattle.dd_lines.specs.Telling.{way_of}
use Rattle.dd_lines.proofs.GoingOn.{Went}
use Rattle.dd_report.proofs.RecordLines.{value_text}
use Rattle.dd_report.proofs.known.add_values.Given as goal

abbrev pub invariant-loop-tag : goal.invariant-loop-tag
invariant-loop-tag g l = record {
  same : l.lines.to.ghost_name ≡ l.initial.lines.to.ghost_name;
  went : Went (value_text (set_view l.set)) l.wanted l.tag-index (way_of g.W.Write l.initial.lines)
      (way_of g.W.Write l.lines);
}
