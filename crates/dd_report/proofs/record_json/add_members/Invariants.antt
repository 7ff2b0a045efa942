-- The members so far went.
use Rattle.std.proofs.Common.{◌≡◌}
use Rattle.dd_lines.specs.Telling.{way_of}
use Rattle.dd_lines.proofs.GoingOn.{Went}
use Rattle.dd_report.proofs.MemberLines.{named_text}
use Rattle.dd_report.proofs.record_json.add_members.Given as goal

abbrev pub invariant-loop-member : goal.invariant-loop-member
invariant-loop-member g l = record {
  same : l.lines.to.ghost_name ≡ l.initial.lines.to.ghost_name;
  went : Went named_text l.members l.member-index (way_of g.W.Write l.initial.lines) (way_of g.W.Write l.lines);
}
