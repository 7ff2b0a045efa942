-- The items or members so far went.
use Rattle.std.proofs.Common.{◌≡◌}
use Rattle.dd_lines.specs.Telling.{way_of}
use Rattle.dd_json.proofs.ValueTexts.{AlongItems, AlongMembers}
use Rattle.dd_json.proofs.writing.+values.Given as goal

abbrev pub invariant-add_items-loop-item : goal.invariant-add_items-loop-item
invariant-add_items-loop-item g l = record {
  same : l.lines.to.ghost_name ≡ l.initial.lines.to.ghost_name;
  went : AlongItems l.later l.items l.item-index (way_of g.W.Write l.initial.lines) (way_of g.W.Write l.lines);
  stays : g.W.Write.rest l.lines.to.now ≡ g.W.Write.rest l.initial.lines.to.now;
}

abbrev pub invariant-add_members-loop-member : goal.invariant-add_members-loop-member
invariant-add_members-loop-member g l = record {
  same : l.lines.to.ghost_name ≡ l.initial.lines.to.ghost_name;
  went : AlongMembers l.later l.members l.member-index (way_of g.W.Write l.initial.lines) (way_of g.W.Write l.lines);
  stays : g.W.Write.rest l.lines.to.now ≡ g.W.Write.rest l.initial.lines.to.now;
}
