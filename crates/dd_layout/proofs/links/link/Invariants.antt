use Rattle.std.proofs.Common.{◌≡◌}
use Rattle.dd_layout.proofs.LinkPass.{later_after, linked_after}
use Rattle.dd_layout.proofs.links.link.Given as goal

-- the rows from here on have their links
abbrev pub invariant-loop-i : goal.invariant-loop-i
invariant-loop-i l = record {
  rows : l.records ≡ linked_after l.i l.initial.records;
  later : l.later ≡ later_after l.i l.initial.records;
}
