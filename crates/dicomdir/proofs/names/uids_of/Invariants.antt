use Rattle.std.proofs.Common.{◌≡◌, ◌++◌, length}
use Rattle.dd_line.specs.Line.{words_of}
use Rattle.dicomdir.specs.Names.{HasBadUid}
use Rattle.dicomdir.proofs.names.uids_of.Given as goal

-- One of all texts is not a UID exactly where one of the texts that remain is not. The UIDs so far, and then the texts
-- that remain, are all texts.
abbrev pub invariant-loop-texts : goal.invariant-loop-texts
invariant-loop-texts l =
    (HasBadUid l.texts → HasBadUid l.initial.texts) × (HasBadUid l.initial.texts → HasBadUid l.texts)
    × (l.uids.items ++ words_of l.texts ≡ words_of l.initial.texts)

abbrev pub decreases-loop-texts : goal.decreases-loop-texts
decreases-loop-texts l = length l.texts
