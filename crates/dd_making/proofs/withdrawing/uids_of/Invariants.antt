-- The texts so far were read.
use Rattle.dd_making.proofs.ReadUids.{AreRead}
use Rattle.dd_making.proofs.withdrawing.uids_of.Given as goal

abbrev pub invariant-loop-text : goal.invariant-loop-text
invariant-loop-text l = AreRead l.texts l.text-index l.uids.items
