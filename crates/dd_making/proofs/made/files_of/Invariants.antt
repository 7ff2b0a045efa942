-- The files of the picks so far are put.
use Rattle.dd_making.proofs.PutPicks.{ArePut}
use Rattle.dd_making.proofs.made.files_of.Given as goal

abbrev pub invariant-loop-pick : goal.invariant-loop-pick
invariant-loop-pick l = ArePut l.picks l.pick-index l.sets.items l.files
