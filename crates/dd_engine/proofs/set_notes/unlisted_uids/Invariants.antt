use Rattle.std.proofs.Common.{◌≡◌, take}
use Rattle.dd_engine.specs.MergeSteps.{known_in}
use Rattle.dd_engine.specs.SetNotes.{new_to}
use Rattle.dd_engine.proofs.set_notes.unlisted_uids.Given as goal

-- the new ones of the UIDs so far
abbrev pub invariant-loop-at : goal.invariant-loop-at
invariant-loop-at l = l.uids.items ≡ new_to (known_in l.gathered l.given) (take l.at l.given)
