use Rattle.std.proofs.Common.{◌≡◌, take}
use Rattle.dd_engine.specs.SetNotes.{count_among}
use Rattle.dd_engine.proofs.set_notes.count_of.Given as goal

-- those so far
abbrev pub invariant-loop-version : goal.invariant-loop-version
invariant-loop-version l = l.count ≡ count_among l.uids (take l.version-index l.versions)
