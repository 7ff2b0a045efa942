use Rattle.std.proofs.Common.{◌≡◌, Some, map, take}
use Rattle.dd_engine.specs.Picking.{taken_of}
use Rattle.dd_engine.proofs.picks.picks_of.Given as goal

-- the files of the images so far
abbrev pub invariant-loop-record : goal.invariant-loop-record
invariant-loop-record g l =
    map (λ pick. Some pick) l.picks.items ≡ taken_of l.files (take l.record-index l.record-items)
