use Rattle.std.proofs.Common.{◌≡◌, map}
use Rattle.std.specs.List.{zip}
use Rattle.dd_engine.specs.Picking.{files_of}
use Rattle.dd_engine.proofs.FilesLeftOut.{named, says}
use Rattle.dd_engine.proofs.left_out.left_out_files.Given as goal

-- there is a note for each version so far of whose instance other bytes are kept
abbrev pub invariant-loop-origin : goal.invariant-loop-origin
invariant-loop-origin g l = map (λ note. says note) l.notes.items
    ≡ named (files_of (zip l.origins l.versions)) l.best (map (λ p. (p.0.now, p.1.now)) l.yielded)
