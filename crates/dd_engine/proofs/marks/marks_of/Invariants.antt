use Rattle.std.proofs.Common.{◌≡◌, map}
use Rattle.dd_engine.specs.Picking.{file_of, mark_view}
use Rattle.dd_engine.proofs.marks.marks_of.Given as goal

-- a mark of each version so far
abbrev pub invariant-loop-origin : goal.invariant-loop-origin
invariant-loop-origin g l = map (λ mark. mark_view mark) l.marks.items ≡ map (λ p. (p.0.now, file_of p.1.now)) l.yielded
