-- The end of the line went, or the writer failed in it.
use Rattle.std.proofs.Common.{[], ◌∷◌}
use Rattle.dd_lines.proofs.GoingOn.{tells_both}
use Rattle.dd_lines.proofs.line_buffer.LineBuffer.add_end.Goals as goal

pub returns-clause-written : goal.returns-clause-written
returns-clause-written g c = tells_both c.add.result (10 ∷ []) _ _ c.add.ensures.sent c.add.ensures.unsent
