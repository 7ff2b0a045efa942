-- The written bytes are a file of the version that was found of them, or of none.
use Rattle.std.proofs.Common.{ap}
use Rattle.std.specs.Prelude.{is_some}
use Rattle.dd_filing.proofs.Sending.{went_in_part}
use Rattle.dd_filing.proofs.places.FileAhead.copy_to.Goals as goal

pub returns-in-Some : goal.returns-in-Some
returns-in-Some g c = rw (← c.self.view_is) (
  ap (λ found. is_some found) c.in-Some.is,
  (c.of_found.ensures c.self.inside.bytes.now (rw c.in-Some.is at c.self.invariant), c.in-Ok.ensures.ok.1),
)

pub returns-in-Err : goal.returns-in-Err
returns-in-Err g c =
    rw (← c.self.view_is) (went_in_part c.self.inside.bytes.now c.in-Err.field-0 _ _ _ _ c.in-Err.ensures.err)
