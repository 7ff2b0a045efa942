-- Where the writer failed, a first part of the bytes went.
use Rattle.dd_filing.proofs.Sending.{went_in_part}
use Rattle.dd_filing.proofs.places.FileAhead.copy_source_to.Goals as goal

pub returns-in_default : goal.returns-in_default
returns-in_default g c =
    rw (← c.self.view_is) (went_in_part c.self.inside.bytes.now c.in_default.field-0 _ _ _ _ c.in_default.ensures.err)
