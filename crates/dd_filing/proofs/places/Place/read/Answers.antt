-- The bytes are the ones that the reader gave, unless they were hashed during the read.
use Rattle.dd_filing.proofs.ReadingAhead.{known_read, place_read}
use Rattle.dd_filing.proofs.places.Place.read.Goals as goal

pub returns-clause-place : goal.returns-clause-place
returns-clause-place g c =
    let h = c.ingest_kept-answer.ensures in
    place_read c.ingest_kept-answer.new.slot c.ingest_kept-answer.result c.found_by.result _ h.given _ _ _ h.answered
    c.found_by.ensures

pub returns-clause-read : goal.returns-clause-read
returns-clause-read g c =
    let h = c.ingest_kept-answer.ensures in
    record {
      given = h.given;
      gave = h.gave;
      known = h.known;
      few = h.few;
      answered = known_read c.ingest_kept-answer.new.slot.hasher _ c.ingest_kept-answer.result c.found_by.result _
          h.given _ _ _ _ h.answered.digested h.answered.kept c.found_by.ensures;
    }
