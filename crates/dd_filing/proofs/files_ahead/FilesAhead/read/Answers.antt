-- The place of the file is held, and digests may be open.
use Rattle.std.proofs.Common.{refl, arith}
use Rattle.dd_filing.proofs.Knowing.{next_file, places_open}
use Rattle.dd_filing.specs.Ahead.{known_of}
use Rattle.dd_filing.proofs.files_ahead.FilesAhead.read.Goals as goal

pub invariant_of-self : goal.invariant_of-self
invariant_of-self g c =
    let past = c.self.invariant.1 in
    let held = c.keep.ensures.held in (
      c.keep.ensures.places _
          (places_open c.self.inside.places c.read.new.self _ c.self.invariant.0 c.read.ensures.place),
      omega (arith, past, held),
    )

pub returns-clause-room : goal.returns-clause-room
returns-clause-room g c = λ room.
    let h = c.read.ensures.read in
    record {
      given = h.given;
      gave = h.gave;
      known = h.known;
      few = h.few;
      answered = (
        known_of c.read.new.self,
        (
          rw (← c.self.view_is) (next_file c.self.inside.places c.keep.new.self c.read.new.self c.self.inside.past
              c.self.inside.is_digested _
              c.self.invariant.0.0 c.keep.ensures.files refl (rw (← c.self.view_is) at room)),
          h.answered,
        ),
      );
    }
