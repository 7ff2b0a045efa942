-- A place of which nothing is known is held.
use Rattle.std.proofs.Common.{ap, arith, false, subst, sym}
use Rattle.dd_filing.proofs.Knowing.{next_file, places_open}
use Rattle.dd_filing.specs.Ahead.{IsPlace, known_by}
use Rattle.dd_filing.specs.declared.places.Found.{Found}
use Rattle.dd_filing.proofs.files_ahead.FilesAhead.skip.Goals as goal

pub invariant_of-self : goal.invariant_of-self
invariant_of-self c =
    let past = c.self.invariant.1 in
    let held = c.keep.ensures.held in
    let place = subst (λ (one : Found). IsPlace c.clear.new.self.slot one false) (sym c.clear.ensures) tt in (
      c.keep.ensures.places _ (places_open c.self.inside.places c.clear.new.self _ c.self.invariant.0 place),
      omega (arith, past, held),
    )

pub returns-clause-room : goal.returns-clause-room
returns-clause-room c = λ room.
    rw (← c.self.view_is) (next_file c.self.inside.places c.keep.new.self c.clear.new.self c.self.inside.past
    c.self.inside.is_digested _
    c.self.invariant.0.0 c.keep.ensures.files
    (ap (λ (one : Found). known_by one c.clear.new.self.slot.hasher c.clear.new.self.slot.kept.items)
    c.clear.ensures)
    (rw (← c.self.view_is) at room))
