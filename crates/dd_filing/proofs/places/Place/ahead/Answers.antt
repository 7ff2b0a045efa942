-- The bytes before a failure, which the slot kept and did not hash.
use Rattle.std.proofs.Common.{refl}
use Rattle.dd_filing.proofs.Knowing.{unread_ahead}
use Rattle.dd_filing.proofs.places.Place.ahead.Goals as goal

pub returns-in-Unread-Some : goal.returns-in-Unread-Some
returns-in-Unread-Some c =
    let s = c.in-Unread-Some in
    unread_ahead c.args.is_digested c.args.self.now.found _ _ s.bytes.now s.is-0 (s.ensures.kept.0 refl) s.ensures.value
