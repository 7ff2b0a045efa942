-- Digests change nothing of what is known but that it is shown.
use Rattle.std.proofs.Common.{List, true, ap, arith}
use Rattle.dd_filing.proofs.Knowing.{files_digested, places_digested}
use Rattle.dd_filing.specs.declared.places.Ahead.{Ahead}
use Rattle.dd_filing.proofs.files_ahead.FilesAhead.digest.Goals as goal

pub invariant_of-self : goal.invariant_of-self
invariant_of-self c =
    let h = c.digest.ensures in
    let past = c.self.invariant.1 in
    let held = h.held in (
      places_digested c.self.inside.places c.digest.new.self _ c.self.invariant.0 h.held h.first h.second h.third
          h.fourth h.fifth h.sixth h.seventh
          h.latest,
      omega (arith, past, held),
    )

pub returns : goal.returns
returns c =
    let h = c.digest.ensures in
    rw (← c.self.view_is)
    (ap (λ (files : List Ahead). record { files = files; past = c.self.inside.past; digested = true })
    (files_digested c.self.inside.places c.digest.new.self h.held h.first h.second h.third h.fourth h.fifth h.sixth
    h.seventh h.latest))
