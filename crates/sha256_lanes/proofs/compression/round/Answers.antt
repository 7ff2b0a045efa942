use Rattle.std.proofs.Common.{◌≡◌, arith, length, refl}
use Rattle.sha2.specs.Sha256.{schedule}
use Rattle.sha256_lanes.specs.Lanes.{lane}
use Rattle.sha256_lanes.proofs.Each.{written}
use Rattle.sha256_lanes.proofs.Rounds.{rounds_then}
use Rattle.sha256_lanes.proofs.compression.round.Goals as goal

pub returns : goal.returns
returns g c = λ j b h low is_scheduled held.
    let len : length c.args.v ≡ 8 = omega arith in
    rounds_then h (schedule b 48) (lane j c.args.v) c.args.t _ held
    (rw (
      written c.args.v _ _ _ _ _ _ _ _ len,
      c.add-first.ensures j low,
      c.add-fifth.ensures j low,
      c.add-t2.ensures j low,
      c.add-t1-4.ensures j low,
      c.add-t1-3.ensures j low,
      c.add-t1-2.ensures j low,
      c.add-t1.ensures j low,
      c.maj-most.ensures j low,
      c.big_sigma0-s0.ensures j low,
      c.splat-constant.ensures j low,
      c.ch-chosen.ensures j low,
      c.big_sigma1-s1.ensures j low,
      is_scheduled c.args.t c.requires,
    ) refl)
