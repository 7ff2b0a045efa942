use Rattle.std.proofs.Common.{refl}
use Rattle.sha256_lanes.proofs.functions.ch.Goals as goal

pub returns : goal.returns
returns g c j low =
    rw (
      c.xor.ensures j low,
      c.and-chosen.ensures j low,
      c.and-others.ensures j low,
      c.complement-not_x.ensures j low,
    ) refl
