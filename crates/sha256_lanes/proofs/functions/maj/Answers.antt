use Rattle.std.proofs.Common.{refl}
use Rattle.sha256_lanes.proofs.functions.maj.Goals as goal

pub returns : goal.returns
returns g c j low =
    rw (
      c.xor.ensures j low,
      c.xor-either.ensures j low,
      c.and-xy.ensures j low,
      c.and-xz.ensures j low,
      c.and-yz.ensures j low,
    ) refl
