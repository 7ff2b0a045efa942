use Rattle.std.proofs.Common.{refl}
use Rattle.sha256_lanes.proofs.functions.big_sigma1.Goals as goal

pub returns : goal.returns
returns g c j low =
    rw (
      c.xor.ensures j low,
      c.xor-both.ensures j low,
      c.rotate_right-near.ensures j low,
      c.rotate_right-middle.ensures j low,
      c.rotate_right-far.ensures j low,
    ) refl
