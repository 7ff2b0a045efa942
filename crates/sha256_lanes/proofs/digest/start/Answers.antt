use Rattle.std.proofs.Common.{refl}
use Rattle.sha256_lanes.proofs.Each.{written}
use Rattle.sha256_lanes.proofs.digest.start.Goals as goal

pub returns : goal.returns
returns g c = λ j low.
    rw (
      written c.args.hash.now _ _ _ _ _ _ _ _ c.told-hash,
      c.splat.ensures j low,
      c.splat-2.ensures j low,
      c.splat-3.ensures j low,
      c.splat-4.ensures j low,
      c.splat-5.ensures j low,
      c.splat-6.ensures j low,
      c.splat-7.ensures j low,
      c.splat-8.ensures j low,
    ) refl
