use Rattle.std.proofs.Common.{◌/◌, ◌^◌}
use Rattle.std.proofs.lemmas.Simd.{shifts_fit_splat}
use Rattle.sha256_lanes.proofs.Shifts.{splat_each}
use Rattle.sha256_lanes.proofs.functions.shift_right.Goals as goal

pub overflow_shr-result : goal.overflow_shr-result
overflow_shr-result g c = shifts_fit_splat 32 c.args.x g.row.N c.args.n c.requires

pub returns : goal.returns
returns g c = splat_each (λ x n. x / 2 ^ n) c.args.n g.row.N c.args.x c.fits-x.0
