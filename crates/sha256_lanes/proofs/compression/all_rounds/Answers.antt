use Rattle.std.proofs.Common.{refl}
use Rattle.sha2.specs.Sha256.{rounds}
use Rattle.sha256_lanes.specs.Lanes.{lane}
use Rattle.sha256_lanes.proofs.compression.all_rounds.Goals as goal

pub returns : goal.returns
unfolding rounds
returns g c = λ j b low is_scheduled.
    let h = lane j c.args.h in
    let s1 = c.eight_rounds-v.ensures j b h low is_scheduled refl in
    let s2 = c.eight_rounds-v-2.ensures j b h low is_scheduled s1 in
    let s3 = c.eight_rounds-v-3.ensures j b h low is_scheduled s2 in
    let s4 = c.eight_rounds-v-4.ensures j b h low is_scheduled s3 in
    let s5 = c.eight_rounds-v-5.ensures j b h low is_scheduled s4 in
    let s6 = c.eight_rounds-v-6.ensures j b h low is_scheduled s5 in
    let s7 = c.eight_rounds-v-7.ensures j b h low is_scheduled s6 in
    c.eight_rounds.ensures j b h low is_scheduled s7
