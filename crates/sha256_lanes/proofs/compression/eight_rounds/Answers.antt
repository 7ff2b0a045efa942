use Rattle.std.proofs.Common.{ap, ◌∙◌, arith}
use Rattle.sha2.specs.Sha256.{rounds, schedule}
use Rattle.sha256_lanes.proofs.compression.eight_rounds.Goals as goal

pub returns : goal.returns
returns g c = λ j b h low is_scheduled held.
    let after = rounds h (schedule b 48) in
    let s1 = c.round-v.ensures j b h low is_scheduled held in
    let s2 = c.round-v-2.ensures j b h low is_scheduled s1 in
    let s3 = c.round-v-3.ensures j b h low is_scheduled (s2 ∙ ap after (omega arith)) in
    let s4 = c.round-v-4.ensures j b h low is_scheduled (s3 ∙ ap after (omega arith)) in
    let s5 = c.round-v-5.ensures j b h low is_scheduled (s4 ∙ ap after (omega arith)) in
    let s6 = c.round-v-6.ensures j b h low is_scheduled (s5 ∙ ap after (omega arith)) in
    let s7 = c.round-v-7.ensures j b h low is_scheduled (s6 ∙ ap after (omega arith)) in
    c.round.ensures j b h low is_scheduled (s7 ∙ ap after (omega arith)) ∙ ap after (omega arith)
