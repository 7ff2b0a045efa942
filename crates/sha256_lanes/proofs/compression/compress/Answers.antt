use Rattle.std.proofs.Common.{ap, ◌∙◌}
use Rattle.sha2.specs.Sha256.{add_state, compress}
use Rattle.sha256_lanes.specs.Lanes.{lane}
use Rattle.sha256_lanes.proofs.compression.compress.Goals as goal

pub returns : goal.returns
unfolding compress
returns g c = λ j b low loaded.
    c.add_state.ensures j low
    ∙ ap (add_state (lane j c.args.hash.now))
    (c.all_rounds-v.ensures j b low (c.prepare_schedule.ensures j b low loaded))
