-- A path that is not absolute is joined to the folder.
use Rattle.std.proofs.Common.{rules}
use Rattle.dd_inputs.proofs.LookedUp.{looked}
use Rattle.dd_inputs.proofs.line_paths.looked_up.Goals as goal

pub returns : goal.returns
returns c = looked c.path_in.result c.args.from.now c.args.path.now (λ slash. search (rules, slash))
    c.path_in.ensures.bare c.path_in.ensures.ended c.path_in.ensures.apart
