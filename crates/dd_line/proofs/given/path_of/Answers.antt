-- The first value is the only one.
use Rattle.std.proofs.Common.{Some, ap, ◌∙◌}
use Rattle.std.proofs.lemmas.Result.{IfOk-weaker}
use Rattle.std.specs.Prelude.{string_bytes}
use Rattle.clap.specs.Words.{found_of, rows_of}
use Rattle.clap.proofs.WalkLemmas.{first_value-rows}
use Rattle.dd_line.proofs.LineRequests.{no_value, only_value}
use Rattle.dd_line.proofs.given.path_of.Goals as goal

pub unreachable-requires : goal.unreachable-requires
unreachable-requires c = no_value c.args.name.now (rows_of (found_of c.args.given.now)) c.requires
    (c.in-None.ensures ∙ first_value-rows (found_of c.args.given.now) c.args.name.now)

pub returns : goal.returns
returns c = IfOk-weaker c.from_str.result _ _
    (λ path is. only_value c.args.name.now (rows_of (found_of c.args.given.now)) (string_bytes path) c.requires
    (ap Some is ∙ c.in-Some.ensures ∙ first_value-rows (found_of c.args.given.now) c.args.name.now))
    c.from_str.ensures.ok
