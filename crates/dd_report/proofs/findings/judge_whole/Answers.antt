-- Where the record has no digest the file does not wait.
use Rattle.std.proofs.Common.{◌∙◌, Option, ap, refl, sym}
use Rattle.std.specs.Option.{option_or}
use Rattle.dd_walk.specs.ForestViews.{tree_view}
use Rattle.dd_walk.specs.Saying.{digest_in}
use Rattle.dd_report.specs.declared.findings.Finding.{Finding}
use Rattle.dd_report.proofs.Agreeing.{set_same}
use Rattle.dd_report.proofs.Judging.{digest_known, digest_waits, kept_whole, undigested}
use Rattle.dd_report.proofs.findings.judge_whole.Goals as goal

pub returns-in_default-clause-found : goal.returns-in_default-clause-found
returns-in_default-clause-found c = λ given taken.
    let recorded = c.digest_in.ensures ∙ ap digest_in (set_same c.args.tree.now) in
    c.or.ensures ∙ ap (λ (o : Option Finding). option_or c.args.otherwise o) c.without_digest.ensures
    ∙ undigested c.args.strict (tree_view c.args.tree.now).node c.args.otherwise given
    (sym recorded ∙ c.in_default.is)

pub returns-in-Some-bytes-clause-found : goal.returns-in-Some-bytes-clause-found
returns-in-Some-bytes-clause-found c = λ given taken.
    let recorded = c.digest_in.ensures ∙ ap digest_in (set_same c.args.tree.now) in
    digest_waits c.args.strict (tree_view c.args.tree.now).node c.args.slot.now c.args.otherwise given
    c.in-Some.recorded (sym recorded ∙ c.in-Some.is)
    (kept_whole c.args.slot.now (c.in-Some-bytes.ensures.kept.0 refl)) taken

pub returns-in-Some-bytes-clause-bytes : goal.returns-in-Some-bytes-clause-bytes
returns-in-Some-bytes-clause-bytes c = kept_whole c.args.slot.now (c.in-Some-bytes.ensures.kept.0 refl)

pub returns-in-None-clause-found : goal.returns-in-None-clause-found
returns-in-None-clause-found c = λ given taken.
    let recorded = c.digest_in.ensures ∙ ap digest_in (set_same c.args.tree.now) in
    c.or-in-None.ensures
    ∙ digest_known c.args.strict (tree_view c.args.tree.now).node c.args.otherwise given c.in-Some.recorded
    c.digest.result c.digest_finding.result (sym recorded ∙ c.in-Some.is) (c.digest.ensures given taken)
    c.digest_finding.ensures
