use Rattle.std.proofs.Common.{map}
use Rattle.std.proofs.lemmas.Result.{err_from_is_err_and}
use Rattle.dd_stream.proofs.Going.{first_fails, then_sends, sends_same}
use Rattle.dd_staged.specs.Sources.{source_view}
use Rattle.dd_staged.specs.Stages.{source_items}
use Rattle.dd_staged.proofs.Digested.{stage_parts}
use Rattle.dd_staged.proofs.writing.send_stage.Goals as goal

pub returns-in_err-sent-clause-sends : goal.returns-in_err-sent-clause-sends
returns-in_err-sent-clause-sends g c =
    let p = err_from_is_err_and c.from_residual.result c.from_residual.ensures.1 in
    rw (p.1, p.2) (sends_same _ _ _ _ _ _ _ _ (stage_parts (source_items (map source_view c.args.list.now))
    c.list_digest-digest.result c.list_digest-digest.ensures) (first_fails _ _ _ _ _ _ _ _ c.in_err-sent.ensures))

pub returns-clause-sends : goal.returns-clause-sends
returns-clause-sends g c =
    sends_same _ _ _ _ _ _ _ _ (stage_parts (source_items (map source_view c.args.list.now))
    c.list_digest-digest.result c.list_digest-digest.ensures)
    (then_sends _ _ _ _ _ _ _ _ _ _ _ c.in_ok-sent.ensures c.send_digest.ensures)
