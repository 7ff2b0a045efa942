-- A line goes part by part.
use Rattle.std.proofs.Common.{◌≤◌, length, ◌∙◌, arith, rules}
use Rattle.dd_lines.proofs.TextLemmas.{end_fails, end_goes, on_err, on_err_weaker, on_ok_weaker, part_fails, part_goes}
use Rattle.dd_lines.proofs.TextLemmas.{rest_fails, sent_last}
use Rattle.dd_lines.proofs.text.print_line.Goals as goal

pub loop-part-preserved : goal.loop-part-preserved
loop-part-preserved g c = record {
  same = c.in_ok-add_masked.ensures.same ∙ c.loop-part.invariant.same;
  sent = part_goes _ _ _ _ _ _ _ _ _ _ _ c.loop-part-test.true c.loop-part.invariant.sent
      c.in_ok-add_masked.ensures.sent (search rules);
  stays = c.in_ok-add_masked.ensures.rest ∙ c.loop-part.invariant.stays;
}

pub returns-in_err-add_masked-clause-unsent : goal.returns-in_err-add_masked-clause-unsent
returns-in_err-add_masked-clause-unsent g c =
    let failed = on_err c.from_residual.result (part_fails _ _ _ _ _ _ _ _ _ _ c.loop-part-test.true
    c.loop-part.invariant.sent c.in_err-add_masked.ensures.unsent (search rules)) in
    search (rules, failed)

pub returns-in_err-add-clause-unsent : goal.returns-in_err-add-clause-unsent
returns-in_err-add-clause-unsent g c =
    let past : length c.args.parts.now ≤ c.loop-part.part-index = omega arith in
    let failed = on_err c.from_residual-in_err-add.result
    (end_fails _ _ _ _ _ _ _ _ _ past c.loop-part.invariant.sent c.in_err-add.ensures.unsent) in
    search (rules, failed)

pub returns-clause-sent : goal.returns-clause-sent
returns-clause-sent g c =
    let past : length c.args.parts.now ≤ c.loop-part.part-index = omega arith in
    let sent = on_ok_weaker c.flush.result (λ sent. sent_last _ _ _ _ _ _ _ _
    (end_goes _ _ _ _ _ _ _ _ _ _ past c.loop-part.invariant.sent c.in_ok-add.ensures.sent) sent)
    c.flush.ensures.sent in
    search (rules, sent)

pub returns-clause-unsent : goal.returns-clause-unsent
returns-clause-unsent g c =
    let past : length c.args.parts.now ≤ c.loop-part.part-index = omega arith in
    let unsent = on_err_weaker _ (λ failed. rest_fails _ _ _ _ _ _ _ _
    (end_goes _ _ _ _ _ _ _ _ _ _ past c.loop-part.invariant.sent c.in_ok-add.ensures.sent) failed)
    c.flush.ensures.unsent in
    search (rules, unsent)
