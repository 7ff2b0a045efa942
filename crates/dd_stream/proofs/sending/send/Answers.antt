use Rattle.std.proofs.Common.{◌≡◌, ◌∙◌, arith}
use Rattle.std.proofs.KnownBytes.{Appends-kept}
use Rattle.std.proofs.lemmas.Grind.{common_steps}
use Rattle.dd_stream.proofs.Going.{took_more, took_none, fails_at, failed_then}
use Rattle.dd_stream.proofs.sending.send.Goals as goal
use Rattle.dd_stream.proofs.sending.send.Goals.{in_default-via-in-Ok+else-n-gt0, in_default-via-in_default}

pub loop-at-preserved : goal.loop-at-preserved
loop-at-preserved g c = record {
  within = grind (arith, common_steps);
  holds = took_more _ _ _ c.args.bytes.now c.loop-at.at c.in-Ok.n c.loop-at.invariant.holds c.in-Ok.ensures.appends;
  stays = c.in-Ok.ensures.rest ∙ c.loop-at.invariant.stays;
  worked = (c.in-Ok.ensures.worked (λ none. absurd (omega arith))).0 ∙ c.loop-at.invariant.worked;
  called = omega (arith, c.in-Ok.ensures.called, c.loop-at.invariant.called);
}

pub returns-in_default : goal.returns-in_default
returns-in_default g c =
    elim c.in_default.branch [
      | in_default-via-in-Ok+else-n-gt0 w ↦
          let none : w.in-Ok.n ≡ 0 = omega arith in
          fails_at c.args.bytes.now c.args.sent c.loop-at.at _ _ _ _ c.loop-at-test.true
          (took_none _ _ _ c.args.bytes.now c.loop-at.at w.in-Ok.n none c.loop-at.invariant.holds
          w.in-Ok.ensures.appends)
          (w.in-Ok.ensures.rest ∙ c.loop-at.invariant.stays)
          (failed_then _ _ _ c.loop-at.invariant.worked (w.in-Ok.ensures.failed (none, grind (arith, common_steps))))
          (omega (arith, w.in-Ok.ensures.called, c.loop-at.invariant.called))
      | in_default-via-in_default w ↦
          fails_at c.args.bytes.now c.args.sent c.loop-at.at _ _ _ _ c.loop-at-test.true
          (Appends-kept _ _ _ _ c.loop-at.invariant.holds w.in_default.ensures.appends)
          (w.in_default.ensures.rest ∙ c.loop-at.invariant.stays)
          (failed_then _ _ _ c.loop-at.invariant.worked (w.in_default.ensures.failed tt))
          (omega (arith, w.in_default.ensures.called, c.loop-at.invariant.called))
    ]
