-- What stands before the next control character goes, then `?` in its place, and at last what has none.
use Rattle.std.proofs.Common.{rules, refl, sym, ◌∙◌, ◌∷◌, []}
use Rattle.std.proofs.lemmas.Fn.{always_returns_same}
use Rattle.dd_lines.specs.Text.{masked}
use Rattle.dd_lines.proofs.Masking.{rest_shorter, masked_first, masked_none}
use Rattle.dd_lines.proofs.TextLemmas.{fails_then, on_err, on_err_weaker, on_ok_weaker, rest_fails, sent_on, sent_then}
use Rattle.dd_lines.proofs.line_buffer.LineBuffer.add_masked.Goals as goal

pub returns-in_err-add-clause-unsent : goal.returns-in_err-add-clause-unsent
returns-in_err-add-clause-unsent g c =
    let parts = masked_first _ _ _ _ _ c.loop-front.invariant.utf8 c.as_bytes.ensures.utf8 c.as_bytes.ensures.value
    (always_returns_same _ _ _ (λ a r f called. (search rules, refl))) c.in-Some.ensures.cases in
    on_err _ (fails_then _ c.loop-front.self.waiting _ (63 ∷ masked c.in-Some.after.now) _ _ _ _ _ _
    (rw parts at c.loop-front.invariant.sent) c.in_err-add.ensures.unsent)

pub returns-in_err-add-2-clause-unsent : goal.returns-in_err-add-2-clause-unsent
returns-in_err-add-2-clause-unsent g c =
    let parts = masked_first _ _ _ _ _ c.loop-front.invariant.utf8 c.as_bytes.ensures.utf8 c.as_bytes.ensures.value
    (always_returns_same _ _ _ (λ a r f called. (search rules, refl))) c.in-Some.ensures.cases in
    let front = sent_then _ _ _ _ _ _ _ _ _ _ _ (rw parts at c.loop-front.invariant.sent) c.in_ok-add.ensures.sent in
    on_err _ (fails_then _ _ (63 ∷ []) _ _ _ _ _ _ _ front c.in_err-add-2.ensures.unsent)

pub loop-front-smaller : goal.loop-front-smaller
loop-front-smaller g c =
    rest_shorter _ _ _ _ (always_returns_same _ _ _ (λ a r f called. (search rules, refl))) c.in-Some.ensures.cases

pub loop-front-preserved : goal.loop-front-preserved
loop-front-preserved g c = record {
  utf8 = search rules;
  same = c.in_ok-add-2.ensures.same ∙ c.in_ok-add.ensures.same ∙ c.loop-front.invariant.same;
  sent =
      let parts = masked_first _ _ _ _ _ c.loop-front.invariant.utf8 c.as_bytes.ensures.utf8 c.as_bytes.ensures.value
      (always_returns_same _ _ _ (λ a r f called. (search rules, refl))) c.in-Some.ensures.cases in
      let front = sent_then _ _ _ _ _ _ _ _ _ _ _ (rw parts at c.loop-front.invariant.sent) c.in_ok-add.ensures.sent in
      sent_then _ _ (63 ∷ []) _ _ _ _ _ _ _ _ front c.in_ok-add-2.ensures.sent;
  stays = search rules;
}

pub returns-clause-sent : goal.returns-clause-sent
returns-clause-sent g c =
    let none = masked_none _ c.loop-front.invariant.utf8
    (c.in_default.ensures.cases _ (always_returns_same _ _ _ (λ a r f called. (search rules, refl)))) in
    on_ok_weaker _ (λ sent. sent_on _ _ _ _ _ _ _ _ _
    (rw (none ∙ sym c.as_bytes-2.ensures.value) at c.loop-front.invariant.sent) sent) c.add-2.ensures.sent

pub returns-clause-unsent : goal.returns-clause-unsent
returns-clause-unsent g c =
    let none = masked_none _ c.loop-front.invariant.utf8
    (c.in_default.ensures.cases _ (always_returns_same _ _ _ (λ a r f called. (search rules, refl)))) in
    on_err_weaker _ (λ failed. rest_fails _ _ _ _ _ _ _ _
    (rw (none ∙ sym c.as_bytes-2.ensures.value) at c.loop-front.invariant.sent) failed) c.add-2.ensures.unsent
