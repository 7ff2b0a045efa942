-- A byte more went, or the writer failed in it.
use Rattle.std.proofs.Common.{ℕ, [], ◌∷◌, ◌∙◌, ap, arith}
use Rattle.dd_lines.specs.Telling.{shown_byte}
use Rattle.dd_lines.proofs.GoingOn.{shown_each, went_all, went_fails, went_more}
use Rattle.dd_lines.proofs.line_buffer.LineBuffer.add_shown.Goals as goal

pub returns-in_err-add-clause-written : goal.returns-in_err-add-clause-written
returns-in_err-add-clause-written g c =
    went_fails c.from_residual.result (λ (byte : ℕ). shown_byte byte ∷ []) c.args.text.now c.loop-byte.byte-index 0
    (c.shown_byte.result ∷ []) _ _ _ _ c.from_residual.ensures.0 c.loop-byte-test.true
    (ap (λ (b : ℕ). b ∷ []) c.shown_byte.ensures) (shown_each c.args.text.now) c.loop-byte.invariant.went
    c.in_err-add.ensures.unsent

pub loop-byte-preserved : goal.loop-byte-preserved
loop-byte-preserved g c = record {
  same = c.in_ok-add.ensures.same ∙ c.loop-byte.invariant.same;
  went = went_more (λ (byte : ℕ). shown_byte byte ∷ []) c.args.text.now c.loop-byte.byte-index 0
      (c.shown_byte.result ∷ []) _ _ _ c.loop-byte-test.true (ap (λ (b : ℕ). b ∷ []) c.shown_byte.ensures)
      c.loop-byte.invariant.went c.in_ok-add.ensures.sent;
  stays = c.in_ok-add.ensures.rest ∙ c.loop-byte.invariant.stays;
}

pub returns-clause-written : goal.returns-clause-written
returns-clause-written g c =
    went_all (λ (byte : ℕ). shown_byte byte ∷ []) c.args.text.now c.loop-byte.byte-index _ _ _ (omega arith)
    (shown_each c.args.text.now) c.loop-byte.invariant.went
