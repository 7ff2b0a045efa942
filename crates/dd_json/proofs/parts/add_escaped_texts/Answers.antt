-- A text more went, or the writer failed in it.
use Rattle.std.proofs.Common.{◌∙◌, arith, refl}
use Rattle.dd_json.proofs.EscapedTexts.{text_escape, texts_each}
use Rattle.dd_lines.proofs.GoingOn.{went_all, went_fails, went_more}
use Rattle.dd_json.proofs.parts.add_escaped_texts.Goals as goal

pub returns-in_err-add_escaped_text-clause-written : goal.returns-in_err-add_escaped_text-clause-written
returns-in_err-add_escaped_text-clause-written g c =
    went_fails c.from_residual.result text_escape c.args.texts.now c.loop-text.text-index _ _ _ _ _ _
    c.from_residual.ensures.0 c.loop-text-test.true refl (texts_each c.args.texts.now) c.loop-text.invariant.went
    c.in_err-add_escaped_text.ensures.written

pub loop-text-preserved : goal.loop-text-preserved
loop-text-preserved g c = record {
  same = c.in_ok-add_escaped_text.ensures.same ∙ c.loop-text.invariant.same;
  went = went_more text_escape c.args.texts.now c.loop-text.text-index _ _ _ _ _ c.loop-text-test.true refl
      c.loop-text.invariant.went c.in_ok-add_escaped_text.ensures.written;
  stays = c.in_ok-add_escaped_text.ensures.rest ∙ c.loop-text.invariant.stays;
}

pub returns-clause-written : goal.returns-clause-written
returns-clause-written g c =
    went_all text_escape c.args.texts.now c.loop-text.text-index _ _ _ (omega arith) (texts_each c.args.texts.now)
    c.loop-text.invariant.went
