-- A character more went, or the writer failed in it.
use Rattle.std.proofs.Common.{◌∙◌, arith, ap}
use Rattle.std.specs.Char.{encode_utf8}
use Rattle.json.specs.Print.{escape}
use Rattle.dd_lines.proofs.GoingOn.{went_all, went_fails, went_more}
use Rattle.dd_dicom_json.proofs.PartTexts.{escaped_char, escaped_each}
use Rattle.dd_dicom_json.proofs.escapes.add_latin1.Goals as goal

pub returns-in_err-add_escaped-clause-written : goal.returns-in_err-add_escaped-clause-written
returns-in_err-add_escaped-clause-written g c =
    went_fails c.from_residual.result escaped_char c.args.characters.now c.loop-character.character-index _ _ _ _ _ _
    c.from_residual.ensures.0 c.loop-character-test.true (ap escape (c.as_bytes.ensures.value ∙ c.encode_utf8-utf8.ensures.value ∙ ap encode_utf8 c.from.ensures)) (escaped_each c.args.characters.now)
    c.loop-character.invariant.went c.in_err-add_escaped.ensures.written

pub loop-character-preserved : goal.loop-character-preserved
loop-character-preserved g c = record {
  same = c.in_ok-add_escaped.ensures.same ∙ c.loop-character.invariant.same;
  went = went_more escaped_char c.args.characters.now c.loop-character.character-index _ _ _ _ _
      c.loop-character-test.true (ap escape (c.as_bytes.ensures.value ∙ c.encode_utf8-utf8.ensures.value ∙ ap encode_utf8 c.from.ensures))
      c.loop-character.invariant.went c.in_ok-add_escaped.ensures.written;
}

pub returns-clause-written : goal.returns-clause-written
returns-clause-written g c =
    went_all escaped_char c.args.characters.now c.loop-character.character-index _ _ _ (omega arith)
    (escaped_each c.args.characters.now) c.loop-character.invariant.went
