-- One line more is printed.
use Rattle.std.proofs.Common.{◌≡◌, ◌∙◌, ◌<◌, [], ℕ, List, ap, arith, get_or, length, rules, string_bytes, subst, sym}
use Rattle.std.proofs.lemmas.List.{get_or-map}
use Rattle.dd_line.specs.Line.{words_of}
use Rattle.dicomdir.proofs.SaidLines.{said_more}
use Rattle.dd_messages.specs.NoteLines.{skip_line}
use Rattle.dicomdir.specs.Said.{IsSkip}
use Rattle.dicomdir.proofs.note_lines.tell_skipped.Goals as goal

pub loop-at-preserved : goal.loop-at-preserved
loop-at-preserved g c =
    let sources = c.args.sources.now in
    let style = c.args.style in
    let skip = c.loop-at-item.result in
    let words = c.as_str-in-loop-at.result.now in
    let told = c.in_ok-tell_skip.ensures.told in
    let line = skip_line style c.as_str.result.now words told.0 in
    let within : skip.0 < length sources = search rules in
    let path : c.as_str.result.now ≡ get_or (words_of sources) skip.0 [] =
    c.as_str.ensures.value ∙ ap (λ word. string_bytes word) c.index-sources-at.is
    ∙ sym (get_or-map (λ word. string_bytes word) sources skip.0 c.index-sources-at.result [] within) in
    let is : IsSkip style (words_of sources) skip line = record {
      words = words;
      fault = told.0;
      is = ap (λ (path : List ℕ). skip_line style path words told.0) path;
    } in
    said_more g.O.Write (IsSkip style (words_of sources)) c.args.skipped.now c.loop-at.at-index skip line c.args.out.now
    c.loop-at.out c.tell_skip.new.out (omega (arith, c.loop-at-test.true)) c.loop-at.invariant
    (subst (λ skip. IsSkip style (words_of sources) skip line) c.loop-at-item.is is) told.1
