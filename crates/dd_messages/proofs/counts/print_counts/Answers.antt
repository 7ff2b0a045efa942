-- The line has no control character, so it prints as it is.
use Rattle.std.proofs.Common.{◌∙◌, ◌<◌, ◌^◌, [], ◌∷◌, ap, ap₂, codes, refl, rules, subst}
use Rattle.std.specs.Prelude.{OnOk}
use Rattle.dd_lines.specs.Text.{TakesText}
use Rattle.dd_lines.proofs.Masking.{printable-decimal}
use Rattle.dd_messages.proofs.CountLines.{printable_word, printed, printed_counts}
use Rattle.dd_messages.specs.Counts.{word_of}
use Rattle.dd_messages.proofs.counts.print_counts.Goals as goal

pub returns-clause-told : goal.returns-clause-told
returns-clause-told g c =
    let few : c.args.instances < 2 ^ 64 = search rules in
    let small : c.args.bytes < 2 ^ 64 = search rules in
    subst (λ text. OnOk c.print_line.result (TakesText g.O.Write c.args.out.now c.print_line.new.to text))
    (ap (λ word. printed word (codes " bytes" ∷ []) c.format-count.result.now c.format-size.result.now) c.word.ensures
    ∙ ap₂ (printed (word_of c.args.ending) (codes " bytes" ∷ [])) c.format-count.ensures.text
    c.format-size.ensures.text
    ∙ printed_counts (word_of c.args.ending) (codes " bytes" ∷ []) _ _ (printable_word c.args.ending) refl
    (printable-decimal c.args.instances few) (printable-decimal c.args.bytes small))
    c.print_line.ensures.sent
