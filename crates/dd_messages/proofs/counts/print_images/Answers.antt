-- The line has no control character, so it prints as it is.
use Rattle.std.proofs.Common.{◌∙◌, ◌<◌, ◌^◌, ℕ, List, [], ◌∷◌, ◌++◌, ap, ap₂, codes, refl, rules, subst}
use Rattle.std.specs.Fmt.{decimal}
use Rattle.std.specs.Prelude.{OnOk}
use Rattle.dd_lines.specs.Text.{TakesText}
use Rattle.dd_lines.proofs.Masking.{printable-append, printable-decimal}
use Rattle.dd_messages.proofs.CountLines.{printed, printed_counts}
use Rattle.dd_messages.proofs.counts.print_images.Goals as goal

-- what stands after the size
abbrev behind : List ℕ → List (List ℕ)
behind images = codes " bytes, " ∷ images ∷ codes " bytes of images" ∷ []

pub returns-clause-told : goal.returns-clause-told
returns-clause-told g c =
    let few : c.args.instances < 2 ^ 64 = search rules in
    let small : c.args.bytes < 2 ^ 64 = search rules in
    let fits : c.args.images < 2 ^ 64 = search rules in
    subst (λ text. OnOk c.print_line.result (TakesText g.O.Write c.args.out.now c.print_line.new.to text))
    (ap (λ images. printed (codes "PLAN") (behind images) c.format-count.result.now c.format-size.result.now)
    c.format-all.ensures.text
    ∙ ap₂ (printed (codes "PLAN") (behind (decimal c.args.images))) c.format-count.ensures.text
    c.format-size.ensures.text
    ∙ printed_counts (codes "PLAN") (behind (decimal c.args.images)) _ _ refl
    (printable-append (codes " bytes, ") (decimal c.args.images ++ codes " bytes of images") refl
    (printable-append (decimal c.args.images) (codes " bytes of images") (printable-decimal c.args.images fits) refl))
    (printable-decimal c.args.instances few) (printable-decimal c.args.bytes small))
    c.print_line.ensures.sent
