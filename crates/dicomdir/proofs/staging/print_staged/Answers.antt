-- The numbers are those of the sum.
use Rattle.std.proofs.Common.{◌∙◌, ℕ, List, [], ◌∷◌, ap, ap₂, codes, subst}
use Rattle.std.specs.Fmt.{decimal}
use Rattle.std.specs.Prelude.{OnOk}
use Rattle.dd_lines.specs.Text.{TakesText}
use Rattle.dd_messages.specs.NoteLines.{said_line}
use Rattle.dicomdir.proofs.staging.print_staged.Goals as goal

-- the line of these numbers
abbrev line : List ℕ → List ℕ → List ℕ → List ℕ
line sources skipped bytes = said_line (codes "DONE " ∷ sources ∷ codes " sources, " ∷ skipped ∷ codes " skipped, "
    ∷ bytes ∷ codes " bytes of images" ∷ [])

pub returns-clause-told : goal.returns-clause-told
returns-clause-told g c =
    let sum = c.args.sum.now in
    subst (λ (text : List ℕ). OnOk c.print_line.result (TakesText g.O.Write c.args.out.now c.print_line.new.to text))
    (ap₂ (λ (sources skipped : List ℕ). line sources skipped c.format-bytes.result.now) c.format-sources.ensures.text
    c.format-skipped.ensures.text
    ∙ ap (line (decimal sum.sources) (decimal sum.skipped)) c.format-bytes.ensures.text)
    c.print_line.ensures.sent
