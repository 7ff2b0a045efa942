use Rattle.std.proofs.Common.{ℕ, List, ◌++◌, ◌∙◌, ap, arith, length}
use Rattle.std.specs.Fmt.InlineText.{inline_text}
use Rattle.dicomdir_host.proofs.ProgressLines.{cut_to_fits}
use Rattle.dicomdir_host.proofs.progress_line.with.Goals as goal

pub returns : goal.returns
returns c = λ room. c.and_str.ensures.within room
    ∙ ap (λ (text : List ℕ). inline_text c.args.line ++ text)
    (cut_to_fits (length c.args.text.now) c.args.text.now (omega arith))
