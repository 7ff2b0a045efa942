-- The one set's path is among the paths. What shows the sum leaves what the files hold.
use Rattle.std.proofs.Common.{◌≡◌, ◌∙◌, ap, sym}
use Rattle.dicomdir.proofs.FirstPaths.{of_some}
use Rattle.dicomdir.proofs.merging.run_withdraw.Goals.{then-making+then-matches, else-making}
use Rattle.dicomdir.proofs.merging.run_withdraw.Goals as goal

pub returns-in-Ok-clause-made : goal.returns-in-Ok-clause-made
returns-in-Ok-clause-made g c = λ makes done.
    let kept : g.F.Files.held c.if-making.files ≡ g.F.Files.held c.withdraw_of-done.new.files =
    elim c.if-making.branch [
      | then-making+then-matches w ↦ ap (λ files. g.F.Files.held files) w.files-is ∙ w.show_set_sum.ensures.kept
      | else-making w ↦ ap (λ files. g.F.Files.held files) w.files-is
    ] in
    rw (c.from_ref.ensures.value, sym kept) at c.in-Ok.ensures.made makes done

pub returns-in-Err-clause-refusal : goal.returns-in-Err-clause-refusal
returns-in-Err-clause-refusal g c = λ paths some. of_some paths c.in-Err.refusal some c.in-Err.ensures.refusal

pub returns-in-Ok-clause-printed : goal.returns-in-Ok-clause-printed
returns-in-Ok-clause-printed g c = rw c.from_ref.ensures.value at c.in-Ok.ensures.printed
