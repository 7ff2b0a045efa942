-- The numbers are those of the plan.
use Rattle.std.proofs.Common.{◌∙◌, ℕ, List, ap, ap₂, length, subst}
use Rattle.dd_lines.specs.Text.{TakesText}
use Rattle.dd_messages.specs.Counts.{images_words}
use Rattle.dicomdir.proofs.SaidLines.{on_ok_gives}
use Rattle.dicomdir.proofs.making.tell_plan_of_images.Goals as goal

pub returns-in-Text-clause-done : goal.returns-in-Text-clause-done
returns-in-Text-clause-done g c = λ zero.
    rw c.in-Text.is (subst (λ (text : List ℕ). TakesText g.O.Write c.args.out.now c.print_images.new.out text)
    (ap₂ (λ (instances bytes : ℕ). images_words instances bytes c.args.images)
    (ap (λ versions. length versions) c.versions.ensures.all) (c.from-bytes.ensures ∙ c.size.ensures))
    (on_ok_gives c.print_images.result (c.status_of.ensures.zero zero) c.print_images.ensures.told))
