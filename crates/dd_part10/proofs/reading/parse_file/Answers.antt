use Rattle.std.proofs.Common.{arith, subst}
use Rattle.dd_grammar.specs.AnswersAs.{AnswersAs}
use Rattle.dd_part10.specs.Faults.{is_memory}
use Rattle.dd_part10.specs.Views.{file_view}
use Rattle.dd_part10.proofs.Only.{file_only}
use Rattle.dd_part10.proofs.AnswersAreFiles.{is_found}
use Rattle.dd_part10.proofs.reading.parse_file.Goals as goal

pub returns-clause-found : goal.returns-clause-found
returns-clause-found c = is_found c.args.bytes.now c.checked_file.result
    (λ i. omega (arith, c.type_inv.bytes i)) c.checked_file.ensures.room c.checked_file.ensures.exact

pub returns-clause-only : goal.returns-clause-only
returns-clause-only c = λ meta set set_at h. subst (λ f. AnswersAs is_memory file_view c.checked_file.result f)
    (file_only c.args.bytes.now meta set set_at h) c.checked_file.ensures.exact
