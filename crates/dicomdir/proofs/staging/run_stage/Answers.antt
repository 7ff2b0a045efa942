-- A refusal that names a source is of one of these, and a pile without a list has no room for it. The status is 3 only
-- where the run keeps going and a source was not read.
use Rattle.std.proofs.Common.{Err, ap}
use Rattle.std.specs.Prelude.{length, string_bytes}
use Rattle.dd_line.specs.Line.{words_of}
use Rattle.dicomdir.proofs.GroundedPiles.{stage_grounds}
use Rattle.dicomdir.proofs.StagedSources.{all_read, stage_status, stages_said, told_one}
use Rattle.dd_inputs.specs.From.{from_text}
use Rattle.dicomdir.proofs.staging.run_stage.Goals as goal

pub returns-in-Ok-clause-failed : goal.returns-in-Ok-clause-failed
returns-in-Ok-clause-failed g c = λ one.
    c.tell_staged.ensures.failed (told_one c.tell_staged.result c.in-Ok.sum (rw c.status_past.ensures at one))

pub returns-in-Ok-clause-status : goal.returns-in-Ok-clause-status
returns-in-Ok-clause-status g c = λ none.
    let stage = c.args.stage.now in
    rw c.status_past.ensures (stage_status stage.keep_going c.tell_staged.result c.in-Ok.sum c.tell_staged.ensures.status
    (all_read stage.keep_going (from_text stage.from) (string_bytes stage.pile) (words_of c.args.sources.names.now)
    c.args.sources.bad_names.now c.in-Ok.sum _ _ none c.in-Ok.ensures.made))

pub returns-in-Ok-clause-staged : goal.returns-in-Ok-clause-staged
returns-in-Ok-clause-staged g c = λ names have none.
    let stage = c.args.stage.now in
    rw c.status_past.ensures (stages_said g.O.Write _ stage.keep_going (from_text stage.from) (string_bytes stage.pile)
    names c.tell_staged.result c.in-Ok.sum _ _ _ _ c.tell_staged.ensures.status (c.in-Ok.ensures.made names have none)
    (rw c.style_for.ensures at c.tell_staged.ensures.done))

pub returns-in-Err-clause-refusal : goal.returns-in-Err-clause-refusal
returns-in-Err-clause-refusal g c = c.refusal_of.ensures.work (length c.args.sources.names.now) c.in-Err.ensures.refusal

pub returns-in-Err-clause-grounds : goal.returns-in-Err-clause-grounds
returns-in-Err-clause-grounds g c = λ names have.
    let stage = c.args.stage.now in
    rw c.refusal_of.ensures.fault (stage_grounds (from_text stage.from) (string_bytes stage.pile) names
    (g.F.Files.held c.args.files.now) _ c.in-Err.refusal (λ is. c.in-Err.ensures.large names have (ap Err is)))
