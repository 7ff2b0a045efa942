-- The evidence for the files before is still evidence, and there is some for one more.
use Rattle.dd_files.proofs.Reasons.{has_counted}
use Rattle.dd_files.specs.Reasons.{HasCounted, HasFailedReader}
use Rattle.dd_filing.specs.declared.places.Ahead.TheVariants as known
use Rattle.dd_pile.proofs.Reasons.{due_more, read_due, same_counted}
use Rattle.dd_pile.proofs.reading_ahead.read_next.Goals as goal

pub returns-in-Ok-clause-due : goal.returns-in-Ok-clause-due
returns-in-Ok-clause-due g c =
    due_more (g.F.Files.refusals c.args.files.now) (g.F.Files.refusals c.source.new.self) (HasFailedReader g.F.In.Read)
    c.args.ahead.now c.skip-in-Ok.new.self known.Unknown
    (λ counted. same_counted _ _ (c.in-Ok.ensures.call.worked (cc)).0 counted)
    (c.skip-in-Ok.ensures.room c.requires.room) c.requires.due tt

pub returns-in-Ok-2-clause-due : goal.returns-in-Ok-2-clause-due
returns-in-Ok-2-clause-due g c =
    let answered = (c.read.ensures.room c.requires.room).answered in
    due_more (g.F.Files.refusals c.args.files.now) (g.F.Files.refusals c.source.new.self) (HasFailedReader g.F.In.Read)
    c.args.ahead.now c.read.new.self answered.0
    (λ counted. same_counted _ _ (c.in-Ok.ensures.call.worked (cc)).0 counted)
    answered.1.0 c.requires.due
    (read_due g.F.In.Read (HasCounted (g.F.Files.refusals c.source.new.self)) answered.0 _ _ _ _ _ answered.1.1)

pub returns-in-Err-clause-due : goal.returns-in-Err-clause-due
returns-in-Err-clause-due g c =
    let refused = has_counted _ _ (c.in-Err.ensures.call.refused (cc)) in
    due_more (g.F.Files.refusals c.args.files.now) (g.F.Files.refusals c.source.new.self) (HasFailedReader g.F.In.Read)
    c.args.ahead.now c.refuse.new.self known.Absent (λ _. refused) (c.refuse.ensures.room c.requires.room)
    c.requires.due refused
