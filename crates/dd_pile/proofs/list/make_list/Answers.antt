-- All of the text went to a new file, which then ended.
use Rattle.dd_files.proofs.KeptFiles.{held_published, said_ended, said_grown, said_is, said_then}
use Rattle.dd_pile.proofs.Fronts.{list_front}
use Rattle.dd_pile.specs.Paths.{IsListPath}
use Rattle.dd_pile.proofs.Reasons.{list_due}
use Rattle.dd_pile.proofs.list.make_list.Goals as goal

pub returns-in-Ok-finish-clause-written : goal.returns-in-Ok-finish-clause-written
returns-in-Ok-finish-clause-written g c = λ done.
    let went = (c.in-Ok-write_stage.ensures.sends c.requires).ok.1 in
    held_published c.args.path.now _ _ _ _ _ (c.in-Ok.ensures.started cc)
    (g.met.F.Files.written_grows _ _ _ went.stays went.holds) (c.in-Ok-finish.ensures.ended cc)

pub returns-in-Ok-finish-clause-adds : goal.returns-in-Ok-finish-clause-adds
returns-in-Ok-finish-clause-adds g c = λ pile place.
    let went = (c.in-Ok-write_stage.ensures.sends c.requires).ok.1 in
    said_then (IsListPath pile) _ _ _
    (said_grown (IsListPath pile) c.args.path.now _ _ _ _ place (c.in-Ok.ensures.free cc) (c.in-Ok.ensures.started cc)
    (g.met.F.Files.written_grows _ _ _ went.stays went.holds))
    (said_ended (IsListPath pile) _ _ (c.in-Ok-finish.ensures.ended cc))

pub returns-in-Err-finish-clause-adds : goal.returns-in-Err-finish-clause-adds
returns-in-Err-finish-clause-adds g c = λ pile place.
    let went = (c.in-Ok-write_stage.ensures.sends c.requires).ok.1 in
    said_then (IsListPath pile) _ _ _
    (said_grown (IsListPath pile) c.args.path.now _ _ _ _ place (c.in-Ok.ensures.free cc) (c.in-Ok.ensures.started cc)
    (g.met.F.Files.written_grows _ _ _ went.stays went.holds))
    (said_is (IsListPath pile) _ _ (c.in-Err-finish.ensures.call.kept cc))

pub returns-in-Err-write_stage-clause-adds : goal.returns-in-Err-write_stage-clause-adds
returns-in-Err-write_stage-clause-adds g c = λ pile place.
    let front = list_front g.F.Write _ _ c.in-Err-write_stage.field-0 _
    (c.in-Err-write_stage.ensures.sends c.requires).err in
    said_grown (IsListPath pile) c.args.path.now front.bytes _ _ _ place (c.in-Ok.ensures.free cc)
    (c.in-Ok.ensures.started cc) (g.met.F.Files.written_grows _ _ front.bytes front.stays front.holds)

pub returns-in-Err-clause-adds : goal.returns-in-Err-clause-adds
returns-in-Err-clause-adds g c = λ pile place. said_is (IsListPath pile) _ _ (c.in-Err.ensures.call.kept cc)

pub returns-in-Err-write_stage-clause-due : goal.returns-in-Err-write_stage-clause-due
returns-in-Err-write_stage-clause-due g c =
    list_due g.F.In.Read g.F.Write _ _ _ c.in-Err-write_stage.field-0 _
    (c.in-Err-write_stage.ensures.sends c.requires).err
