-- All bytes that were read ahead went to a new file, which then ended.
use Rattle.std.proofs.Common.{◌≡◌, ◌≢◌, subst}
use Rattle.std.specs.Prelude.{option_map}
use Rattle.dd_files.proofs.KeptFiles.{held_published, said_grown, said_then}
use Rattle.dd_filing.specs.Filing.{IsFileAs}
use Rattle.dd_filing.specs.declared.agreeing.Filed.{Filed}
use Rattle.dd_filing.specs.declared.agreeing.Filed.TheVariants.{AsPlanned}
use Rattle.dd_filing.specs.declared.copying.FilingFault.TheVariants as copy
use Rattle.dd_file_set.proofs.ChangedFiles.{changed_by, never_ahead, other_file, refused_by}
use Rattle.dd_file_set.proofs.DueFaults.{ahead_due, due_copy}
use Rattle.dd_file_set.proofs.Fronts.{ahead_front}
use Rattle.dd_file_set.proofs.ImagePlaces.{image_path}
use Rattle.dd_file_set.specs.Made.{IsImagePath}
use Rattle.dd_file_set.proofs.copies.copy_ahead.Goals as goal

pub returns-in-Ok-clause-made : goal.returns-in-Ok-clause-made
returns-in-Ok-clause-made g c = λ done.
    let start = c.in_ok-start_copy.ensures.started cc in
    let sent = c.in-Ok.ensures in
    let bytes = c.args.ahead.now.bytes in
    record {
      path = start.path;
      bytes = bytes;
      ranks = start.ranks;
      place = start.place;
      free = start.free;
      of = c.requires.known sent.0;
      is = subst (λ (filed : Filed). IsFileAs c.args.image.now.planned.now
          (g.O.Origins.said c.args.image.now.origins.now c.args.image.now.pick) filed bytes)
          (c.end_copy.ensures.planned done)
          (rw (c.wanted.ensures.planned, c.wanted.ensures.said) at sent.1.0);
      made = held_published start.path bytes _ _ _ _ start.started
          (g.met.F.Files.written_grows _ _ bytes sent.1.1.stays sent.1.1.holds) (c.end_copy.ensures.ended done);
    }

pub returns-in-Err-clause-refusal : goal.returns-in-Err-clause-refusal
returns-in-Err-clause-refusal g c =
    c.refusal_of.ensures.work (g.O.Origins.paths c.args.image.now.origins.now) (c.subject.ensures.among c.requires.has)

pub returns-in-Ok-clause-adds : goal.returns-in-Ok-clause-adds
returns-in-Ok-clause-adds g c =
    let start = c.in_ok-start_copy.ensures.started cc in
    let went = c.in-Ok.ensures.1.1 in
    let bytes = c.args.ahead.now.bytes in
    let MayBe = IsImagePath c.args.image.now.folder.now in
    said_then MayBe _ _ _
    (said_grown MayBe start.path bytes _ _ _ (image_path start) start.free start.started
    (g.met.F.Files.written_grows _ _ bytes went.stays went.holds)) c.end_copy.ensures.adds

pub returns-in-Err-clause-adds : goal.returns-in-Err-clause-adds
returns-in-Err-clause-adds g c =
    let start = c.in_ok-start_copy.ensures.started cc in
    let front = ahead_front g.F.Write _ _ c.wanted.result.planned.now
    (option_map (λ said. said.now) c.wanted.result.said) c.in-Err.fault c.args.ahead.now c.in-Err.ensures
    in
    said_grown (IsImagePath c.args.image.now.folder.now) start.path front.bytes _ _ _ (image_path start) start.free
    start.started (g.met.F.Files.written_grows _ _ front.bytes front.stays front.holds)

pub returns-in-Err-clause-due : goal.returns-in-Err-clause-due
returns-in-Err-clause-due g c =
    let is = c.refusal_of.ensures in
    due_copy g.F.In.Read _ _ c.in-Err.fault _ _ c.refusal_of.result
    (ahead_due g.F.In.Read g.F.Write _ _ c.wanted.result.planned.now
    (option_map (λ said. said.now) c.wanted.result.said) c.in-Err.fault c.args.ahead.now c.in-Err.ensures
    c.requires.due) is.memory is.unread is.changed is.unsent

pub returns-in-Ok-clause-changed : goal.returns-in-Ok-clause-changed
returns-in-Ok-clause-changed g c =
    let image = c.args.image.now in
    let origins = image.origins.now in
    let bytes = c.args.ahead.now.bytes in
    let sent = c.in-Ok.ensures in
    refused_by c.end_copy.result (c.in-Ok.filed ≢ AsPlanned) _
    (other_file (g.O.Origins.stands_at origins image.pick) (g.O.Origins.may_link origins image.pick)
    (g.O.Origins.said origins image.pick)
    (g.O.Origins.gives_links origins) image.planned.now (g.F.Files.held c.args.files.now) bytes c.in-Ok.filed
    (c.requires.known sent.0) (λ is. c.one_filed.ensures image.planned.now
    (g.O.Origins.said origins image.pick) bytes c.in-Ok.filed AsPlanned
    (rw (c.wanted.ensures.planned, c.wanted.ensures.said) at sent.1.0) is))
    c.end_copy.ensures.changed

pub returns-in-Err-clause-changed : goal.returns-in-Err-clause-changed
returns-in-Err-clause-changed g c =
    changed_by (c.in-Err.fault ≡ copy.Changed) _ c.refusal_of.result.fault
    (λ is. absurd (never_ahead g.F.Write _ _ c.wanted.result.planned.now
    (option_map (λ said. said.now) c.wanted.result.said) c.in-Err.fault c.args.ahead.now is
    c.in-Err.ensures)) c.refusal_of.ensures.why
