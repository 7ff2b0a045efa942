-- All that the reader gave went to a new file, which then ended.
use Rattle.std.proofs.Common.{◌≡◌, ◌≢◌, arith, subst}
use Rattle.dd_files.proofs.KeptFiles.{held_published, said_grown, said_then}
use Rattle.dd_filing.specs.Filing.{IsFileAs}
use Rattle.dd_filing.specs.declared.agreeing.Filed.{Filed}
use Rattle.dd_filing.specs.declared.agreeing.Filed.TheVariants.{AsPlanned}
use Rattle.dd_filing.specs.declared.copying.FilingFault.TheVariants as copy
use Rattle.dd_file_set.proofs.ChangedFiles.{changed_by, long_file, other_file, refused_by, too_long}
use Rattle.dd_file_set.proofs.DueFaults.{due_copy, still_counted, streamed_due}
use Rattle.dd_file_set.proofs.Fronts.{copy_front}
use Rattle.dd_file_set.proofs.KnownAhead.{one_given}
use Rattle.dd_file_set.proofs.ImagePlaces.{image_path}
use Rattle.dd_file_set.specs.Made.{IsImagePath}
use Rattle.dd_file_set.proofs.copies.copy_streamed.Goals as goal

pub returns-in-Ok-clause-made : goal.returns-in-Ok-clause-made
returns-in-Ok-clause-made g c = λ done.
    let start = c.in_ok-start_copy.ensures.started cc in
    let h = c.in-Ok.ensures in
    let went = h.answered.1.1 in
    let opened = c.in_ok-reader.ensures.opened in
    record {
      path = start.path;
      bytes = h.given;
      ranks = start.ranks;
      place = start.place;
      free = rw c.in_ok-reader.ensures.kept at start.free;
      of = one_given (g.O.Origins.stands_at c.args.image.now.origins.now c.args.image.now.pick) opened.from
          (g.F.Files.held c.args.files.now) _ _ h.given opened.picked opened.unread.left h.known h.answered.1.0.1;
      is = subst (λ (filed : Filed). IsFileAs c.args.image.now.planned.now
          (g.O.Origins.said c.args.image.now.origins.now c.args.image.now.pick) filed h.given)
          (c.end_copy.ensures.planned done)
          (rw (c.wanted.ensures.planned, c.wanted.ensures.said) at h.answered.0);
      made = held_published start.path h.given _ _ _ _ (rw c.in_ok-reader.ensures.kept at start.started)
          (g.met.F.Files.written_grows _ _ h.given went.stays went.holds) (c.end_copy.ensures.ended done);
    }

pub returns-clause-refusal : goal.returns-clause-refusal
returns-clause-refusal g c =
    c.refusal_of.ensures.work (g.O.Origins.paths c.args.image.now.origins.now) (c.subject.ensures.among c.requires)

pub returns-in-Ok-clause-adds : goal.returns-in-Ok-clause-adds
returns-in-Ok-clause-adds g c =
    let start = c.in_ok-start_copy.ensures.started cc in
    let h = c.in-Ok.ensures in
    let went = h.answered.1.1 in
    let MayBe = IsImagePath c.args.image.now.folder.now in
    said_then MayBe _ _ _
    (said_grown MayBe start.path h.given _ _ _ (image_path start) (rw c.in_ok-reader.ensures.kept at start.free)
    (rw c.in_ok-reader.ensures.kept at start.started)
    (g.met.F.Files.written_grows _ _ h.given went.stays went.holds)) c.end_copy.ensures.adds

pub returns-clause-adds : goal.returns-clause-adds
returns-clause-adds g c =
    let start = c.in_ok-start_copy.ensures.started cc in
    let h = c.in-Err.ensures in
    let front = copy_front g.F.Write _ _ c.in-Err.fault _ h.given _ _ _ h.answered in
    said_grown (IsImagePath c.args.image.now.folder.now) start.path front.bytes _ _ _ (image_path start)
    (rw c.in_ok-reader.ensures.kept at start.free) (rw c.in_ok-reader.ensures.kept at start.started)
    (g.met.F.Files.written_grows _ _ front.bytes front.stays front.holds)

pub returns-in-Ok-clause-counts : goal.returns-in-Ok-clause-counts
returns-in-Ok-clause-counts g c = λ done counted.
    let went = c.in-Ok.ensures.answered.1.1 in
    c.end_copy.ensures.counts done (still_counted _ _ (g.met.F.Files.same_refusals _ _ went.stays)
    (c.in_ok-start_copy.ensures.counts (cc) (c.in_ok-reader.ensures.counts counted)))

pub returns-clause-due : goal.returns-clause-due
returns-clause-due g c =
    let is = c.refusal_of.ensures in
    let h = c.in-Err.ensures in
    due_copy g.F.In.Read _ _ c.in-Err.fault _ _ c.refusal_of.result
    (streamed_due g.F.In.Read g.F.Write _ _ c.in-Err.fault _ h.given _ _ c.file_image.new.reader h.answered)
    is.memory is.unread is.changed is.unsent

pub returns-in-Ok-clause-changed : goal.returns-in-Ok-clause-changed
returns-in-Ok-clause-changed g c =
    let image = c.args.image.now in
    let origins = image.origins.now in
    let held = g.F.Files.held c.args.files.now in
    let h = c.in-Ok.ensures in
    let opened = c.in_ok-reader.ensures.opened in
    refused_by c.end_copy.result (c.in-Ok.filed ≢ AsPlanned) _
    (other_file (g.O.Origins.stands_at origins image.pick) (g.O.Origins.may_link origins image.pick)
    (g.O.Origins.said origins image.pick)
    (g.O.Origins.gives_links origins) image.planned.now held h.given c.in-Ok.filed
    (one_given (g.O.Origins.stands_at origins image.pick) opened.from held _ _ h.given opened.picked opened.unread.left
    h.known h.answered.1.0.1)
    (λ is. c.one_filed.ensures image.planned.now (g.O.Origins.said origins image.pick) h.given c.in-Ok.filed AsPlanned
    (rw (c.wanted.ensures.planned, c.wanted.ensures.said) at h.answered.0) is))
    c.end_copy.ensures.changed

pub returns-clause-changed : goal.returns-clause-changed
returns-clause-changed g c =
    let image = c.args.image.now in
    let origins = image.origins.now in
    let h = c.in-Err.ensures in
    let opened = c.in_ok-reader.ensures.opened in
    changed_by (c.in-Err.fault ≡ copy.Changed) _ c.refusal_of.result.fault
    (λ is. long_file (g.O.Origins.stands_at origins image.pick) (g.O.Origins.may_link origins image.pick)
    (g.O.Origins.said origins image.pick)
    (g.O.Origins.gives_links origins) image.planned.now opened.from (g.F.Files.held c.args.files.now) _ _ h.given
    opened.picked opened.unread.left h.known
    (omega (arith, too_long g.F.Write _ _ c.in-Err.fault _ h.given _ _ _ is h.answered)))
    c.refusal_of.ensures.why
