-- The image of a record more is made after those before it.
use Rattle.std.proofs.Common.{◌≡◌, Err, List, arith, rules, subst}
use Rattle.dd_files.proofs.KeptFiles.{said_then}
use Rattle.std.specs.Prelude.{zip}
use Rattle.dd_records.specs.declared.record.PlanRecord.{PlanRecord}
use Rattle.dd_file_set.proofs.ChangedFiles.{changed_by, unfit_pick}
use Rattle.dd_file_set.proofs.ImagesMade.{named, so_far_more}
use Rattle.dd_file_set.specs.Changed.{HasUnfitFirst, HasUnfitPick}
use Rattle.dd_file_set.specs.Made.{IsImagePath}
use Rattle.dd_file_set.proofs.copies.copy_images.Goals as goal

pub loop-record-preserved : goal.loop-record-preserved
loop-record-preserved g c =
    let within = c.loop-record-test.true in
    record {
      has = c.in_ok-copy_record.ensures.has cc;
      made = so_far_more
          (g.O.Origins.stands_at c.args.set.now.origins.now) (g.O.Origins.may_link c.args.set.now.origins.now)
          (g.O.Origins.said c.args.set.now.origins.now)
          c.args.set.now.folder.now c.args.set.now.plan.now.versions c.records-record-items.result.now
          c.args.set.now.picks.now
          c.loop-record.record-index c.record-item.result c.loop-record.left.picks.now
          c.copy_record.new.left.picks.now _ _ _
          (omega (arith, within)) (rw (← c.record-item.is) (c.in_ok-copy_record.ensures.copied cc))
          c.loop-record.invariant.made;
      known = c.in_ok-copy_record.ensures.known cc;
      ahead = c.in_ok-copy_record.ensures.ahead cc;
      adds = said_then (IsImagePath c.args.set.now.folder.now) _ _ _ c.loop-record.invariant.adds
          c.copy_record.ensures.adds;
    }

pub returns-in_err-copy_record-clause-adds : goal.returns-in_err-copy_record-clause-adds
returns-in_err-copy_record-clause-adds g c =
    said_then (IsImagePath c.args.set.now.folder.now) _ _ _ c.loop-record.invariant.adds c.copy_record.ensures.adds

pub returns-in_err-copy_record-clause-changed : goal.returns-in_err-copy_record-clause-changed
returns-in_err-copy_record-clause-changed g c =
    let set = c.args.set.now in
    let origins = set.origins.now in
    let rows = c.records-record-items.result.now in
    let left = c.loop-record.left.picks.now in
    let refusal = c.in_err-copy_record.field-0.0 in
    let is : c.from_residual.result ≡ Err refusal = search (
      rules,
      c.from_residual.ensures,
      c.branch-copy_record.ensures,
      c.in_err-copy_record.is,
      c.in_err-copy_record.was,
    ) in
    rw is (changed_by
    (HasUnfitFirst (g.O.Origins.stands_at origins) (g.O.Origins.may_link origins) (g.O.Origins.said origins)
    (g.O.Origins.gives_links origins)
    set.plan.now.versions c.record-item.result left (g.F.Files.held c.loop-record.files)) _ refusal.fault
    (λ has. subst (λ (all : List PlanRecord). HasUnfitPick (g.O.Origins.stands_at origins)
    (g.O.Origins.may_link origins) (g.O.Origins.said origins) (g.O.Origins.gives_links origins) set.plan.now.versions
    (zip (named all) set.picks.now) (g.F.Files.held c.copy_record.new.files)) c.records-record-items.ensures.all
    (unfit_pick (g.O.Origins.stands_at origins) (g.O.Origins.may_link origins) (g.O.Origins.said origins)
    (g.O.Origins.gives_links origins)
    set.plan.now.versions rows set.picks.now left c.loop-record.record-index c.record-item.result
    (IsImagePath set.folder.now) _ _ (omega (arith, c.loop-record-test.true)) c.loop-record.invariant.made.rest
    c.copy_record.ensures.adds (rw (← c.record-item.is) has)))
    c.in_err-copy_record.ensures.changed)
