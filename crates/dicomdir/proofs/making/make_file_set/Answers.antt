-- The file-set was not made.
use Rattle.std.proofs.lemmas.Result.{err_from_is_err_and}
use Rattle.dicomdir.proofs.MadeGrounds.{made_grounds}
use Rattle.dicomdir.specs.Grounds.{HasUnfitImage}
use Rattle.dicomdir.proofs.making.make_file_set.Goals as goal

pub returns-in_err-write_file_set-clause-grounds : goal.returns-in_err-write_file_set-clause-grounds
returns-in_err-write_file_set-clause-grounds g c =
    let p = err_from_is_err_and c.from_residual.result c.from_residual.ensures.1 in
    let set = c.args.set.now in
    let files = c.write_file_set.new.files in
    rw (p.1, p.2) (made_grounds g.F.In.Read (g.F.Files.refusals files) (g.F.Write.failures files)
    (HasUnfitImage (g.O.Origins.stands_at set.origins.now) (g.O.Origins.may_link set.origins.now)
    (g.O.Origins.said set.origins.now)
    (g.O.Origins.gives_links set.origins.now) set.plan.now set.picks.now (g.F.Files.held files))
    c.in_err-write_file_set.field-0.0.fault
    c.in_err-write_file_set.ensures.due c.in_err-write_file_set.ensures.changed)
