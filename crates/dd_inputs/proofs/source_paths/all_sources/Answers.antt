-- A request without a list has the sources that its line gives.
use Rattle.std.proofs.Common.{refl}
use Rattle.dd_line.specs.declared.request.Request.TheVariants.{Index, Merge, Publish, Stage}
use Rattle.dd_inputs.proofs.HavingPaths.{finds_given}
use Rattle.dd_inputs.proofs.NamesDue.{list_refused}
use Rattle.dd_inputs.proofs.source_paths.all_sources.Goals as goal

pub returns-in-Withdraw-clause-listed : goal.returns-in-Withdraw-clause-listed
returns-in-Withdraw-clause-listed g c = rw c.in-Withdraw.is (finds_given _ _ _)

pub returns-in-Check-clause-listed : goal.returns-in-Check-clause-listed
returns-in-Check-clause-listed g c = rw c.in-Check.is (finds_given _ _ _)

pub returns-in-List-clause-listed : goal.returns-in-List-clause-listed
returns-in-List-clause-listed g c = rw c.in-List.is (finds_given _ _ _)

pub returns-in-Stage-clause-listed : goal.returns-in-Stage-clause-listed
returns-in-Stage-clause-listed g c =
    rw c.in-Stage.is (rw (c.from_of.ensures, c.in-Stage.is, c.refuse_old.ensures.kept) at c.listed_in.ensures.listed)

pub returns-in-Publish-clause-listed : goal.returns-in-Publish-clause-listed
returns-in-Publish-clause-listed g c =
    rw c.in-Publish.is (rw (c.from_of-in-Publish.ensures, c.in-Publish.is, c.refuse_old.ensures.kept) at
    c.listed_in-in-Publish.ensures.listed)

pub returns-in-Index-clause-due : goal.returns-in-Index-clause-due
returns-in-Index-clause-due g c = rw c.in-Index.is
    (list_refused g.F.In.Read _ (g.F.Files.is_taken c.args.files.now) (Index c.in-Index.index) _ _
    c.listed_sources.result c.refuse_old.ensures.kept
    (c.listed_sources.ensures.due (Index c.in-Index.index) refl refl))

pub returns-in-Merge-clause-due : goal.returns-in-Merge-clause-due
returns-in-Merge-clause-due g c = rw c.in-Merge.is
    (list_refused g.F.In.Read _ (g.F.Files.is_taken c.args.files.now) (Merge c.in-Merge.merge) _ _
    c.listed_sources-in-Merge.result c.refuse_old.ensures.kept
    (c.listed_sources-in-Merge.ensures.due (Merge c.in-Merge.merge) refl refl))

pub returns-in-Stage-clause-due : goal.returns-in-Stage-clause-due
returns-in-Stage-clause-due g c = rw c.in-Stage.is
    (list_refused g.F.In.Read _ (g.F.Files.is_taken c.args.files.now) (Stage c.in-Stage.stage) _ _
    c.listed_in.result c.refuse_old.ensures.kept
    ((rw (c.from_of.ensures, c.in-Stage.is) at c.listed_in.ensures.due) (Stage c.in-Stage.stage) refl refl))

pub returns-in-Publish-clause-due : goal.returns-in-Publish-clause-due
returns-in-Publish-clause-due g c = rw c.in-Publish.is
    (list_refused g.F.In.Read _ (g.F.Files.is_taken c.args.files.now) (Publish c.in-Publish.publish) _ _
    c.listed_in-in-Publish.result c.refuse_old.ensures.kept
    ((rw (c.from_of-in-Publish.ensures, c.in-Publish.is) at c.listed_in-in-Publish.ensures.due) (Publish c.in-Publish.publish) refl refl))
