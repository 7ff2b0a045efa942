-- The images of the records so far are made, where there is a pick, and nothing else was added.
use Rattle.std.specs.Prelude.{◌<◌, All}
use Rattle.dd_files.specs.Keeping.{Adds, IfSaid}
use Rattle.dd_files.specs.Reasons.{HasCounted, HasFailedReader}
use Rattle.dd_filing.specs.Ahead.{AreDue}
use Rattle.dd_file_set.proofs.ImagesMade.{SoFar}
use Rattle.dd_file_set.specs.Made.{IsImagePath}
use Rattle.dd_file_set.specs.ReadingAhead.{KnowsNext}
use Rattle.dd_file_set.proofs.copies.copy_images.Given as goal

abbrev pub invariant-loop-record : goal.invariant-loop-record
invariant-loop-record g l = record {
  has : All (λ pick. g.O.Origins.number pick < g.O.Origins.count l.set.origins.now) l.left.picks.now;
  made : SoFar (g.O.Origins.stands_at l.set.origins.now) (g.O.Origins.may_link l.set.origins.now)
      (g.O.Origins.said l.set.origins.now)
      l.set.folder.now l.set.plan.now.versions l.record-items l.set.picks.now l.record-index l.left.picks.now
      (g.F.Files.held l.initial.files) (g.F.Files.held l.files);
  known : KnowsNext (g.O.Origins.stands_at l.set.origins.now) l.left.picks.now l.left.ahead (g.F.Files.held l.files);
  ahead : AreDue (HasCounted (g.F.Files.refusals l.files)) (HasFailedReader g.F.In.Read) l.left.ahead;
  adds : IfSaid (Adds (IsImagePath l.set.folder.now)) (g.F.Files.held l.fn.files) (g.F.Files.held l.files);
}
