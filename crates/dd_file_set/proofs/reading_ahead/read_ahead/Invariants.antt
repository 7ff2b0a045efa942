-- What is known of the files so far is so of the picks so far.
use Rattle.std.proofs.Common.{◌≡◌, length}
use Rattle.dd_files.specs.Reasons.{HasCounted, HasFailedReader}
use Rattle.dd_filing.specs.Ahead.{AreDue}
use Rattle.dd_file_set.specs.ReadingAhead.{KnowsNext}
use Rattle.dd_file_set.proofs.reading_ahead.read_ahead.Given as goal

abbrev pub invariant-loop-pick : goal.invariant-loop-pick
invariant-loop-pick g l = record {
  past : l.ahead.past ≡ 0;
  count : length l.ahead.files ≡ l.pick-index;
  known : KnowsNext (g.O.Origins.stands_at l.origins) l.picks l.ahead (g.F.Files.held l.files);
  kept : g.F.Files.held l.files ≡ g.F.Files.held l.fn.files;
  due : AreDue (HasCounted (g.F.Files.refusals l.files)) (HasFailedReader g.F.In.Read) l.ahead;
  counts : HasCounted (g.F.Files.refusals l.fn.files) → HasCounted (g.F.Files.refusals l.files);
}
