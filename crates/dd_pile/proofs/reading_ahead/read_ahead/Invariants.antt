-- What is known so far is so of the sources so far.
use Rattle.std.proofs.Common.{◌≡◌, length}
use Rattle.dd_files.specs.Reasons.{HasCounted, HasFailedReader}
use Rattle.dd_filing.specs.Ahead.{AreDue}
use Rattle.dd_pile.specs.ReadingAhead.{KnowsNext}
use Rattle.dd_pile.proofs.reading_ahead.read_ahead.Given as goal

abbrev pub invariant-loop-source : goal.invariant-loop-source
invariant-loop-source g l = record {
  past : l.ahead.past ≡ 0;
  count : length l.ahead.files ≡ l.source-index;
  known : KnowsNext l.sources l.ahead (g.F.Files.held l.files);
  due : AreDue (HasCounted (g.F.Files.refusals l.files)) (HasFailedReader g.F.In.Read) l.ahead;
  counts : HasCounted (g.F.Files.refusals l.fn.files) → HasCounted (g.F.Files.refusals l.files);
  kept : g.F.Files.held l.files ≡ g.F.Files.held l.fn.files;
}
