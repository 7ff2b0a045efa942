-- What the files hold stays.
use Rattle.std.proofs.Common.{◌≡◌}
use Rattle.dicomdir.proofs.dates.keep_dates.Given as goal

abbrev pub invariant-loop-record : goal.invariant-loop-record
invariant-loop-record g l = g.F.Files.held l.files ≡ g.F.Files.held l.initial.files
