use Rattle.std.proofs.Common.{◌≡◌}
use Rattle.dicomdir_host.proofs.host_files.HostFiles.make_above.Given as goal

abbrev pub invariant-loop-at : goal.invariant-loop-at
invariant-loop-at g l = l.self ≡ record l.fn.self { unstored = l.self.unstored; progress = l.self.progress }
