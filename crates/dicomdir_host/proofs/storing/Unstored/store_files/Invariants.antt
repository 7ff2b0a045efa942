use Rattle.std.proofs.Common.{◌≡◌, [], IsSome}
use Rattle.dicomdir_host.proofs.storing.Unstored.store_files.Given as goal

abbrev pub invariant-loop-ended : goal.invariant-loop-ended
invariant-loop-ended g l = record {
  closed : l.self.files.items ≡ [];
  stays : IsSome l.fn.self.lost → l.self.lost ≡ l.fn.self.lost;
  folders : l.self.folders ≡ l.fn.self.folders;
}
