use Rattle.std.proofs.Common.{◌≡◌, [], IsSome}
use Rattle.dicomdir_host.proofs.storing.Unstored.store_folders.Given as goal

abbrev pub invariant-loop-folder : goal.invariant-loop-folder
invariant-loop-folder g l = record {
  none : l.self.folders.items ≡ [];
  stays : IsSome l.fn.self.lost → l.self.lost ≡ l.fn.self.lost;
  files : l.self.files ≡ l.fn.self.files;
}
