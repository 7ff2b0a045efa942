-- The folder waits after those of the names that were made.
use Rattle.std.proofs.Common.{refl, subst, sym}
use Rattle.dicomdir_host.specs.Folders.{IsBare}
use Rattle.dicomdir_host.proofs.host_files.HostFiles.make_out.Goals as goal

pub returns-clause-waits : goal.returns-clause-waits
returns-clause-waits g c = λ _. (
  c.make.new.self.unstored.folders.items,
  c.in_ok-folder.folder,
  subst (λ path. IsBare c.args.path.now path) (sym c.in_ok-folder.ensures.copied) c.bare.ensures,
  c.in_ok-name.ensures.named refl,
)
