-- The list is the one that the bytes of its file spell.
use Rattle.dd_pile.proofs.FilesRead.{list_is}
use Rattle.dd_pile.proofs.list.read_pile.Goals as goal

pub returns-in-Ok-clause-found : goal.returns-in-Ok-clause-found
returns-in-Ok-clause-found g c =
    list_is c.args.pile.now _ _ (g.F.Files.held c.args.files.now) c.in_ok-text.ensures.found
    (rw c.deref.ensures.value at c.in-Ok.ensures.found)
