-- The folder of the new name waits.
use Rattle.std.proofs.Common.{◌≡◌, ◌∙◌, ◌∷◌, ◌++◌, List, [], String, ap, refl, sym}
use Rattle.std.specs.declared.alloc.Global.{Global}
use Rattle.dicomdir_host.proofs.host_files.HostFiles.add_link.Goals as goal

pub returns-in-Ok-note-clause-named : goal.returns-in-Ok-note-clause-named
returns-in-Ok-note-clause-named g c = λ _.
    let folder = c.in-Ok-room_for.folder in
    let before : c.room_for.new.self.unstored.folders.items ≡ c.args.self.now.unstored.folders.items =
    c.in-Ok-room_for.ensures.folders ∙ ap (λ files. files.unstored.folders.items) c.plain_member.ensures.same in
    let named = rw (sym c.note-2.ensures ∙ c.in-Ok-note.is) at c.keep_linked.ensures.named in (
      folder,
      c.in-Ok-room_for.ensures.folder,
      named refl ∙ ap (λ (folders : List (String Global)). folders ++ folder ∷ []) before,
    )
