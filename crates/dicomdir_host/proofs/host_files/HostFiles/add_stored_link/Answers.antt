-- The folder of the new name waits.
use Rattle.std.proofs.Common.{◌≡◌, ◌∙◌, ◌∷◌, ◌++◌, List, [], String, ap, refl, subst, sym}
use Rattle.std.specs.declared.alloc.Global.{Global}
use Rattle.dicomdir_host.specs.Folders.{IsFolderOf}
use Rattle.dicomdir_host.proofs.host_files.HostFiles.add_stored_link.Goals as goal

pub returns-in-Ok-note-clause-named : goal.returns-in-Ok-note-clause-named
returns-in-Ok-note-clause-named g c = λ _.
    let folder = c.in-Ok-room.folder in
    let before : c.room.new.self.folders.items ≡ c.args.self.now.unstored.folders.items =
    c.in-Ok-room.ensures.folders ∙ ap (λ files. files.unstored.folders.items) c.plain_member.ensures.same in
    let named = rw (sym c.note-2.ensures ∙ c.in-Ok-note.is) at c.keep_name.ensures.named in (
      folder,
      subst (λ path. IsFolderOf c.args.path.now path) (sym c.in-Ok-room.ensures.copied) c.folder_of.ensures,
      named refl ∙ ap (λ (folders : List (String Global)). folders ++ folder ∷ []) before,
    )
