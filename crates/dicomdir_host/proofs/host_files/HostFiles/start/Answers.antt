-- One name more waits.
use Rattle.std.proofs.Common.{◌≡◌, ◌∙◌, ◌∷◌, ◌++◌, List, [], String, None, ap, refl, subst, sym}
use Rattle.std.specs.declared.alloc.Global.{Global}
use Rattle.dicomdir_host.specs.Folders.{IsFolderOf}
use Rattle.dicomdir_host.proofs.host_files.HostFiles.start.Goals as goal
use Rattle.dicomdir_host.proofs.host_files.HostFiles.start.Goals.{then-is_directory+in_ok-store, else-is_directory}

pub returns-clause-image : goal.returns-clause-image
returns-clause-image g c = λ _ other.
    let folder = c.in_ok-folder.folder in
    let before : c.if-is_directory.self.unstored.folders.items ≡ c.args.self.now.unstored.folders.items =
    elim c.if-is_directory.branch [
      | then-is_directory+in_ok-store w ↦ absurd (other (c.is_directory.ensures.0 w.if-is_directory.true))
      | else-is_directory w ↦ ap (λ files. files.unstored.folders.items) w.self-is
    ] in
    let opened : c.open_new.new.self.unstored.folders.items ≡ c.args.self.now.unstored.folders.items =
    ap (λ folders. folders.items) c.in_ok-device.ensures.folders ∙ c.in_ok-folder.ensures.folders ∙ before in (
      folder,
      subst (λ path. IsFolderOf c.args.path.now path) (sym c.in_ok-folder.ensures.copied) c.folder_of.ensures,
      c.in_ok-name-2.ensures.named refl ∙ ap (λ (folders : List (String Global)). folders ++ folder ∷ []) opened,
    )

pub returns-clause-directory : goal.returns-clause-directory
returns-clause-directory g c = λ _ is.
    let folder = c.in_ok-folder.folder in
    let yes = c.is_directory.ensures.1 is in
    let files : c.if-is_directory.self.unstored.files.items ≡ [] = elim c.if-is_directory.branch [
      | then-is_directory+in_ok-store w ↦
          ap (λ files. files.unstored.files.items) w.self-is ∙ (w.in_ok-store.ensures.stored refl).no_file
      | else-is_directory w ↦ let no = w.if-is_directory.false in cc
    ] in
    let folders : c.if-is_directory.self.unstored.folders.items ≡ [] = elim c.if-is_directory.branch [
      | then-is_directory+in_ok-store w ↦
          ap (λ files. files.unstored.folders.items) w.self-is ∙ (w.in_ok-store.ensures.stored refl).no_folder
      | else-is_directory w ↦ let no = w.if-is_directory.false in cc
    ] in
    let lost : c.if-is_directory.self.unstored.lost ≡ None = elim c.if-is_directory.branch [
      | then-is_directory+in_ok-store w ↦
          ap (λ files. files.unstored.lost) w.self-is ∙ (w.in_ok-store.ensures.stored refl).no_loss
      | else-is_directory w ↦ let no = w.if-is_directory.false in cc
    ] in
    let same = c.in_ok-device.ensures.none (c.in_ok-folder.ensures.files ∙ files) in
    let opened : c.open_new.new.self.unstored.folders.items ≡ [] =
    ap (λ folders. folders.items) c.in_ok-device.ensures.folders ∙ c.in_ok-folder.ensures.folders ∙ folders in
    let after = c.in_ok-name-2.ensures.same in (
      ap (λ unstored. unstored.files.items) after ∙ ap (λ unstored. unstored.files.items) same
          ∙ c.in_ok-folder.ensures.files ∙ files,
      ap (λ unstored. unstored.lost) after ∙ ap (λ unstored. unstored.lost) same ∙ c.in_ok-folder.ensures.lost ∙ lost,
      (
        folder,
        subst (λ path. IsFolderOf c.args.path.now path) (sym c.in_ok-folder.ensures.copied) c.folder_of.ensures,
        c.in_ok-name-2.ensures.named refl ∙ ap (λ (folders : List (String Global)). folders ++ folder ∷ []) opened,
      ),
    )
