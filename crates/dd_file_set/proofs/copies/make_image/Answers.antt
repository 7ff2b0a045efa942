-- The image was copied, where its file was given no hard link, which changed nothing.
use Rattle.std.proofs.Common.{inl}
use Rattle.dd_files.proofs.KeptFiles.{said_then}
use Rattle.dd_file_set.specs.Made.{IsImagePath}
use Rattle.dd_file_set.proofs.copies.make_image.Goals as goal

pub returns-clause-made : goal.returns-clause-made
returns-clause-made g c = λ done.
    inl (rw (c.in_ok-link_image.ensures.kept c.if-branch.false) at c.copy_image.ensures.made done)

pub returns-clause-adds : goal.returns-clause-adds
returns-clause-adds g c =
    said_then (IsImagePath c.args.image.now.folder.now) _ _ _ c.link_image.ensures.adds c.copy_image.ensures.adds

pub returns-clause-changed : goal.returns-clause-changed
returns-clause-changed g c = rw (c.in_ok-link_image.ensures.kept c.if-branch.false) at c.copy_image.ensures.changed
