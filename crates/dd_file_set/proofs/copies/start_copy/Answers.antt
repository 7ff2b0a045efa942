-- The file was started where none stood, and nothing before that changed what the files hold.
use Rattle.std.proofs.Common.{◌∙◌}
use Rattle.dd_files.proofs.KeptFiles.{said_is, said_started}
use Rattle.dd_file_set.specs.Made.{IsImagePath}
use Rattle.dd_file_set.proofs.copies.start_copy.Goals as goal

pub returns-in-Ok-clause-started : goal.returns-in-Ok-clause-started
returns-in-Ok-clause-started g c = λ done. record {
  path = c.as_str.result.now;
  ranks = c.text.ensures.ranked;
  place = rw (c.as_str.ensures.value, ← c.text.ensures.exact) c.in_ok-path.ensures;
  free = rw c.in_ok-make_folder.ensures.kept at c.in-Ok.ensures.free cc;
  started = rw c.in_ok-make_folder.ensures.kept at c.in-Ok.ensures.started cc;
}

pub returns-in-Ok-clause-adds : goal.returns-in-Ok-clause-adds
returns-in-Ok-clause-adds g c =
    said_started (IsImagePath c.args.folder.now) c.as_str.result.now _ _
    (record {
      file = c.args.file;
      ranks = c.text.ensures.ranked;
      place = rw (c.as_str.ensures.value, ← c.text.ensures.exact) c.in_ok-path.ensures;
    })
    (rw c.in_ok-make_folder.ensures.kept at c.in-Ok.ensures.free cc)
    (rw c.in_ok-make_folder.ensures.kept at c.in-Ok.ensures.started cc)

pub returns-in_err-make_folder-clause-adds : goal.returns-in_err-make_folder-clause-adds
returns-in_err-make_folder-clause-adds g c = said_is (IsImagePath c.args.folder.now) _ _ c.make_folder.ensures.kept

pub returns-in_err-path-clause-adds : goal.returns-in_err-path-clause-adds
returns-in_err-path-clause-adds g c = said_is (IsImagePath c.args.folder.now) _ _ c.make_folder.ensures.kept

pub returns-clause-adds : goal.returns-clause-adds
returns-clause-adds g c =
    let same = c.create.ensures.call.kept (cc) in
    said_is (IsImagePath c.args.folder.now) _ _ (same ∙ c.make_folder.ensures.kept)
