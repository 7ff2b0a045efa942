-- The file was started where none stood, and nothing before that changed what the files hold.
use Rattle.std.proofs.Common.{◌+◌}
use Rattle.dd_files.proofs.KeptFiles.{said_is, said_started}
use Rattle.dd_pile.specs.Paths.{IsCopyOfPile}
use Rattle.dd_pile.proofs.copies.start_copy.Goals as goal

pub returns-in_err-make_folder-clause-adds : goal.returns-in_err-make_folder-clause-adds
returns-in_err-make_folder-clause-adds g c =
    said_is (IsCopyOfPile c.args.turn.now.pile.now) _ _ c.make_folder.ensures.kept

pub returns-in_err-path-clause-adds : goal.returns-in_err-path-clause-adds
returns-in_err-path-clause-adds g c =
    said_is (IsCopyOfPile c.args.turn.now.pile.now) _ _ c.make_folder.ensures.kept

pub returns-in-Ok-clause-adds : goal.returns-in-Ok-clause-adds
returns-in-Ok-clause-adds g c =
    let is = c.in_ok-path.ensures in
    said_started (IsCopyOfPile c.args.turn.now.pile.now) c.as_str.result.now _ _ (
      c.args.turn.now.at + 1,
      rw c.as_str.ensures.value (record { bare = is.bare; ended = is.ended; apart = is.apart }),
    )
    (rw c.in_ok-make_folder.ensures.kept at c.in-Ok.ensures.free cc)
    (rw c.in_ok-make_folder.ensures.kept at c.in-Ok.ensures.started cc)

pub returns-clause-adds : goal.returns-clause-adds
returns-clause-adds g c =
    said_is (IsCopyOfPile c.args.turn.now.pile.now) _ _
    (rw c.in_ok-make_folder.ensures.kept at c.in-Err.ensures.call.kept cc)
