-- The file was started where none stood, and what was written went to it.
use Rattle.std.proofs.Common.{◌≡◌, ℕ, List, refl}
use Rattle.dd_files.proofs.KeptFiles.{said_grown, said_then}
use Rattle.dd_file_set.proofs.MadeInOrder.{part_grown, part_none, part_same}
use Rattle.dd_file_set.proofs.file_set.make_directory.Goals as goal

pub returns-in_err-start_directory-clause-part : goal.returns-in_err-start_directory-clause-part
returns-in_err-start_directory-clause-part g c =
    part_none c.args.path.now _ _ _ (c.in_err-start_directory.ensures.kept cc)

pub returns-in_err-send_directory-clause-adds : goal.returns-in_err-send_directory-clause-adds
returns-in_err-send_directory-clause-adds g c =
    let sent = c.send_directory.ensures.grows in
    said_grown (λ other. c.args.path.now ≡ other) c.args.path.now sent.0 _ _ _ refl
    (c.in_ok-start_directory.ensures.free cc) (c.in_ok-start_directory.ensures.made cc) sent.2

pub returns-in_err-send_directory-clause-part : goal.returns-in_err-send_directory-clause-part
returns-in_err-send_directory-clause-part g c =
    let sent = c.send_directory.ensures.grows in
    part_grown c.args.path.now _ sent.0 sent.1.0 _ _ _ sent.1.1 (c.in_ok-start_directory.ensures.made cc) sent.2

pub returns-clause-adds : goal.returns-clause-adds
returns-clause-adds g c =
    let sent = c.send_directory.ensures.grows in
    let MayBe : List ℕ → Type 0 = λ other. c.args.path.now ≡ other in
    said_then MayBe _ _ _
    (said_grown MayBe c.args.path.now sent.0 _ _ _ refl (c.in_ok-start_directory.ensures.free cc)
    (c.in_ok-start_directory.ensures.made cc) sent.2) (c.finish_directory.ensures.adds c.args.path.now)

pub returns-clause-part : goal.returns-clause-part
returns-clause-part g c =
    let sent = c.send_directory.ensures.grows in
    part_same c.args.path.now _ _ _ _
    (part_grown c.args.path.now _ sent.0 sent.1.0 _ _ _ sent.1.1 (c.in_ok-start_directory.ensures.made cc) sent.2)
    c.finish_directory.ensures.same
