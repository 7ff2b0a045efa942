-- One of the two calls opened the directory.
use Rattle.std.proofs.Common.{◌∙◌, inr, sym}
use Rattle.std.specs.Prelude.{codes, string_bytes}
use Rattle.dd_files.specs.Paths.{IsPathIn}
use Rattle.dd_inputs.proofs.OpenedDirectories.{stands_opened}
use Rattle.dd_inputs.proofs.taken.refuse_taken.Goals.{then-is_ok-via-else-is_ok+then-is_ok-2}
use Rattle.dd_inputs.proofs.taken.refuse_taken.Goals.{then-is_ok-via-then-is_ok}
use Rattle.dd_inputs.proofs.taken.refuse_taken.Goals as goal

pub returns-then-is_ok-clause-due : goal.returns-then-is_ok-clause-due
returns-then-is_ok-clause-due g c =
    let is = c.in_ok-path.ensures in
    let place : IsPathIn c.args.folder.now (codes "DICOMDIR") (string_bytes c.in_ok-path.path) =
    record { bare = is.bare; ended = is.ended; apart = is.apart } in
    inr (
      cc,
      elim c.then-is_ok.branch [
        | then-is_ok-via-then-is_ok w ↦ stands_opened g.F.In.Read c.source.result _ c.args.folder.now
            c.as_str.result.now (rw c.as_str.ensures.value place) (sym c.is_ok.ensures.value ∙ w.if-is_ok.true)
            c.source.ensures.opened
        | then-is_ok-via-else-is_ok+then-is_ok-2 w ↦ stands_opened g.F.In.Read w.member.result _ c.args.folder.now
            w.as_str-else-is_ok.result.now (rw w.as_str-else-is_ok.ensures.value place)
            (sym w.is_ok-else-is_ok.ensures.value ∙ w.if-is_ok-2.true)
            (rw c.source.ensures.kept at w.member.ensures.opened)
      ],
    )
