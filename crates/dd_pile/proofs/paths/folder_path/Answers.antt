-- The folder of the pile, and three digits or more.
use Rattle.std.proofs.Common.{◌∙◌, ap, string_bytes, List, ℕ, ◌++◌, ◌/◌}
use Rattle.std.specs.Fmt.{styled_decimal}
use Rattle.dd_pile.proofs.PilePaths.{path_is, three_digits}
use Rattle.dd_pile.proofs.paths.folder_path.Goals as goal

pub returns : goal.returns
returns c =
    let at = c.in_ok-path.ensures in
    let base = string_bytes c.in_ok-path.path in
    path_is _ _ _ _ (record { bare = at.bare; ended = at.ended; apart = at.apart })
    (c.in_ok-write.ensures.bytes
    ∙ ap (λ spec. base ++ styled_decimal spec (c.args.number / 1000)) c.laid_out.ensures
    ∙ ap (λ (name : List ℕ). base ++ name) (three_digits (c.args.number / 1000)))
