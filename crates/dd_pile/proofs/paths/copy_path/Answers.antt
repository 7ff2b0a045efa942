-- The folder of the pile, three digits or more, and six.
use Rattle.std.proofs.Common.{◌∙◌, ap, append_assoc, string_bytes, sym, List, [], ℕ, ◌++◌, ◌∷◌, ◌/◌}
use Rattle.std.specs.Fmt.{styled_decimal}
use Rattle.dd_pile.specs.Paths.{digits_at_least}
use Rattle.dd_pile.proofs.PilePaths.{path_is, six_digits, three_digits}
use Rattle.dd_pile.proofs.paths.copy_path.Goals as goal

pub returns : goal.returns
returns c =
    let at = c.in_ok-path.ensures in
    let base = string_bytes c.in_ok-path.path in
    let number = c.args.number in
    path_is _ _ _ _ (record { bare = at.bare; ended = at.ended; apart = at.apart })
    (c.in_ok-write.ensures.bytes
    ∙ ap (λ spec. base ++ (styled_decimal spec (number / 1000) ++ 47 ∷ styled_decimal c.laid_out-2.result number))
    c.laid_out.ensures
    ∙ ap (λ (folder : List ℕ). base ++ (folder ++ 47 ∷ styled_decimal c.laid_out-2.result number))
    (three_digits (number / 1000))
    ∙ ap (λ spec. base ++ (digits_at_least 3 (number / 1000) ++ 47 ∷ styled_decimal spec number)) c.laid_out-2.ensures
    ∙ ap (λ (name : List ℕ). base ++ (digits_at_least 3 (number / 1000) ++ 47 ∷ name)) (six_digits number)
    ∙ ap (λ (name : List ℕ). base ++ name)
    (sym (append_assoc (digits_at_least 3 (number / 1000)) (47 ∷ []) (digits_at_least 6 number))))
