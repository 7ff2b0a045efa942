-- A line of counts has no control character, so it prints as it is.
use Rattle.std.proofs.Common.{◌≡◌, ℕ, List, [], ◌∷◌, ◌++◌, ap, codes, refl, true}
use Rattle.std.specs.List.{concat}
use Rattle.dd_lines.specs.Text.{masked}
use Rattle.dd_lines.proofs.Masking.{are_printable, masked_printable, printable-append}
use Rattle.dd_messages.specs.Counts.{count_parts, word_of}
use Rattle.dd_messages.specs.declared.counts.Ending.{Ending}
use Rattle.dd_messages.specs.declared.counts.Ending.TheVariants.{Done, Planned}

-- what goes out of these parts
abbrev pub printed : List ℕ → List (List ℕ) → List ℕ → List ℕ → List ℕ
printed word behind instances bytes =
    masked (concat (word ∷ codes " " ∷ instances ∷ codes " instances, " ∷ bytes ∷ behind)) ++ 10 ∷ []

pub printed_counts : (word : List ℕ) (behind : List (List ℕ)) (instances bytes : List ℕ)
    → are_printable word ≡ true → are_printable (concat behind) ≡ true
    → are_printable instances ≡ true → are_printable bytes ≡ true
    → printed word behind instances bytes ≡ count_parts word instances bytes behind
printed_counts word behind instances bytes first last one two =
    ap (λ (xs : List ℕ). xs ++ 10 ∷ []) (masked_printable _ (printable-append word _ first
    (printable-append (codes " ") (instances ++ (codes " instances, " ++ (bytes ++ concat behind))) refl
    (printable-append instances (codes " instances, " ++ (bytes ++ concat behind)) one
    (printable-append (codes " instances, ") (bytes ++ concat behind) refl
    (printable-append bytes (concat behind) two last))))))

pub printable_word : (ending : Ending) → are_printable (word_of ending) ≡ true
printable_word Done = refl
printable_word Planned = refl
