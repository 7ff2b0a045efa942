-- The parts of a path, one after the other.
use Rattle.std.proofs.Common.{◌≡◌, ◌∙◌, ℕ, List, ◌∷◌, [], ◌++◌, ap, append_assoc, codes, sym}
use Rattle.dd_lines.specs.Text.{masked}
use Rattle.dd_messages.specs.NoteLines.{left_out_words, said_line}

joined_three : (a b c rest : List ℕ) → a ++ (b ++ (c ++ rest)) ≡ (a ++ (b ++ c)) ++ rest
joined_three a b c rest = sym (append_assoc a (b ++ c) rest ∙ ap (λ (xs : List ℕ). a ++ xs) (append_assoc b c rest))

pub left_out_parts : (folder joint inside kept_folder kept_joint kept_inside uid : List ℕ)
    → said_line (codes "NOTE " ∷ folder ∷ joint ∷ inside ∷ codes ": left out for " ∷ kept_folder ∷ kept_joint ∷ kept_inside
    ∷ codes ": same SOP Instance UID " ∷ uid ∷ codes ", other bytes" ∷ [])
    ≡ left_out_words (folder ++ (joint ++ inside)) (kept_folder ++ (kept_joint ++ kept_inside)) uid
left_out_parts folder joint inside kept_folder kept_joint kept_inside uid =
    ap (λ (text : List ℕ). masked (codes "NOTE " ++ text) ++ 10 ∷ [])
    (joined_three folder joint inside _
    ∙ ap (λ (rest : List ℕ). (folder ++ (joint ++ inside)) ++ (codes ": left out for " ++ rest))
    (joined_three kept_folder kept_joint kept_inside _))
