-- The words before this one are copied as they are shown.
use Rattle.std.proofs.Common.{◌≡◌, false, map, string_bytes, take}
use Rattle.std.specs.List.{list_any}
use Rattle.dd_lines.specs.Text.{masked}
use Rattle.dd_refusals.specs.MaskedWords.{has_control}
use Rattle.dd_refusals.proofs.masked_words.mask_words.Given as goal

abbrev pub invariant-loop-word : goal.invariant-loop-word
invariant-loop-word l =
    (map (λ word. string_bytes word) l.shown.items
    ≡ map (λ word. masked (string_bytes word)) (take l.word-index l.words))
    × (list_any (λ word. has_control (string_bytes word)) l.shown.items ≡ false)
