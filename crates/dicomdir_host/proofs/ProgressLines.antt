-- A line that is put together from several texts.
use Rattle.std.proofs.Common.{◌≡◌, ◌≤◌, ◌<◌, ◌+◌, ℕ, List, ◌++◌, ◌∙◌, length, length-append, refl, ap, arith, le-leb}
use Rattle.std.specs.Fmt.Cut.{cut_to}

-- a text that fits the room is not cut
pub cut_to_fits : (room : ℕ) (text : List ℕ) → length text ≤ room → cut_to room text ≡ text
unfolding cut_to
cut_to_fits room text fits = rw (le-leb (length text) room fits) refl

-- the text is `is`, and has at most `most` bytes
pub record IsShort (text is : List ℕ) (most : ℕ) : Type 0 where
  pub same : text ≡ is
  pub short : length text ≤ most

-- one more text is added to a line that has room for 128 bytes
pub adds : (old new text before more : List ℕ) (m n : ℕ) → IsShort old before m → IsShort text more n → m + n < 128
    → (length old + length text < 128 → new ≡ old ++ text) → IsShort new (before ++ more) (m + n)
adds old new text before more m n was has room add =
    let is = add (omega (arith, was.short, has.short)) in
    record {
      same = is ∙ ap (λ (t : List ℕ). t ++ text) was.same ∙ ap (λ (t : List ℕ). before ++ t) has.same;
      short = omega (arith, ap length is, length-append old text, was.short, has.short);
    }
