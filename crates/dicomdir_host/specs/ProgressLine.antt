-- The line of progress.
use Rattle.std.specs.Prelude.{ℕ, List, ◌++◌, codes, decimal}

-- What a terminal gets to show how many of all are done, and what time is left. CR goes back to the start of the line,
-- and EL erases what the line before left after the new one (ECMA-48).
abbrev pub progress_line : List ℕ → ℕ → ℕ → List ℕ → List ℕ
progress_line doing done all left =
    codes "\r" ++ doing ++ codes " " ++ decimal done ++ codes " of " ++ decimal all ++ left ++ codes "\u{1b}[K"
