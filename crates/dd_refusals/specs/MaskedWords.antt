-- Words of a command line that have control characters.
use Rattle.std.specs.Prelude.{ℕ, Bool, List, chars}
use Rattle.std.specs.Char.{is_control}
use Rattle.std.specs.List.{list_any}

-- a character of the text is a control character
abbrev pub has_control : List ℕ → Bool
has_control text = list_any is_control (chars text)
