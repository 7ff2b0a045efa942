-- How many bytes elements and records take.
use Rattle.std.specs.Prelude.{ℕ, ◌+◌, List, length}
use Rattle.dd_encoding.specs.Elements.{Element, elements_of}
use Rattle.dd_encoding.specs.Spelling.{elements_text}

-- elements in a row
abbrev pub elements_size : List Element → ℕ
elements_size entries = length (elements_text (elements_of entries))

-- a record of these elements: its Item tag and its length before them
abbrev pub record_size : List Element → ℕ
record_size entries = 8 + elements_size entries
