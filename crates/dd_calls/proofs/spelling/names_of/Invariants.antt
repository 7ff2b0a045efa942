-- The names of the spellings so far were put.
use Rattle.std.proofs.Common.{take}
use Rattle.dd_calls.specs.Texts.{AreTexts}
use Rattle.dd_calls.proofs.SpelledNames.{names_in}
use Rattle.dd_calls.proofs.spelling.names_of.Given as goal

abbrev pub invariant-loop-spelling : goal.invariant-loop-spelling
invariant-loop-spelling l = AreTexts (names_in (take l.spelling-index l.spelling-items) l.name) l.names
