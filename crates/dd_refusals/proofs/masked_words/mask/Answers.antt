-- Each character is copied as it is shown.
use Rattle.std.proofs.Common.{rules}
use Rattle.std.proofs.lemmas.Str.{chars_from_encodes}
use Rattle.dd_lines.specs.Text.{masked}
use Rattle.dd_refusals.proofs.Masking.{masked_has_none}
use Rattle.dd_refusals.proofs.masked_words.mask.Goals as goal

pub returns-clause-masked : goal.returns-clause-masked
unfolding masked
returns-clause-masked c = search (rules, chars_from_encodes)

pub returns-clause-clear : goal.returns-clause-clear
returns-clause-clear c = rw (returns-clause-masked c) (masked_has_none c.args.text.now (search rules))
