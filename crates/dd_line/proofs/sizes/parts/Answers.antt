-- No letter of a unit was found.
use Rattle.std.proofs.Common.{arith, None}
use Rattle.std.proofs.lemmas.Str.Pattern.{strip_suffix_char}
use Rattle.dd_line.proofs.SizeCuts.{no_letter}
use Rattle.dd_line.proofs.sizes.parts.Goals as goal

pub returns-in-None : goal.returns-in-None
returns-in-None c = no_letter c.args.text.now
    (strip_suffix_char 75 c.args.text.now None c.in_default.ensures.cases (omega arith))
    (strip_suffix_char 107 c.args.text.now None c.in_default-strip_suffix.ensures.cases (omega arith))
    (strip_suffix_char 77 c.args.text.now None c.in_default-strip_suffix-2.ensures.cases (omega arith))
    (strip_suffix_char 71 c.args.text.now None c.in-None.ensures.cases (omega arith))
