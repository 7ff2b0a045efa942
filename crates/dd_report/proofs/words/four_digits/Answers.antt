-- Each digit is there, zeros before them too.
use Rattle.std.proofs.Common.{arith}
use Rattle.dd_report.proofs.HexDigits.{four_hex}
use Rattle.dd_report.proofs.words.four_digits.Goals as goal

pub returns : goal.returns
returns c =
    rw (c.digit.ensures, c.digit-2.ensures, c.digit-3.ensures, c.digit-4.ensures) (four_hex c.args.number (omega arith))
