-- The byte goes by its letter, by its digits, or as it is.
use Rattle.std.proofs.Common.{arith}
use Rattle.dd_json.proofs.Escapes.{digits_tell, letter_tells, plain_tells}
use Rattle.dd_json.proofs.parts.add_byte.Goals as goal

pub returns-then-letter-gt0-clause-written : goal.returns-then-letter-gt0-clause-written
returns-then-letter-gt0-clause-written g c =
    letter_tells c.add_bytes.result c.args.byte c.escape_letter-letter.result _ _ c.escape_letter-letter.ensures
    (omega (arith, c.if-letter-gt0.true)) c.add_bytes.ensures.written

pub returns-then-byte-lt32-clause-written : goal.returns-then-byte-lt32-clause-written
returns-then-byte-lt32-clause-written g c =
    digits_tell c.add_bytes-then-byte-lt32.result c.args.byte c.escape_letter-letter.result c.digit.result
    c.digit-then-byte-lt32.result _ _ c.escape_letter-letter.ensures (omega (arith, c.if-letter-gt0.false))
    (omega (arith, c.if-byte-lt32.true)) c.digit.ensures c.digit-then-byte-lt32.ensures
    c.add_bytes-then-byte-lt32.ensures.written

pub returns-else-byte-lt32-clause-written : goal.returns-else-byte-lt32-clause-written
returns-else-byte-lt32-clause-written g c =
    plain_tells c.add_bytes-else-byte-lt32.result c.args.byte c.escape_letter-letter.result _ _
    c.escape_letter-letter.ensures (omega (arith, c.if-letter-gt0.false)) (omega (arith, c.if-byte-lt32.false))
    c.add_bytes-else-byte-lt32.ensures.written
