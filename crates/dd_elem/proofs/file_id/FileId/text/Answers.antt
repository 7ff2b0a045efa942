use Rattle.std.proofs.Common.{arith, ap, ◌∙◌}
use Rattle.dd_elem.specs.FileId.{text_of}
use Rattle.dd_elem.proofs.SixDigits.{is_written, length-same_rank, text_written}
use Rattle.dd_elem.proofs.file_id.FileId.text.Goals as goal

pub write_digits-requires : goal.write_digits-requires
write_digits-requires c = let short = length-same_rank c.from.result _ c.from.ensures c.self.invariant.patient in
    (omega arith, omega arith)

pub write_digits-requires-2 : goal.write_digits-requires-2
write_digits-requires-2 c = let short = length-same_rank c.from-2.result _ c.from-2.ensures c.self.invariant.study in
    (omega arith, omega arith)

pub write_digits-requires-3 : goal.write_digits-requires-3
write_digits-requires-3 c = let short = length-same_rank c.from-3.result _ c.from-3.ensures c.self.invariant.series in
    (omega arith, omega arith)

pub write_digits-requires-4 : goal.write_digits-requires-4
write_digits-requires-4 c = let short = length-same_rank c.from-4.result _ c.from-4.ensures c.self.invariant.image in
    (omega arith, omega arith)

pub returns-clause-exact : goal.returns-clause-exact
returns-clause-exact c =
    text_written _ _ _ _ _ _ _ _ _ _ _ _
    (is_written _ _ _ _ _ _ c.from.ensures c.self.invariant.patient c.write_digits.ensures.start
    c.write_digits.ensures.written c.write_digits.ensures.before)
    (is_written _ _ _ _ _ _ c.from-2.ensures c.self.invariant.study c.write_digits-2.ensures.start
    c.write_digits-2.ensures.written c.write_digits-2.ensures.before)
    (is_written _ _ _ _ _ _ c.from-3.ensures c.self.invariant.series c.write_digits-3.ensures.start
    c.write_digits-3.ensures.written c.write_digits-3.ensures.before)
    (is_written _ _ _ _ _ _ c.from-4.ensures c.self.invariant.image c.write_digits-4.ensures.start
    c.write_digits-4.ensures.written c.write_digits-4.ensures.before)
    ∙ ap text_of c.self.view_is
