-- The record of the file is the one with that number.
use Rattle.std.proofs.Common.{arith}
use Rattle.dd_calls.proofs.Judged.{judged_there}
use Rattle.dd_calls.proofs.checking.judge_row.Goals as goal

pub returns : goal.returns
returns c =
    judged_there c.args.records.now c.args.file.now.row c.args.comparison c.args.file.now.given c.args.given.now
    c.judge.result c.index-records-file.result _ (omega (arith, c.if-file-records.false)) c.index-records-file.is
    c.judge.ensures
