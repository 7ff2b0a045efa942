-- What reading the file gives says what is found of an image whose digest does not differ.
use Rattle.std.proofs.Common.{◌∙◌, Ok, Err, ap, inl}
use Rattle.dd_walk.specs.ForestViews.{tree_view}
use Rattle.dd_report.specs.Agreements.{first_wrong}
use Rattle.dd_report.specs.Batches.{judged}
use Rattle.dd_report.specs.Checking.{most_read}
use Rattle.dd_report.proofs.KeyFindings.{by_wrong, no_file_found, no_file_wants}
use Rattle.dd_report.proofs.agreements.judge_by_keys.Goals as goal

pub returns-in-Ok-clause-found : goal.returns-in-Ok-clause-found
returns-in-Ok-clause-found g c = λ above inherits.
    let node = (tree_view c.args.tree.now).node in
    let read = c.in-Ok.ensures in
    let scan = read.answered.file.1 in
    record {
      given = read.given;
      gave = read.gave;
      known = read.known;
      few = read.few;
      answered = inl (
        by_wrong c.args.check.comparison.strict node above read.given (Ok scan.file)
            (judged c.judge_whole.result c.read_kept.new.slot) c.first_wrong-wrong.result scan.read
            (c.first_wrong-wrong.ensures ∙ ap first_wrong (c.agreements.ensures above scan.file inherits scan.scans))
            (c.judge_whole.ensures.found read.given read.answered.kept),
        read.answered.file.0,
      );
    }

pub returns-in-Err-File-clause-found : goal.returns-in-Err-File-clause-found
returns-in-Err-File-clause-found g c =
    no_file_found g.R.Read most_read c.args.reader.now c.read_kept.new.reader c.read_kept.new.slot c.read_kept.result
    c.in-Err-File.fault (c.in-Err-File.is ∙ ap Err c.in-Err-File.field-0-is) c.read_kept.ensures
    c.judge_no_file.result c.args.inherited c.args.check.comparison.strict (tree_view c.args.tree.now).node
    c.judge_no_file.ensures.found

pub returns-in-Err-File-clause-memory : goal.returns-in-Err-File-clause-memory
returns-in-Err-File-clause-memory g c =
    no_file_wants g.R.Read most_read c.args.reader.now c.read_kept.new.reader c.read_kept.new.slot c.read_kept.result
    c.in-Err-File.fault (c.in-Err-File.is ∙ ap Err c.in-Err-File.field-0-is) c.read_kept.ensures
    c.judge_no_file.result (tree_view c.args.tree.now).node c.judge_no_file.ensures.memory
