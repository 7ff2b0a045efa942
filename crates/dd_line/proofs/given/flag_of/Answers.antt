-- Whether a flag is set is read from the text of its row.
use Rattle.std.proofs.Common.{◌∙◌}
use Rattle.clap.specs.Takes.{is_given}
use Rattle.clap.specs.Words.{found_of, one_of, rows_of}
use Rattle.clap.proofs.WalkLemmas.{one_text-rows}
use Rattle.dd_line.proofs.LineFlag.{flag_read}
use Rattle.dd_line.proofs.given.flag_of.Goals as goal

pub returns : goal.returns
returns c =
    let rows = rows_of (found_of c.args.given.now) in
    let read = one_text-rows (found_of c.args.given.now) c.args.name.now in
    flag_read (is_given c.args.name.now rows) (one_of c.args.name.now rows) c.get_flag.result
    (c.requires.flags c.args.name.now c.requires.known)
    (λ none. c.get_flag.ensures.none (read ∙ none)) (λ is. c.get_flag.ensures.value (read ∙ is))
    (λ is. c.get_flag.ensures.other (read ∙ is))
