-- Words that are taken name a command.
use Rattle.std.proofs.Common.{inl, subst, sym}
use Rattle.dd_line.specs.Line.{words_of}
use Rattle.dd_line.specs.Requests.{NamesCommand}
use Rattle.dd_line.proofs.LineNames.{names_command}
use Rattle.dd_line.proofs.LineRequests.{passed_on}
use Rattle.dd_line.proofs.from_words.read_request.Goals as goal

pub returns-in_err-found-clause-passes : goal.returns-in_err-found-clause-passes
returns-in_err-found-clause-passes c = passed_on c.from_residual.result c.in_err-found.field-0.0 _
    c.from_residual.ensures.1 (λ taken. inl (c.in_err-found.ensures.passes taken))

pub request_of-requires : goal.request_of-requires
request_of-requires c = subst NamesCommand (sym c.in_ok-found.ensures.found)
    (names_command (words_of c.args.words.now) c.in_ok-found.ensures.kinds)
