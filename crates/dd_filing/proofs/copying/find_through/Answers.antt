-- What passed the tee, its reader gave and its writer took.
use Rattle.dd_filing.proofs.Copied.{fewer_calls, found_copied}
use Rattle.dd_filing.proofs.Passing.{passed}
use Rattle.dd_filing.proofs.copying.find_through.Goals as goal

pub returns-clause-same_reader : goal.returns-clause-same_reader
returns-clause-same_reader g c =
    let h = c.ingest-answer.ensures in
    (passed g.R.Read g.W.Write c.args.tee.now c.ingest-answer.new.reader h.given h.gave c.requires).same_reader

pub returns-clause-same_writer : goal.returns-clause-same_writer
returns-clause-same_writer g c =
    let h = c.ingest-answer.ensures in
    (passed g.R.Read g.W.Write c.args.tee.now c.ingest-answer.new.reader h.given h.gave c.requires).same_writer

pub returns-clause-copied : goal.returns-clause-copied
returns-clause-copied g c =
    let h = c.ingest-answer.ensures in
    let p = passed g.R.Read g.W.Write c.args.tee.now c.ingest-answer.new.reader h.given h.gave c.requires in
    record {
      given = h.given;
      gave = p.gave;
      known = h.known;
      few = fewer_calls _ _ _ _ _ c.requires p.counted h.few;
      answered = found_copied g.W.Write c.args.limit h.given (g.R.Read.remaining c.ingest-answer.new.reader.reader.now)
          (g.R.Read.failures c.args.tee.now.reader.now) (g.R.Read.failures c.ingest-answer.new.reader.reader.now)
          c.args.tee.now.late c.ingest-answer.new.reader.late c.ingest-answer.result
          c.found_answer.result
          c.args.tee.now.writer.now c.ingest-answer.new.reader.writer.now
          c.requires h.answered c.found_answer.ensures p.sent;
    }
