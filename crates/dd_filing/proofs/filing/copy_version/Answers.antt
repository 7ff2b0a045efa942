-- What was found of the copy, as a version.
use Rattle.dd_filing.proofs.CopiedVersions.{refused_copy, version_copied}
use Rattle.dd_filing.proofs.filing.copy_version.Goals as goal

pub returns-in-Ok : goal.returns-in-Ok
returns-in-Ok g c =
    let h = c.in-Ok.ensures in
    record {
      given = h.given;
      gave = h.gave;
      known = h.known;
      few = h.few;
      answered = rw c.version_found.ensures
          (version_copied g.W.Write c.args.limit h.given (g.R.Read.remaining c.copy_found.new.reader)
          (g.R.Read.failures c.args.reader.now) (g.R.Read.failures c.copy_found.new.reader) c.in-Ok.found
          c.args.writer.now c.copy_found.new.writer h.answered);
    }

pub returns-in-Err : goal.returns-in-Err
returns-in-Err g c =
    let h = c.in-Err.ensures in
    record {
      given = h.given;
      gave = h.gave;
      known = h.known;
      few = h.few;
      answered = refused_copy g.W.Write c.args.limit h.given (g.R.Read.remaining c.copy_found.new.reader)
          (g.R.Read.failures c.args.reader.now) (g.R.Read.failures c.copy_found.new.reader) c.in-Err.fault
          c.args.writer.now c.copy_found.new.writer h.answered;
    }
