-- What the reader in front gave is what the reader after it gave, and what was counted.
use Rattle.std.proofs.Common.{◌≡◌}
use Rattle.dd_filing.proofs.Measuring.{passed}
use Rattle.dd_filing.proofs.source_copies.copy_measured.Given.{Over}
use Rattle.dd_filing.proofs.source_copies.copy_measured.Goals as goal
use Rattle.dd_filing.proofs.source_copies.copy_measured.Goals.{After-copy_found}

same_reader : (g : Over) (c : After-copy_found g)
    → c.copy_found.new.reader.reader.ghost_name ≡ c.args.measured.now.reader.ghost_name
same_reader g c =
    let h = c.copy_found.ensures in
    (passed g.R.Read.has_given c.args.measured.now c.copy_found.new.reader h.given h.gave c.requires).same

pub returns-in-Ok-clause-same : goal.returns-in-Ok-clause-same
returns-in-Ok-clause-same g c = same_reader g (goal.at.returns-in-Ok-clause-same g c).After-copy_found

pub returns-in-Ok-clause-copied : goal.returns-in-Ok-clause-copied
returns-in-Ok-clause-copied g c =
    let h = c.in-Ok.ensures in
    let p = passed g.R.Read.has_given c.args.measured.now c.copy_found.new.reader h.given h.gave c.requires in
    record {
      given = h.given;
      gave = p.gave;
      known = h.known;
      few = h.few;
      answered = (p.size, h.answered);
    }

pub returns-in-Err-clause-same : goal.returns-in-Err-clause-same
returns-in-Err-clause-same g c = same_reader g (goal.at.returns-in-Err-clause-same g c).After-copy_found

pub returns-in-Err-clause-copied : goal.returns-in-Err-clause-copied
returns-in-Err-clause-copied g c =
    let h = c.in-Err.ensures in
    let p = passed g.R.Read.has_given c.args.measured.now c.copy_found.new.reader h.given h.gave c.requires in
    record {
      given = h.given;
      gave = p.gave;
      known = h.known;
      few = h.few;
      answered = h.answered;
    }
