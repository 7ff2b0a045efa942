-- What the reader in front gave is what the reader after it gave, and what was digested.
use Rattle.dd_keys.proofs.Carrying.{passed}
use Rattle.dd_keys.proofs.digesting.read_digesting.Goals as goal

pub returns-clause-same : goal.returns-clause-same
returns-clause-same g c =
    let h = c.read_file-file.ensures in
    (passed g.R.Read.has_given c.args.digesting.now c.read_file-file.new.reader h.given h.gave c.requires).same

pub returns-clause-read : goal.returns-clause-read
returns-clause-read g c =
    let h = c.read_file-file.ensures in
    let p = passed g.R.Read.has_given c.args.digesting.now c.read_file-file.new.reader h.given h.gave c.requires in
    record {
      given = h.given;
      gave = p.gave;
      known = h.known;
      few = h.few;
      answered = record { file = h.answered; digest = c.finalize_reset-digest.ensures.digest h.given p.held };
    }
