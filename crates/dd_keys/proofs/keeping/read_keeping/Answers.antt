-- What the reader in front gave is what the reader after it gave, and what the slot took.
use Rattle.dd_keys.proofs.CarryingKept.{passed_kept}
use Rattle.dd_keys.proofs.keeping.read_keeping.Goals as goal

pub returns-clause-same_reader : goal.returns-clause-same_reader
returns-clause-same_reader g c =
    let h = c.read_file.ensures in
    (passed_kept g.R.Read.has_given c.args.keeping.now c.read_file.new.reader h.given h.gave c.requires).same_reader

pub returns-clause-same_slot : goal.returns-clause-same_slot
returns-clause-same_slot g c =
    let h = c.read_file.ensures in
    (passed_kept g.R.Read.has_given c.args.keeping.now c.read_file.new.reader h.given h.gave c.requires).same_slot

pub returns-clause-read : goal.returns-clause-read
returns-clause-read g c =
    let h = c.read_file.ensures in
    let p = passed_kept g.R.Read.has_given c.args.keeping.now c.read_file.new.reader h.given h.gave c.requires in
    record {
      given = h.given;
      gave = p.gave;
      known = h.known;
      few = h.few;
      answered = record { file = h.answered; kept = p.kept };
    }
