-- The copied file is what the version is that was read of it.
use Rattle.std.specs.Prelude.{option_map}
use Rattle.dd_filing.proofs.Comparing.{no_version_filed, version_filed}
use Rattle.dd_filing.proofs.filing.file_image.Goals as goal

pub returns-in-Ok-Some : goal.returns-in-Ok-Some
returns-in-Ok-Some g c =
    let h = c.in-Ok-Some.ensures in
    record {
      given = h.given;
      gave = h.gave;
      known = h.known;
      few = h.few;
      answered = version_filed g.W.Write c.args.wanted.now.planned.now
          (option_map (λ said. said.now) c.args.wanted.now.said) c.in-Ok-Some.found c.of.result c.args.limit h.given
          (g.R.Read.remaining c.copy_version.new.reader)
          (g.R.Read.failures c.args.reader.now) (g.R.Read.failures c.copy_version.new.reader)
          c.args.writer.now c.copy_version.new.writer
          c.one_version.ensures.one c.in-Ok-Some.field-0 c.in-Ok-Some.field-0-is h.answered
          c.of.ensures;
    }

pub returns-in-Ok-None : goal.returns-in-Ok-None
returns-in-Ok-None g c =
    let h = c.in-Ok-None.ensures in
    record {
      given = h.given;
      gave = h.gave;
      known = h.known;
      few = h.few;
      answered = no_version_filed g.W.Write c.args.wanted.now.planned.now
          (option_map (λ said. said.now) c.args.wanted.now.said) c.args.limit h.given
          (g.R.Read.remaining c.copy_version.new.reader)
          (g.R.Read.failures c.args.reader.now) (g.R.Read.failures c.copy_version.new.reader)
          c.args.writer.now c.copy_version.new.writer
          c.in-Ok-None.field-0 c.in-Ok-None.field-0-is h.answered;
    }
