-- The file is of the version that was found, or of none.
use Rattle.std.specs.Prelude.{option_map}
use Rattle.dd_filing.proofs.Comparing.{version_as}
use Rattle.dd_filing.proofs.ReadingAhead.{no_version_in, version_in}
use Rattle.dd_filing.proofs.agreeing.Filed.of_found.Goals as goal

pub returns-in-Ok : goal.returns-in-Ok
returns-in-Ok c = λ file is.
    version_as c.args.wanted.now.planned.now (option_map (λ said. said.now) c.args.wanted.now.said) c.in-Ok.version
    c.of.result file c.one_version.ensures.one
    (version_in file c.args.found.now c.in-Ok.version c.in-Ok.is is)
    c.of.ensures

pub returns-in-Err : goal.returns-in-Err
returns-in-Err c = λ file is version its.
    absurd (no_version_in file c.args.found.now c.in-Err.field-0 c.in-Err.is is version its)
