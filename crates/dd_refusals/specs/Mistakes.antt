-- Why words are refused: for a mistake, or since they ask for help or for the version.
use Rattle.std.specs.Prelude.{◌≢◌}
use Rattle.clap.specs.Words.{kind_of}
use Rattle.clap.specs.declared.error.kind.ErrorKind.TheVariants.{DisplayHelp, DisplayVersion}
use Rattle.dd_line.specs.declared.line.LineFault.{LineFault}
use Rattle.dd_line.specs.declared.line.LineFault.TheVariants.{Refused, Memory}

-- the words do not ask for help or for the version, so nothing goes to the output
abbrev pub IsMistake : LineFault → Type 0
IsMistake (Refused e) = (kind_of e ≢ DisplayHelp) × (kind_of e ≢ DisplayVersion)
IsMistake Memory = Unit {0}
