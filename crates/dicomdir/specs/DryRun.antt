-- What the words of a line say of what is made: whether it is only planned, and whether the run goes on past sources
-- that fail.
use Rattle.std.specs.Prelude.{◌≡◌, List, Option, None, Some, true}
use Rattle.clap.specs.Takes.{is_given}
use Rattle.clap.specs.Words.{Row, Text}
use Rattle.dd_line.specs.Line.{dry_run_name, keep_going_name}

-- the words set the flag `--dry-run`
abbrev pub HasDryRun : Option (Text × List Row) → Type 0
HasDryRun None = ⊥
HasDryRun (Some (command, given)) = is_given dry_run_name given ≡ true

-- they set the flag `--keep-going`
abbrev pub HasKeepGoing : Option (Text × List Row) → Type 0
HasKeepGoing None = ⊥
HasKeepGoing (Some (command, given)) = is_given keep_going_name given ≡ true
