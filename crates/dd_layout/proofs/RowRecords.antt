-- The records of one version that a walk gives, level by level.
use Rattle.std.specs.Prelude.{List}
use Rattle.dd_version.specs.declared.parts.Parts.{Parts}
use Rattle.dd_records.specs.declared.level.Level.{Level}
use Rattle.dd_records.specs.declared.record.PlanRecord.{PlanRecord}
use Rattle.dd_layout.specs.Stages.{bare_of}
use Rattle.dd_layout.specs.WalkedRecords.{Standing, front_of, least_here}

-- the record of this level that leads to the first version
abbrev pub record_of_level : List Standing → Parts → Level → PlanRecord
record_of_level run version level = bare_of level (least_here (front_of level version) run)
