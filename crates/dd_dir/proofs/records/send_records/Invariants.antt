use Rattle.std.proofs.Common.{length, map}
use Rattle.std.specs.Prelude.{All}
use Rattle.std.specs.List.{AllByRecursion}
use Rattle.dd_stream.proofs.Going.{GoesOn}
use Rattle.dd_stream.specs.Sends.{counts_of}
use Rattle.dd_layout.specs.Layouts.{IsSound}
use Rattle.dd_records.specs.Records.{IsRecord}
use Rattle.dd_dir.specs.Directories.{AreMeasured, elements_for}
use Rattle.dd_dir.specs.Keyed.{IsKeyed}
use Rattle.dd_dir.proofs.RecordTexts.{records_text}
use Rattle.dd_dir.proofs.records.send_records.Given as goal

-- the records that are left are still to be sent, and all are valid and keyed where those are
abbrev pub invariant-loop-records : goal.invariant-loop-records
invariant-loop-records g l = record {
  goes : GoesOn (records_text l.versions l.initial.records) (records_text l.versions l.records) l.initial.sent l.sent
      (g.W.Write.contents l.initial.writer, g.W.Write.rest l.initial.writer)
      (g.W.Write.contents l.writer, g.W.Write.rest l.writer) (counts_of g.W.Write l.initial.writer)
      (counts_of g.W.Write l.writer);
  sound : All (IsSound (length l.versions)) l.records;
  measured : AreMeasured l.versions l.end l.records;
  valid : AllByRecursion IsRecord (map (elements_for l.versions) l.records)
      → AllByRecursion IsRecord (map (elements_for l.versions) l.initial.records);
  keyed : AllByRecursion (IsKeyed l.versions) l.records → AllByRecursion (IsKeyed l.versions) l.initial.records;
}

abbrev pub decreases-loop-records : goal.decreases-loop-records
decreases-loop-records g l = length l.records
