-- The files so far were judged.
use Rattle.std.proofs.Common.{◌≡◌, List, length, map}
use Rattle.dd_report.specs.Agreements.{Standing}
use Rattle.dd_calls.specs.Standings.{seen_by, standing_view}
use Rattle.dd_calls.proofs.Judged.{AreJudged}
use Rattle.dd_calls.proofs.checking.judge_all.Given as goal

abbrev pub invariant-loop-file : goal.invariant-loop-file
invariant-loop-file l = record {
  judged : (all : List Standing) → map standing_view l.records ≡ map seen_by all
      → AreJudged l.comparison all l.contents l.files l.file-index l.start l.rows.items;
  few : length l.rows.items ≡ l.file-index;
}
