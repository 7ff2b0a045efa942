use Rattle.std.proofs.Common.{◌≡◌, ◌+◌, ℕ, List, length}
use Rattle.dd_sources.specs.Batches.{HasRoom, HoldsOpen}
use Rattle.dd_sources.specs.Readings.{AreReadings, Reading, absent_in, answers_of}
use Rattle.dd_sources.specs.Supply.{AllStay, EachGrows}
use Rattle.dd_sources.proofs.Lending.{StayFrom}
use Rattle.dd_sources.proofs.readings.read_past_failures.Given as goal

-- what is held so far has the answers for the sources so far once all digests are set; the later ones are as they were
abbrev pub invariant-loop-at : goal.invariant-loop-at
invariant-loop-at g l = record {
  readings : List Reading;
  many : length readings ≡ l.at;
  right : AreReadings l.limit (g.S.Supply.contents l.fn.supply)
      (g.S.Supply.is_there (g.S.Supply.rest l.fn.supply)) (g.S.Supply.given l.supply) readings
      (g.S.Supply.refusals l.fn.supply) (g.S.Supply.refusals l.supply) (g.S.Supply.unread l.fn.supply)
      (g.S.Supply.unread l.supply);
  room : HasRoom l.read.batch l.read.sources.versions.items;
  held : HoldsOpen (answers_of readings) l.read.sources l.read.batch;
  absent : l.read.absent.items ≡ absent_in readings;
  refusals : StayFrom l.at (g.S.Supply.refusals l.fn.supply) (g.S.Supply.refusals l.supply);
  unread : StayFrom l.at (g.S.Supply.unread l.fn.supply) (g.S.Supply.unread l.supply);
  lent : AllStay (g.S.Supply.lent l.fn.supply) (g.S.Supply.lent l.supply);
  reads : EachGrows (l.limit + 1) (g.S.Supply.reads l.fn.supply) (g.S.Supply.reads l.supply);
  later : StayFrom l.at (g.S.Supply.reads l.fn.supply) (g.S.Supply.reads l.supply);
  sources : g.S.Supply.sources l.supply ≡ g.S.Supply.sources l.fn.supply;
  contents : g.S.Supply.contents l.supply ≡ g.S.Supply.contents l.fn.supply;
  rest : g.S.Supply.rest l.supply ≡ g.S.Supply.rest l.fn.supply;
}
