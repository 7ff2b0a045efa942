use Rattle.std.proofs.Common.{◌≡◌, ◌<◌, ◌+◌, ℕ, List, length}
use Rattle.dd_elem.specs.Device.{IsLive}
use Rattle.dd_sources.specs.Batches.{HasRoom, HoldsOpen}
use Rattle.dd_keys.specs.Sources.{Answer}
use Rattle.dd_sources.specs.Supply.{AllStay, AreAnswers, EachGrows, HasGivenAll}
use Rattle.dd_sources.proofs.Lending.{StayFrom}
use Rattle.dd_sources.proofs.sources.read_sources.Given as goal

-- what is held so far has the answers for the sources so far once all digests are set, and none of these failed
abbrev pub invariant-loop-at : goal.invariant-loop-at
invariant-loop-at g l = record {
  answers : List Answer;
  many : length answers ≡ l.at;
  right : AreAnswers l.limit (g.S.Supply.contents l.fn.supply) answers;
  room : HasRoom l.batch l.sources.versions.items;
  held : HoldsOpen answers l.sources l.batch;
  refusals : AllStay (g.S.Supply.refusals l.fn.supply) (g.S.Supply.refusals l.supply);
  unread : AllStay (g.S.Supply.unread l.fn.supply) (g.S.Supply.unread l.supply);
  lent : AllStay (g.S.Supply.lent l.fn.supply) (g.S.Supply.lent l.supply);
  reads : EachGrows (l.limit + 1) (g.S.Supply.reads l.fn.supply) (g.S.Supply.reads l.supply);
  later : StayFrom l.at (g.S.Supply.reads l.fn.supply) (g.S.Supply.reads l.supply);
  there : (at : ℕ) → at < l.at → g.S.Supply.is_there (g.S.Supply.rest l.fn.supply) at;
  given : (at : ℕ) → at < l.at
      → HasGivenAll l.limit (g.S.Supply.contents l.fn.supply at) (g.S.Supply.given l.supply at);
  live : (at : ℕ) → at < l.at → IsLive (g.S.Supply.refusals l.fn.supply at) (g.S.Supply.unread l.fn.supply at);
  sources : g.S.Supply.sources l.supply ≡ g.S.Supply.sources l.fn.supply;
  contents : g.S.Supply.contents l.supply ≡ g.S.Supply.contents l.fn.supply;
  rest : g.S.Supply.rest l.supply ≡ g.S.Supply.rest l.fn.supply;
}
