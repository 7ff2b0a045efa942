use Rattle.std.proofs.Common.{◌≡◌, ◌<◌, take, All}
use Rattle.std.specs.List.{fold}
use Rattle.dd_catalogue.proofs.join.gather.Given as goal

abbrev pub invariant-loop-value : goal.invariant-loop-value
invariant-loop-value g l = record {
  joined : l.first ≡ fold g.J.Join.joined l.fn.first (take l.value-index l.rest);
  rest : All g.J.Join.is_value (take l.value-index l.rest);
  first : 0 < l.value-index → g.J.Join.is_value l.fn.first;
}
