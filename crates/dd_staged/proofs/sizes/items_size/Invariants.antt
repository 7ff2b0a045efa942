use Rattle.std.proofs.Common.{◌≡◌, ◌<◌, ◌^◌, ◌+◌, length, drop}
use Rattle.dd_staged.proofs.ItemTexts.{sources_text}
use Rattle.dd_staged.proofs.sizes.items_size.Given as goal

abbrev pub invariant-loop-staged : goal.invariant-loop-staged
invariant-loop-staged l = record {
  sum : length (sources_text l.list) ≡ l.total + length (sources_text (drop l.staged-index l.list));
  few : l.total < 2 ^ 64;
}
