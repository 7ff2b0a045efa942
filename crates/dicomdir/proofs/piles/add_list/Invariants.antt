-- The sources so far are added.
use Rattle.std.proofs.Common.{◌≡◌, ◌<◌, ◌^◌, ◌∷◌, ◌++◌, [], List, length, map}
use Rattle.std.specs.Vec.Iter.{into_iter_items, into_iter_len}
use Rattle.dd_staged.specs.Sources.{Source, source_view}
use Rattle.dicomdir.specs.Publishes.{IsPiled}
use Rattle.dicomdir.proofs.piles.add_list.Given as goal

abbrev pub invariant-loop-staged : goal.invariant-loop-staged
invariant-loop-staged l = record {
  all : l.yielded ++ into_iter_items l.staged-iterator ≡ into_iter_items l.initial.staged-iterator;
  left : into_iter_len l.staged-iterator ≡ length (into_iter_items l.staged-iterator);
  few : length (into_iter_items l.initial.staged-iterator) < 2 ^ 64;
  before : l.before ≡ length l.fn.piled.names.items;
  number : l.number ≡ length l.yielded;
  piled : (lists : List (List Source)) → length lists ≡ l.pile → IsPiled lists l.fn.piled
      → IsPiled (lists ++ map source_view l.yielded ∷ []) l.piled;
}
