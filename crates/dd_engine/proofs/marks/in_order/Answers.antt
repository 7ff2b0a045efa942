use Rattle.std.proofs.Common.{ap, rules}
use Rattle.std.specs.Ordering.{is_lt}
use Rattle.std.proofs.lemmas.List.MinMax.{ranks_by}
use Rattle.std.proofs.lemmas.List.Sorted.{answers_always}
use Rattle.dd_engine.specs.Picking.{key_of, mark_cmp}
use Rattle.dd_engine.proofs.FirstMarks.{file_total}
use Rattle.dd_engine.proofs.marks.in_order.Goals as goal

pub returns-clause-order : goal.returns-clause-order
returns-clause-order g c =
    c.in_ok-sort_by.ensures.sorted (λ a b. is_lt (mark_cmp a b)) (ranks_by file_total (λ mark. key_of mark))
    (answers_always _ _ _ (λ f a r h called. ap is_lt (search rules)))

pub returns-clause-stable : goal.returns-clause-stable
returns-clause-stable g c =
    c.in_ok-sort_by.ensures.stable (λ a b. is_lt (mark_cmp a b)) (ranks_by file_total (λ mark. key_of mark))
    (answers_always _ _ _ (λ f a r h called. ap is_lt (search rules)))
