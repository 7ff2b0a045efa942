use Rattle.std.proofs.Common.{ap, rules}
use Rattle.std.specs.Ordering.{is_lt}
use Rattle.std.proofs.lemmas.List.MinMax.{ranks_by}
use Rattle.std.proofs.lemmas.List.Sorted.{answers_always}
use Rattle.dd_engine.specs.declared.mentions.Mention.{Mention}
use Rattle.dd_engine.specs.Mentions.{mention_cmp}
use Rattle.dd_engine.proofs.FirstMentions.{uid_total}
use Rattle.dd_engine.proofs.mentions.in_order.Goals as goal

pub returns-clause-order : goal.returns-clause-order
returns-clause-order c =
    c.in_ok-sort_by.ensures.sorted (λ a b. is_lt (mention_cmp a b))
    (ranks_by uid_total (λ (mention : Mention). mention.uid.now))
    (answers_always _ _ _ (λ f a r h called. ap is_lt (search rules)))

pub returns-clause-stable : goal.returns-clause-stable
returns-clause-stable c =
    c.in_ok-sort_by.ensures.stable (λ a b. is_lt (mention_cmp a b))
    (ranks_by uid_total (λ (mention : Mention). mention.uid.now))
    (answers_always _ _ _ (λ f a r h called. ap is_lt (search rules)))
