use Rattle.std.proofs.Common.{sym, refl, arith, ◌∙◌}
use borrow.Author.Tests.{ltb-true}
use Rattle.dd_elem.proofs.Cleaning.{clean_of_front, clean_of_none, clean_of_whole, IsCleanOf_from_is}
use Rattle.dd_elem.proofs.padding.clean.Goals as goal

pub loop-kept-preserved : goal.loop-kept-preserved
loop-kept-preserved c = clean_of_front c.loop-kept.kept.now _ (omega arith) refl
    (sym c.is_padding.ensures ∙ c.if-is_padding.true) ∙ c.loop-kept.invariant

pub returns-then-kept-lt1-clause-longest : goal.returns-then-kept-lt1-clause-longest
returns-then-kept-lt1-clause-longest c = IsCleanOf_from_is _ _
    (clean_of_none c.loop-kept.kept.now (omega (arith, ltb-true)) ∙ c.loop-kept.invariant)

pub returns-else-is_padding-clause-exact : goal.returns-else-is_padding-clause-exact
returns-else-is_padding-clause-exact c = sym (clean_of_whole c.loop-kept.kept.now _ (omega arith) refl
    (sym c.is_padding.ensures ∙ c.if-is_padding.false)) ∙ c.loop-kept.invariant

pub returns-else-is_padding-clause-longest : goal.returns-else-is_padding-clause-longest
returns-else-is_padding-clause-longest c =
    IsCleanOf_from_is _ _ (returns-else-is_padding-clause-exact c)
