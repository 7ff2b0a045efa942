-- The file ended, or nothing changed.
use Rattle.std.proofs.Common.{◌∙◌, Bool, ap, sym}
use Rattle.std.specs.Prelude.{not}
use Rattle.dd_files.proofs.KeptFiles.{said_ended, said_is}
use Rattle.dd_pile.specs.Paths.{IsCopyOfPile}
use Rattle.dd_pile.proofs.copies.end_copy.Goals as goal

pub returns-then-is_err-clause-adds : goal.returns-then-is_err-clause-adds
returns-then-is_err-clause-adds g c = λ pile.
    said_is (IsCopyOfPile pile) _ _ (c.finish.ensures.call.kept (sym c.is_err.ensures.value ∙ c.if-is_err.true))

pub returns-in-Ok-clause-adds : goal.returns-in-Ok-clause-adds
returns-in-Ok-clause-adds g c = λ pile.
    let ok = c.is_err.ensures.negation ∙ ap (λ (refused : Bool). not refused) c.if-is_err.false in
    rw c.store_batch.ensures.kept (said_ended (IsCopyOfPile pile) _ _ (c.finish.ensures.ended ok))

pub returns-in-Err-clause-adds : goal.returns-in-Err-clause-adds
returns-in-Err-clause-adds g c = λ pile.
    let ok = c.is_err.ensures.negation ∙ ap (λ (refused : Bool). not refused) c.if-is_err.false in
    rw c.store_batch.ensures.kept (said_ended (IsCopyOfPile pile) _ _ (c.finish.ensures.ended ok))
