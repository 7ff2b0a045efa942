-- The words are the fault's.
use Rattle.dd_report.proofs.words.tell_fault.Goals as goal

pub returns-in-GroupLength-clause-written : goal.returns-in-GroupLength-clause-written
returns-in-GroupLength-clause-written g c = rw c.in-GroupLength.is c.tell_words-in-GroupLength.ensures.written

pub returns-in-OtherSyntax-clause-written : goal.returns-in-OtherSyntax-clause-written
returns-in-OtherSyntax-clause-written g c =
    rw c.in-OtherSyntax.is (rw c.as_bytes.ensures.value at c.tell_words-in-OtherSyntax.ensures.written)
