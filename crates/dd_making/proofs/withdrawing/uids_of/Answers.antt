-- The first text that is no UID is named.
use Rattle.std.proofs.Common.{inl, rules}
use Rattle.dd_making.proofs.ReadUids.{no_uid}
use Rattle.dd_making.proofs.withdrawing.uids_of.Goals as goal

pub returns-in_default-clause-refused : goal.returns-in_default-clause-refused
returns-in_default-clause-refused c =
    inl (no_uid c.args.texts.now c.loop-text.text-index c.len.result _ c.loop-text.uids.items c.of_input.result
    c.loop-text-test.true (λ is. let both = c.in_default.ensures.accepted.1 is in cc) (search (rules)) c.of_input.ensures
    c.loop-text.invariant)
