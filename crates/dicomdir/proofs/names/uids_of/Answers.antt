use Rattle.std.proofs.Common.{refl}
use Rattle.dicomdir.proofs.BadUids.{bad_at, bad_behind, bad_left, uid_read, whatever_fault}
use Rattle.dicomdir.specs.Names.{HasBadUid}
use Rattle.dicomdir.proofs.names.uids_of.Goals as goal

pub returns-in_err-uid-clause-bad : goal.returns-in_err-uid-clause-bad
returns-in_err-uid-clause-bad c =
    whatever_fault c.from_residual-in_err-uid.result (HasBadUid c.args.texts.now)
    (c.loop-texts.invariant.0 (bad_at c.loop-texts.texts.now c.text-item.result c.in-len1-up.len_at_least
    c.text-item.is (c.in_err-uid.ensures.bad refl)))

pub loop-texts-preserved : goal.loop-texts-preserved
loop-texts-preserved c = (
  λ bad. c.loop-texts.invariant.0 (bad_behind c.loop-texts.texts.now c.text-item.result c.in-len1-up.len_at_least
      c.text-item.is bad),
  λ bad. bad_left c.loop-texts.texts.now c.text-item.result c.in-len1-up.len_at_least c.text-item.is
      (c.in_ok-uid.ensures.good refl) (c.loop-texts.invariant.1 bad),
  uid_read c.loop-texts.texts.now c.text-item.result c.in-len1-up.len_at_least c.text-item.is c.loop-texts.uids.items
      _ _ _ c.in-Ok.ensures.items c.in_ok-uid.ensures.value c.loop-texts.invariant.2,
)
