use Rattle.dd_elem.proofs.DigestUids.{numbered_valid}
use Rattle.dd_elem.proofs.UidForm.{is_uid_from_IsUid}
use Rattle.dd_elem.proofs.uid.Uid.from_digest.Goals as goal

pub invariant_of-result : goal.invariant_of-result
invariant_of-result c =
    let h = numbered_valid _ _ _ _ c.uuid_of.type_inv c.format.ensures.text c.format.ensures.fits
    c.as_bytes-number.ensures.value c.uid_bytes.ensures in
    (h.0, is_uid_from_IsUid _ h.1)

pub returns-clause-valid : goal.returns-clause-valid
returns-clause-valid c =
    let h = numbered_valid _ _ _ _ c.uuid_of.type_inv c.format.ensures.text c.format.ensures.fits
    c.as_bytes-number.ensures.value c.uid_bytes.ensures in
    h.1
