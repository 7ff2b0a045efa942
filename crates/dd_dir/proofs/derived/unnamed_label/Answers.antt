use Rattle.std.proofs.Common.{refl}
use Rattle.dd_elem.specs.Uid.{is_uid}
use Rattle.dd_dir.proofs.derived.unnamed_label.Goals as goal

-- the literal is a UID, as the test computes
pub unwrap-uid-requires : goal.unwrap-uid-requires
unfolding is_uid
unwrap-uid-requires c = c.new.ensures.accepted.1 (c.new.ensures.decided.0 refl)
