use Rattle.std.proofs.Common.{refl}
use Rattle.dd_elem.specs.Uid.{is_uid}
use Rattle.dd_records.proofs.file_meta.directory_syntax.Goals as goal

-- the literal is a UID, as the test computes
pub unwrap-requires : goal.unwrap-requires
unfolding is_uid
unwrap-requires c = c.new.ensures.accepted.1 (c.new.ensures.decided.0 refl)
