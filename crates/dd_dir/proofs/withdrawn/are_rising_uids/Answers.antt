use Rattle.dd_walk.specs.WithdrawnPieces.{pieces_of}
use Rattle.dd_dir.proofs.WithdrawnUids.{rise_decides, uids_decide}
use Rattle.dd_dir.proofs.withdrawn.are_rising_uids.Goals as goal

pub returns-then-are_uids : goal.returns-then-are_uids
returns-then-are_uids c =
    rise_decides (pieces_of c.args.value.now) c.are_uids.result c.rise.result c.are_uids.ensures c.rise.ensures
    c.if-are_uids.true

pub returns-else-are_uids : goal.returns-else-are_uids
returns-else-are_uids c =
    uids_decide (pieces_of c.args.value.now) c.are_uids.result c.are_uids.ensures c.if-are_uids.false
