-- One name more was put.
use Rattle.std.proofs.Common.{◌∙◌, arith}
use Rattle.dd_making.proofs.PutNotes.{put_all, put_more}
use Rattle.dd_making.proofs.note_rows.put_names.Goals as goal

pub loop-name-preserved : goal.loop-name-preserved
loop-name-preserved c =
    put_more c.args.names.now c.loop-name.name-index c.name-item.result c.as_bytes.result.now _ _ _
    c.loop-name-test.true (c.as_bytes.ensures.value ∙ c.name-item.is) c.loop-name.invariant c.in_ok-put.ensures

pub returns : goal.returns
returns c = put_all c.args.names.now c.loop-name.name-index _ _ (omega arith) c.loop-name.invariant
