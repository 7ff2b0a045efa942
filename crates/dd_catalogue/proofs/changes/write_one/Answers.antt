use Rattle.std.proofs.Common.{sym, ◌∙◌, arith}
use Rattle.dd_catalogue.proofs.Changed.{one_past, one_unwritten, one_written}
use Rattle.dd_catalogue.proofs.changes.write_one.Goals.{else-index-len-via-then-index-len+else-are_of_one_instance}
use Rattle.dd_catalogue.proofs.changes.write_one.Goals.{else-index-len-via-else-index-len}
use Rattle.dd_catalogue.proofs.changes.write_one.Goals as goal

pub returns-then-are_of_one_instance : goal.returns-then-are_of_one_instance
returns-then-are_of_one_instance c =
    one_written c.args.index c.index.result.now c.args.version c.args.versions.now.items (omega arith) c.index.ensures
    (sym c.are_of_one_instance.ensures ∙ c.if-are_of_one_instance.true)

pub returns-else-index-len : goal.returns-else-index-len
returns-else-index-len c = elim c.else-index-len.branch [
  | else-index-len-via-then-index-len+else-are_of_one_instance w ↦
      one_unwritten c.args.index w.index.result.now c.args.version c.args.versions.now.items (omega arith)
      w.index.ensures (sym w.are_of_one_instance.ensures ∙ w.if-are_of_one_instance.false)
  | else-index-len-via-else-index-len w ↦ one_past c.args.index c.args.version c.args.versions.now.items (omega arith)
]
