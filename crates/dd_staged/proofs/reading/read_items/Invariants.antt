use Rattle.dd_staged.proofs.ReadItems.{HasRead}
use Rattle.dd_staged.proofs.reading.read_items.Given as goal

abbrev pub invariant-loop-item : goal.invariant-loop-item
invariant-loop-item l = HasRead l.items l.item-index l.list.items
