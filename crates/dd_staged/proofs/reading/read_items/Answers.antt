use Rattle.std.proofs.Common.{◌+◌, ◌≤◌, List, length, sym, subst, arith}
use Rattle.dd_staged.specs.declared.staged.Staged.{Staged}
use Rattle.dd_staged.proofs.ReadItems.{HasRead, reads_all, reads_more}
use Rattle.dd_staged.proofs.reading.read_items.Goals as goal

pub loop-item-preserved : goal.loop-item-preserved
loop-item-preserved c =
    let done = c.in-Ok.ensures.value in
    let at = c.loop-item.item-index in
    subst (λ (list : List Staged). HasRead c.args.items.now (at + 1) list) (sym c.in_ok-push-in-Ok.ensures.items)
    (reads_more c.args.items.now at c.item-item.result c.loop-item.list.items c.in-Ok.staged c.loop-item-test.true
    c.item-item.is done.0 done.1 c.loop-item.invariant)

pub returns-clause-spelled : goal.returns-clause-spelled
returns-clause-spelled c =
    let past : length c.args.items.now ≤ c.loop-item.item-index = omega arith in
    reads_all c.args.items.now c.loop-item.item-index c.loop-item.list.items past c.loop-item.invariant
