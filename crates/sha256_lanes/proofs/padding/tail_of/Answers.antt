use Rattle.std.proofs.Common.{◌≡◌, ◌+◌, ◌-◌, ◌%◌, length, arith, refl, ◌∙◌}
use Rattle.sha256_lanes.proofs.Blocks.{tail_made}
use Rattle.sha256_lanes.proofs.padding.tail_of.Goals as goal
use Rattle.sha256_lanes.proofs.padding.tail_of.Goals.{then-left-lt56, else-left-lt56}
use Rattle.std.proofs.lemmas.List.{take_rest}

pub returns : goal.returns
returns c =
    let left = length c.args.message.now % 64 in
    let end = c.if-left-lt56.end in
    let sized : end ≡ left + ((119 - left) % 64 + 9) = elim c.if-left-lt56.branch [
      | then-left-lt56 w ↦ omega (arith, w.end-is, w.if-left-lt56)
      | else-left-lt56 w ↦ omega (arith, w.end-is, w.if-left-lt56)
    ] in
    tail_made c.args.message.now _ c.copy_from_slice.new.self c.copy_from_slice-2.new.self left end _ refl refl sized
    (omega arith)
    (c.copy_from_slice.ensures.after ∙ take_rest c.args.message.now _)
    (c.copy_from_slice-2.ensures.after ∙ c.to_be_bytes.ensures)
