-- One piece more is cut, or its end is amiss.
use Rattle.std.proofs.Common.{◌<◌, arith, inl, inr, length, refl, rules, slice_index_or}
use Rattle.std.specs.Prelude.{◌⊎◌}
use Rattle.dd_making.proofs.CutPieces.{cut_more, not_ends}
use Rattle.dd_making.proofs.cutting.pieces.Goals.{then-end-start-via-then-end-start, then-end-start-via-else-end-start+then-end-bytes}
use Rattle.dd_making.proofs.cutting.pieces.Goals as goal

pub returns-then-end-start-clause-refused : goal.returns-then-end-start-clause-refused
returns-then-end-start-clause-refused c =
    let end = slice_index_or c.args.ends.now c.loop-end.end-index 0 in
    let amiss : (end < c.loop-end.start) ⊎ (length c.args.bytes.now < end) = elim c.then-end-start.branch [
      | then-end-start-via-then-end-start w ↦ inl w.if-end-start.true
      | then-end-start-via-else-end-start+then-end-bytes w ↦ inr w.if-end-bytes.true
    ] in
    inl (
      not_ends c.args.bytes.now c.args.ends.now c.loop-end.end-index c.loop-end.start end 0 c.loop-end.pieces.items
          c.loop-end-test.true (search rules) amiss c.loop-end.invariant,
      c.of_number.ensures,
    )

pub loop-end-preserved : goal.loop-end-preserved
loop-end-preserved c =
    cut_more c.args.bytes.now c.args.ends.now c.loop-end.end-index c.loop-end.start _ 0 _ c.loop-end.pieces.items _
    c.loop-end-test.true (search rules) (omega arith) (omega arith) refl c.in-Ok.ensures.items c.loop-end.invariant
