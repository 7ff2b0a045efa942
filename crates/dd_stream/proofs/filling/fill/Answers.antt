-- Each piece that the feed gives is put into the room after the pieces before it.
use Rattle.std.proofs.Common.{◌≡◌, ◌≤◌, ℕ, ◌+◌, ◌-◌, ◌++◌, List, length, take, subst, sym, arith}
use Rattle.std.proofs.Math.Seq.{take-add}
use Rattle.std.proofs.lemmas.List.{take-append-le, drop-append-le}
use Rattle.std.proofs.lemmas.Grind.{common_steps}
use borrow.Rule.Slice.PartMut.{put_mid}
use Rattle.dd_stream.proofs.filling.fill.Goals as goal

placed_more : (at k n m : ℕ) (room piece : List ℕ) → at ≤ length room → n ≤ length piece → m ≡ at + n
    → take m (put_mid at k room piece) ≡ take at room ++ take n piece
placed_more at k n m room piece within few is = grind (arith, common_steps, take-add, take-append-le, drop-append-le)

pub returns-then-n-eq0-clause-moved : goal.returns-then-n-eq0-clause-moved
returns-then-n-eq0-clause-moved g c =
    let same = placed_more c.loop-at.at (length c.loop-at.room - c.loop-at.at) c.give-n.result c.loop-at.at
    c.loop-at.room c.give-n.new.room c.loop-at.invariant.within c.give-n.ensures.bound (omega arith) in
    subst (g.F.Feed.moves c.args.feed.now c.give-n.new.self) (sym same)
    (g.met.F.Feed.goes _ _ _ _ _ c.loop-at.invariant.moved c.give-n.ensures.moved)

pub loop-at-preserved : goal.loop-at-preserved
loop-at-preserved g c =
    let same = placed_more c.loop-at.at (length c.loop-at.room - c.loop-at.at) c.give-n.result
    (c.loop-at.at + c.give-n.result) c.loop-at.room c.give-n.new.room c.loop-at.invariant.within
    c.give-n.ensures.bound (omega arith) in
    record {
      within = grind (arith, common_steps);
      moved = subst (g.F.Feed.moves c.args.feed.now c.give-n.new.self) (sym same)
          (g.met.F.Feed.goes _ _ _ _ _ c.loop-at.invariant.moved c.give-n.ensures.moved);
      fewer = omega arith;
    }
