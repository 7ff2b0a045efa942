-- What is skipped comes after what was skipped before.
use Rattle.std.proofs.Common.{◌++◌, arith}
use Rattle.std.proofs.lemmas.List.{length-append}
use Rattle.dd_stream.proofs.filling.skip.Goals as goal

pub returns-then-passed-eq0-clause-moved : goal.returns-then-passed-eq0-clause-moved
returns-then-passed-eq0-clause-moved g c =
    let before = c.loop-at.invariant.moved in
    let more = c.pass-passed.ensures.moved in (
      before.0 ++ more.0,
      omega (arith, length-append before.0 more.0, before.1, more.1),
      g.met.F.Feed.goes _ _ _ _ _
          before.2 more.2,
    )

pub loop-at-preserved : goal.loop-at-preserved
loop-at-preserved g c =
    let before = c.loop-at.invariant.moved in
    let more = c.pass-passed.ensures.moved in
    record {
      within = omega arith;
      moved = (
        before.0 ++ more.0,
        omega (arith, length-append before.0 more.0, before.1, more.1),
        g.met.F.Feed.goes _ _
            _ _ _ before.2 more.2,
      );
      fewer = omega arith;
    }
