-- A stream that has ended and gives nothing more holds nothing; one that has not ended may still give something.
use Rattle.std.proofs.Common.{◌≢◌, ◌<◌, ◌++◌, ◌∙◌, [], refl, arith}
use Rattle.dd_stream.specs.StreamLaws.{moves_none, moves_then}
use Rattle.dd_stream.specs.Streams.{most_of, position_of}
use Rattle.dd_stream.proofs.StreamEnds.{open_not_over, over_empty}
use Rattle.dd_stream.proofs.end.finish.Goals as goal

pub pieces-init : goal.pieces-init
pieces-init g c = (refl, ([], moves_none g.R.Read c.args.stream.now.reader.now (position_of c.args.stream.now)))

pub pieces-preserved : goal.pieces-preserved
pieces-preserved g c =
    let before = c.pieces.invariant in
    let more = c.pass-passed.ensures.moved in
    (more.2.0 ∙ before.0, (before.1.0 ++ more.0, moves_then g.R.Read _ _ _ _ _ _ _ _ before.1.1 more.2.1))

pub pieces-preserved-in_default : goal.pieces-preserved-in_default
pieces-preserved-in_default g c =
    let before = c.pieces.invariant in
    let more = c.pass-passed.ensures.moved in
    (more.2.0 ∙ before.0, (before.1.0 ++ more.0, moves_then g.R.Read _ _ _ _ _ _ _ _ before.1.1 more.2.1))

pub pieces-smaller-in_default : goal.pieces-smaller-in_default
pieces-smaller-in_default g c =
    let now = c.pass-passed.new.self in
    let some : c.pass-passed.result ≢ 0 = λ none. open_not_over now.kept now.left now.end c.in_default.is
    (c.pass-passed.ensures.over none (omega arith)).none in
    let fewer : most_of (position_of now) < most_of (position_of c.pieces.stream) = omega
    (arith, some, c.pass-passed.ensures.fewer) in
    fewer

pub returns-then-passed-eq0-clause-moved : goal.returns-then-passed-eq0-clause-moved
returns-then-passed-eq0-clause-moved g c =
    let before = c.pieces.invariant in
    let more = c.pass-passed.ensures.moved in
    (before.1.0 ++ more.0, moves_then g.R.Read _ _ _ _ _ _ _ _ before.1.1 more.2.1)

pub returns-then-passed-eq0-clause-empty : goal.returns-then-passed-eq0-clause-empty
returns-then-passed-eq0-clause-empty g c =
    let now = c.pass-passed.new.self in
    over_empty now.kept now.left now.end (c.pass-passed.ensures.over c.if-passed-eq0.true (omega arith)).none
