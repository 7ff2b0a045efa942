use Rattle.std.proofs.Common.{◌≡◌, ◌++◌, [], length, take, arith, append_assoc, append-nil}
use Rattle.std.proofs.lemmas.List.{length-append, length-take, length-take-le}
use Rattle.dd_scan.proofs.cleaning.cleaned_length.Goals as goal

pub loop-passed-init : goal.loop-passed-init
loop-passed-init g c = record {
  within = c.requires;
  moved = ([], g.met.F.Feed.stays _, omega arith, λ front counted before. rw append-nil before);
  fewer = omega arith;
}

pub loop-passed-preserved : goal.loop-passed-preserved
loop-passed-preserved g c =
    let before = c.loop-passed.invariant.moved in
    let piece = take c.give-came.result c.give-came.new.room in
    let count = length-take-le c.give-came.result c.give-came.new.room c.give-came.ensures.bound in
    let room : length c.give-came.new.room ≡ length (take c.min-wanted.result c.loop-passed.piece) =
    c.give-came.auto.room in
    let few = length-take c.min-wanted.result c.loop-passed.piece in
    record {
      within = omega arith;
      moved = (
        before.0 ++ piece,
        g.met.F.Feed.goes _ _ _ _ _ before.1 c.give-came.ensures.moved,
        omega (arith, length-append before.0 piece, before.2),
        λ front counted start. rw (← append_assoc front before.0 piece)
            (c.cleaned_with-cleaned.ensures (front ++ before.0) (omega (arith, length-append front before.0, before.2))
            (before.3 front counted start)),
      );
      fewer = omega arith;
    }

pub returns-then-came-eq0-clause-moved : goal.returns-then-came-eq0-clause-moved
returns-then-came-eq0-clause-moved g c =
    let before = c.loop-passed.invariant.moved in
    let piece = take c.give-came.result c.give-came.new.room in
    let count = length-take-le c.give-came.result c.give-came.new.room c.give-came.ensures.bound in (
      before.0 ++ piece,
      g.met.F.Feed.goes _ _ _ _ _ before.1 c.give-came.ensures.moved,
      omega (arith, length-append before.0 piece, before.2),
      λ none. omega (arith, length-append before.0 piece, before.2),
      tt,
    )
