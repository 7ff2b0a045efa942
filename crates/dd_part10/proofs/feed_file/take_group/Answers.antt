use Rattle.std.proofs.Common.{◌≡◌, ◌++◌, length, take, arith, subst}
use Rattle.std.proofs.lemmas.List.{take_all}
use Rattle.dd_scan.proofs.Feeding.{front_length, over_length}
use Rattle.dd_part10.proofs.Taken.{split_short, meta_taken}
use Rattle.dd_part10.proofs.feed_file.take_group.Goals as goal

pub returns-then-fill-group-clause-found : goal.returns-then-fill-group-clause-found
returns-then-fill-group-clause-found g c =
    let n = length c.args.group.now in
    let room : length c.fill.new.room ≡ n = c.fill.auto.room in
    let taken = take c.fill.result c.fill.new.room in
    let short = front_length c.fill.result c.fill.new.room c.fill.ensures.bound in
    let over = c.fill.ensures.over (omega arith) in
    record {
      taken = taken;
      moved = c.fill.ensures.moved;
      gives = λ rest t bytes h. split_short bytes (taken ++ rest) rest n h
          (omega (arith, over_length _ _ taken rest over t));
    }

pub returns-clause-found : goal.returns-clause-found
returns-clause-found g c =
    let n = length c.args.group.now in
    let group = c.fill.new.room in
    let size : length group ≡ n = c.fill.auto.room in
    let all : take c.fill.result group ≡ group = take_all c.fill.result group (omega arith) in
    record {
      taken = group;
      moved = subst (g.F.Feed.moves _ c.fill.new.feed) all c.fill.ensures.moved;
      gives = λ rest t bytes h. meta_taken c.read_meta.result bytes group rest n h size c.read_meta.ensures.exact
          c.read_meta.ensures.group;
    }
