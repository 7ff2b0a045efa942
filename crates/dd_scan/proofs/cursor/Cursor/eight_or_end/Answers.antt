use Rattle.std.proofs.Common.{◌≡◌, ◌++◌, length, take, subst, arith}
use Rattle.std.proofs.lemmas.List.{length-append, take_all}
use Rattle.dd_scan.proofs.Feeding.{over_length, front_length, top_none, top_found, top_fails}
use Rattle.dd_scan.proofs.cursor.Cursor.eight_or_end.Goals as goal

pub returns-then-n-eq0-clause-found : goal.returns-then-n-eq0-clause-found
returns-then-n-eq0-clause-found g c =
    let room = c.fill-n.new.room in
    let eight : length room ≡ 8 = c.fill-n.auto.room in
    let taken = take c.fill-n.result room in
    let short = front_length c.fill-n.result room c.fill-n.ensures.bound in
    let over = c.fill-n.ensures.over (omega arith) in
    record {
      taken = taken;
      moved = c.fill-n.ensures.moved;
      gives = λ rest t.
          let whole = over_length _ _ taken rest over t in
          top_none c.args.self.now.left (taken ++ rest) rest c.requires (omega arith)
          (omega (arith, length-append taken rest));
    }

pub returns-then-n-lt8-clause-found : goal.returns-then-n-lt8-clause-found
returns-then-n-lt8-clause-found g c =
    let room = c.fill-n.new.room in
    let eight : length room ≡ 8 = c.fill-n.auto.room in
    let taken = take c.fill-n.result room in
    let short = front_length c.fill-n.result room c.fill-n.ensures.bound in
    let over = c.fill-n.ensures.over (omega arith) in
    record {
      taken = taken;
      moved = c.fill-n.ensures.moved;
      gives = λ rest t.
          let whole = over_length _ _ taken rest over t in
          top_fails c.args.self.now.left (taken ++ rest) c.requires (λ none. absurd (omega arith)) (omega arith);
    }

pub returns-clause-found : goal.returns-clause-found
returns-clause-found g c =
    let room = c.fill-n.new.room in
    let eight : length room ≡ 8 = c.fill-n.auto.room in
    let all : take c.fill-n.result room ≡ room = take_all c.fill-n.result room (omega arith) in
    record {
      taken = room;
      moved = subst (g.F.Feed.moves c.args.self.now.feed.now c.fill-n.new.feed) all c.fill-n.ensures.moved;
      gives = λ rest t. top_found c.args.self.now.left room rest c.requires eight;
    }
