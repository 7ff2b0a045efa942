use Rattle.std.proofs.Common.{◌≡◌, ◌∙◌, ◌++◌, ℕ, length, take, sym, ap, subst, false, refl, arith}
use Rattle.std.proofs.lemmas.List.{take_all}
use Rattle.dd_grammar.specs.Reading.{leaves_fewer, left_after}
use Rattle.dd_stream.proofs.Along.{scans_none}
use Rattle.dd_scan.proofs.Feeding.{take_overruns, take_ends, take_whole, over_length, front_length}
use Rattle.dd_scan.proofs.cursor.Cursor.take.Goals as goal

pub returns-then-leaves_fewer-clause-found : goal.returns-then-leaves_fewer-clause-found
returns-then-leaves_fewer-clause-found g c =
    scans_none _ _ _ _ (g.met.F.Feed.stays _) (λ rest t. take_overruns _ c.args.self.now.left rest
    (sym c.leaves_fewer.ensures ∙ c.if-leaves_fewer.true))

pub returns-then-fill-n-clause-found : goal.returns-then-fill-n-clause-found
returns-then-fill-n-clause-found g c =
    let n : ℕ = length c.fill.new.room in
    let same : n ≡ length c.args.room.now = c.fill.auto.room in
    let enough : leaves_fewer c.args.self.now.left n ≡ false = rw same (sym c.leaves_fewer.ensures
    ∙ c.if-leaves_fewer.false) in
    let taken = take c.fill.result c.fill.new.room in
    let over = c.fill.ensures.over (omega arith) in
    let short = front_length c.fill.result c.fill.new.room c.fill.ensures.bound in
    record {
      taken = taken;
      moved = c.fill.ensures.moved;
      gives = λ rest t. take_ends n c.args.self.now.left (taken ++ rest) enough
          (omega (arith, over_length _ _ taken rest over t));
    }

pub returns-clause-found : goal.returns-clause-found
returns-clause-found g c =
    let room = c.fill.new.room in
    let n : ℕ = length room in
    let same : n ≡ length c.args.room.now = c.fill.auto.room in
    let enough : leaves_fewer c.args.self.now.left n ≡ false = rw same (sym c.leaves_fewer.ensures
    ∙ c.if-leaves_fewer.false) in
    let all : take c.fill.result room ≡ room = take_all c.fill.result room (omega arith) in
    let left_is : c.left_after-self.result ≡ left_after c.args.self.now.left n = c.left_after-self.ensures
    ∙ ap (left_after c.args.self.now.left) (sym same) in
    record {
      taken = room;
      moved = subst (g.F.Feed.moves c.args.self.now.feed.now c.fill.new.feed) all c.fill.ensures.moved;
      gives = λ rest t. rw left_is (take_whole n c.args.self.now.left room rest enough refl);
    }
