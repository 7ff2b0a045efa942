use Rattle.std.proofs.Common.{◌≡◌, ◌∙◌, ◌++◌, length, sym, true, false, arith}
use Rattle.dd_grammar.specs.Reading.{leaves_fewer}
use Rattle.dd_stream.proofs.Along.{scans_none}
use Rattle.dd_scan.proofs.Feeding.{take_overruns, take_ends, take_whole, over_length}
use Rattle.dd_scan.proofs.cursor.Cursor.pass.Goals as goal

pub returns-then-leaves_fewer-clause-found : goal.returns-then-leaves_fewer-clause-found
returns-then-leaves_fewer-clause-found g c =
    let fewer : leaves_fewer c.args.self.now.left c.args.n ≡ true = rw c.from-n.ensures at
    (sym c.leaves_fewer.ensures ∙ c.if-leaves_fewer.true) in
    scans_none _ _ _ _ (g.met.F.Feed.stays _) (λ rest t. take_overruns c.args.n c.args.self.now.left rest fewer)

pub returns-then-skip-n-clause-found : goal.returns-then-skip-n-clause-found
returns-then-skip-n-clause-found g c =
    let enough : leaves_fewer c.args.self.now.left c.args.n ≡ false =
    rw c.from-n.ensures at (sym c.leaves_fewer.ensures ∙ c.if-leaves_fewer.false) in
    let over = c.skip.ensures.over c.if-skip-n.true in
    let m = c.skip.ensures.moved in
    record {
      taken = m.0;
      moved = m.2;
      gives = λ rest t. take_ends c.args.n c.args.self.now.left (m.0 ++ rest) enough
          (omega (arith, over_length _ _ m.0 rest over t, m.1));
    }

pub returns-clause-found : goal.returns-clause-found
returns-clause-found g c =
    let enough : leaves_fewer c.args.self.now.left c.args.n ≡ false =
    rw c.from-n.ensures at (sym c.leaves_fewer.ensures ∙ c.if-leaves_fewer.false) in
    let m = c.skip.ensures.moved in
    let whole : length m.0 ≡ c.args.n = omega (arith, m.1) in
    record {
      taken = m.0;
      moved = m.2;
      gives = λ rest t. rw (c.left_after-self.ensures, c.from-n.ensures)
          (m.0, take_whole c.args.n c.args.self.now.left m.0 rest enough whole);
    }
