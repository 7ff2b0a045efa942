use Rattle.std.proofs.Common.{rules, ◌≡◌, true, false, arith}
use Rattle.std.proofs.lemmas.Result.{err_from_is_err_and}
use Rattle.dd_stream.proofs.Along.{scans_none, scans_then}
use Rattle.dd_scan.proofs.FragmentSteps.{fragments_start, fragments_go, fragments_end, fragments_stop, fragment_steps}
use Rattle.dd_scan.proofs.skipping.skip_fragments.Goals as goal

pub fragments-init : goal.fragments-init
fragments-init g c =
    record {
      same = search rules;
      goes = scans_none _ _ _ _ (g.met.F.Feed.stays _) (λ rest k. fragments_start c.args.at.now.left rest);
      fewer = omega arith;
    }

pub returns-in_err-more-clause-found : goal.returns-in_err-more-clause-found
returns-in_err-more-clause-found g c =
    let p = err_from_is_err_and c.from_residual.result c.from_residual.ensures.1 in
    rw (p.1, p.2) (scans_then _ _ g.met.F.Feed.goes g.met.F.Feed.tells_before _ _ _ _ _ _ c.fragments.invariant.goes
    c.in_err-more.ensures.found
    (λ bytes mid rest few fewer go h.
    fragments_stop c.args.at.now.left bytes c.fragments.at.left mid c.in_err-more.field-0.0 go h))

pub returns-then-not-more-clause-found : goal.returns-then-not-more-clause-found
returns-then-not-more-clause-found g c =
    let ended : c.in_ok-more.more ≡ false = search rules in
    scans_then _ _ g.met.F.Feed.goes g.met.F.Feed.tells_before _ _ _ _ _ _ c.fragments.invariant.goes
    c.in_ok-more.ensures.found
    (λ bytes mid rest few fewer go h.
    let is = rw ended at h in
    (_, fragments_end c.args.at.now.left bytes c.fragments.at.left mid _ go is))

pub fragments-preserved : goal.fragments-preserved
fragments-preserved g c =
    let going : c.in_ok-more.more ≡ true = search rules in
    record {
      same = search rules;
      goes = scans_then _ _ g.met.F.Feed.goes g.met.F.Feed.tells_before _ _ _ _ _ _ c.fragments.invariant.goes
          c.in_ok-more.ensures.found
          (λ bytes mid rest few fewer go h.
          let is = rw going at h in
          fragments_go c.args.at.now.left bytes c.fragments.at.left mid c.skip_fragment.new.at.left rest go
          (fragment_steps c.fragments.at.left mid c.skip_fragment.new.at.left rest is.0 is.1));
      fewer = omega arith;
    }
