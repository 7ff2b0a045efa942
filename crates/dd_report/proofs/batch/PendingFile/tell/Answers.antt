-- The line is one only where something is found.
use Rattle.std.proofs.Common.{ℕ, List, None, Some, refl, subst}
use Rattle.dd_report.specs.Batches.{digest_line}
use Rattle.dd_lines.specs.Telling.{Tells, way_of}
use Rattle.dd_report.proofs.Batching.{differs_found, finding_goes, finding_says, none_goes_on, none_says}
use Rattle.dd_report.proofs.Batching.{otherwise_found}
use Rattle.dd_report.proofs.Batching.{said_found}
use Rattle.dd_report.proofs.batch.PendingFile.tell.Goals as goal

pub returns-in-Some-clause-told : goal.returns-in-Some-clause-told
returns-in-Some-clause-told g c =
    let one = c.args.self.now in
    subst (λ (text : List ℕ). Tells c.tell_found.result text (way_of g.W.Write c.args.lines.now)
    (way_of g.W.Write c.tell_found.new.lines))
    (finding_goes one.named one.expected c.args.digest (Some c.in-Some.differs)
    (differs_found one.expected c.args.digest c.digest_finding.result c.in-Some.differs c.digest_finding.ensures
    c.in-Some.is)
    c.in-Some.differs refl) c.tell_found.ensures.told

pub returns-in-Some-clause-found : goal.returns-in-Some-clause-found
returns-in-Some-clause-found g c =
    let one = c.args.self.now in
    said_found c.tell_found.result (digest_line one.named one.expected c.args.digest) c.tell_found.ensures.found
    (finding_says one.named one.expected c.args.digest (Some c.in-Some.differs)
    (differs_found one.expected c.args.digest c.digest_finding.result c.in-Some.differs c.digest_finding.ensures
    c.in-Some.is)
    c.in-Some.differs refl)

pub returns-in-Some-otherwise-clause-told : goal.returns-in-Some-otherwise-clause-told
returns-in-Some-otherwise-clause-told g c =
    let one = c.args.self.now in
    subst (λ (text : List ℕ). Tells c.tell_found-in-Some-otherwise.result text (way_of g.W.Write c.args.lines.now)
    (way_of g.W.Write c.tell_found-in-Some-otherwise.new.lines))
    (finding_goes one.named one.expected c.args.digest (Some c.in-Some-otherwise.finding)
    (otherwise_found one.expected c.args.digest c.digest_finding.result (Some c.in-Some-otherwise.finding)
    c.digest_finding.ensures c.in_default.is c.in-Some-otherwise.is)
    c.in-Some-otherwise.finding refl) c.tell_found-in-Some-otherwise.ensures.told

pub returns-in-Some-otherwise-clause-found : goal.returns-in-Some-otherwise-clause-found
returns-in-Some-otherwise-clause-found g c =
    let one = c.args.self.now in
    said_found c.tell_found-in-Some-otherwise.result (digest_line one.named one.expected c.args.digest)
    c.tell_found-in-Some-otherwise.ensures.found
    (finding_says one.named one.expected c.args.digest (Some c.in-Some-otherwise.finding)
    (otherwise_found one.expected c.args.digest c.digest_finding.result (Some c.in-Some-otherwise.finding)
    c.digest_finding.ensures c.in_default.is c.in-Some-otherwise.is)
    c.in-Some-otherwise.finding refl)

pub returns-in-None-clause-told : goal.returns-in-None-clause-told
returns-in-None-clause-told g c =
    let one = c.args.self.now in
    none_goes_on one.named one.expected c.args.digest None
    (otherwise_found one.expected c.args.digest c.digest_finding.result None c.digest_finding.ensures c.in_default.is
    c.in-None.is) (way_of g.W.Write c.args.lines.now) refl

pub returns-in-None-clause-found : goal.returns-in-None-clause-found
returns-in-None-clause-found g c =
    let one = c.args.self.now in
    none_says one.named one.expected c.args.digest None
    (otherwise_found one.expected c.args.digest c.digest_finding.result None c.digest_finding.ensures c.in_default.is
    c.in-None.is) refl
