-- Where a command runs, no path is empty.
use Rattle.std.proofs.Common.{ℕ, arith, inl, inr, refl, rules, subst}
use Rattle.dd_line.specs.Requests.{written_of}
use Rattle.dd_inputs.specs.EmptyPaths.{IsEmptyAt}
use Rattle.dicomdir.proofs.EmptyWords.{folder_seen, none_empty, some_empty}
use Rattle.dicomdir.proofs.RefusedRuns.{refused_empty, refused_names}
use Rattle.dicomdir.proofs.program.run_request.Goals as goal

pub returns-clause-empty : goal.returns-clause-empty
returns-clause-empty g c = λ has. absurd (none_empty c.args.request.now
    (folder_seen (written_of c.args.request.now) c.written_in.result c.written_in.ensures
    (c.in-None.ensures.folders refl))
    (subst (λ paths. (at : ℕ) → ¬ IsEmptyAt paths at) c.paths_of-paths.ensures.sources
    (c.in-None.ensures.sources refl)) has)

pub returns-clause-status : goal.returns-clause-status
returns-clause-status g c = elim c.run_named.ensures.status [
  | inl few ↦ record {
    most = omega (arith, few);
    findings = λ three. absurd (omega (arith, few, three));
    bad = λ two. absurd (omega (arith, few, two));
    good = λ zero. c.in-Ok.ensures.good refl;
  }
  | inr found ↦ record {
    most = omega (arith, found.0);
    findings = λ three. found.1;
    bad = λ two. absurd (omega (arith, found.0, two));
    good = λ zero. absurd (omega (arith, found.0, zero));
  }
]

pub returns-in-Err-clause-status : goal.returns-in-Err-clause-status
returns-in-Err-clause-status g c = record {
  most = search (rules, arith);
  findings = search (rules, arith);
  bad = search (rules, arith);
  good = search (rules, arith);
}

-- What was refused has a reason.
pub returns-in-Err-clause-refused : goal.returns-in-Err-clause-refused
returns-in-Err-clause-refused g c = λ one. inr
    (refused_names g.F.In.Read g.E.Write c.args.request.now _ _ _ _ _ _ _ c.in-Err.fault c.tell_with_hints.result _ _ _
    one (λ bad. c.tell_with_hints.ensures.line.1 (rw c.general-refusal.ensures bad)) c.in-Err.ensures.fault
    (rw c.general-refusal.ensures at c.tell_with_hints.ensures.told))

pub returns-in-Some-clause-refused : goal.returns-in-Some-clause-refused
returns-in-Some-clause-refused g c = λ one. inr
    (refused_empty g.F.In.Read g.E.Write c.args.request.now _ _ _ _ _ _ _ c.in-Some.refusal
    (some_empty c.args.request.now c.written_in.result c.written_in.ensures
    (rw c.paths_of-paths.ensures.sources at c.in-Some.ensures.some)) c.in-Some.ensures.fault
    (rw (c.paths_of-paths.ensures.folder, c.paths_of-paths.ensures.sources) at c.tell_empty.ensures.told))
