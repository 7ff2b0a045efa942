use Rattle.std.proofs.Common.{inl, inr, sym}
use Rattle.std.specs.Prelude.{length}
use Rattle.dicomdir.proofs.RefusedRuns.{refused_before, refused_in}
use Rattle.dicomdir.proofs.program.run_named.Goals as goal

pub tell_refusal-requires : goal.tell_refusal-requires
tell_refusal-requires g c = c.in-Err.ensures.refusal (length c.paths_of-given.result.sources.now)

-- What is made is of the sources that the line and its list give.
pub returns-in-Ok-run_verb-clause-made : goal.returns-in-Ok-run_verb-clause-made
returns-in-Ok-run_verb-clause-made g c = λ makes done.
    let found = c.in-Ok.ensures.listed in
    record {
      sources = found.sources;
      are = found.are;
      made = rw (c.silence_quiet.ensures.kept, c.all_sources.ensures.kept) at
          c.in-Ok-run_verb.ensures.made found.sources
          (rw (c.paths_or-sources.ensures, c.paths_of-given.ensures.sources, c.bad_names_in.ensures) found.have) makes done;
    }

-- What is printed is of these, too.
pub returns-in-Ok-run_verb-clause-says : goal.returns-in-Ok-run_verb-clause-says
returns-in-Ok-run_verb-clause-says g c = λ done.
    let found = c.in-Ok.ensures.listed in
    record {
      sources = found.sources;
      are = found.are;
      says = rw (c.silence_quiet.ensures.kept, c.all_sources.ensures.kept) at
          c.in-Ok-run_verb.ensures.says found.sources
          (rw (c.paths_or-sources.ensures, c.paths_of-given.ensures.sources, c.bad_names_in.ensures) found.have) done;
    }

-- So is what is staged.
pub returns-in-Ok-run_verb-clause-staged : goal.returns-in-Ok-run_verb-clause-staged
returns-in-Ok-run_verb-clause-staged g c = λ done.
    let found = c.in-Ok.ensures.listed in
    record {
      names = found.sources;
      are = found.are;
      staged = rw (c.silence_quiet.ensures.kept, c.all_sources.ensures.kept) at
          c.in-Ok-run_verb.ensures.staged found.sources
          (rw (c.paths_or-sources.ensures, c.paths_of-given.ensures.sources, c.bad_names_in.ensures) found.have) done;
    }

pub run_verb-requires-clause-named : goal.run_verb-requires-clause-named
run_verb-requires-clause-named g c =
    let found = c.in-Ok.ensures.listed in
    (found.sources, rw (c.paths_or-sources.ensures, c.paths_of-given.ensures.sources, c.bad_names_in.ensures) found.have)

pub run_verb-requires-clause-none : goal.run_verb-requires-clause-none
run_verb-requires-clause-none g c = rw c.bad_names_in.ensures c.in-Ok.ensures.listed.none

-- What was refused has a reason.
pub returns-in-Err-clause-refused : goal.returns-in-Err-clause-refused
returns-in-Err-clause-refused g c = λ one. inr
    (refused_before g.F.In.Read g.E.Write c.args.work.request.now _ _ _ _ _ _ _ c.in-Err.refusal _
    c.tell_refusal.ensures.counts.0 c.in-Err.ensures.due
    (rw (c.paths_of-given.ensures.folder, c.paths_of-given.ensures.sources) at c.tell_refusal.ensures.told))

pub returns-in-Ok-run_verb-clause-refused : goal.returns-in-Ok-run_verb-clause-refused
returns-in-Ok-run_verb-clause-refused g c = λ one. inl (c.in-Ok-run_verb.ensures.failed one)

pub returns-clause-refused : goal.returns-clause-refused
returns-clause-refused g c = λ one.
    let told = c.tell_refusal-in-Err-run_verb.ensures in
    let found = c.in-Ok.ensures.listed in
    let names = c.requires in
    inr (refused_in g.F.In.Read g.E.Write c.args.work.request.now _ _ _ _ _ _ _ c.in-Err-run_verb.refusal _ _ _
    told.counts.0 told.counts.1 c.in-Err-run_verb.ensures.due
    (record {
      names = found.sources;
      are = found.are;
      grounds = rw (sym told.kept) at
          (rw (c.silence_quiet.ensures.kept, c.all_sources.ensures.kept, names.chooses, names.withdraws) at
          c.in-Err-run_verb.ensures.grounds found.sources
          (rw (c.paths_or-sources.ensures, c.paths_of-given.ensures.sources, c.bad_names_in.ensures) found.have));
    })
    (inr (_, found))
    (rw (c.paths_of-given.ensures.folder, c.paths_or-sources.ensures, c.paths_of-given.ensures.sources) at told.told))
