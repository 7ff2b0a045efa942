use Rattle.std.proofs.Common.{Err, Ok, subst, sym, ℕ}
use Rattle.dd_engine.specs.Indexed.{IsWithin}
use Rattle.dd_engine.specs.Noting.{AreBelow, IsBelow}
use Rattle.dd_sources.specs.Readings.{answers_of}
use Rattle.dd_sources.specs.Supply.{Holds}
use Rattle.dd_sources.proofs.PassedSources.{many_answers}
use Rattle.dd_engine.proofs.PassedSources.{refuses_past}
use Rattle.dd_engine.proofs.SourcesNoted.{conflict_below, indexed_within, notes_below, sources_found}
use Rattle.dd_engine.proofs.past_failures.index_past_failures.Goals as goal

pub returns-in-Ok-clause-within : goal.returns-in-Ok-clause-within
returns-in-Ok-clause-within g c =
    let read = c.in_ok-read_past_failures.ensures.read in
    let held = subst (λ p. Holds (answers_of read.0) p.0) (sym c.into_parts-sources.ensures) read.2 in
    subst (λ (n : ℕ). IsWithin n c.in-Ok.noted.indexed) (many_answers read.0 _ read.1.count)
    (indexed_within c.args.choice.now c.args.limits (answers_of read.0) (Ok c.in-Ok.noted)
    (c.in-Ok.ensures (answers_of read.0) held))

pub returns-in-Ok-clause-below : goal.returns-in-Ok-clause-below
returns-in-Ok-clause-below g c =
    let read = c.in_ok-read_past_failures.ensures.read in
    let held = subst (λ p. Holds (answers_of read.0) p.0) (sym c.into_parts-sources.ensures) read.2 in
    subst (λ (n : ℕ). AreBelow (λ at. at) n c.in-Ok.noted.notes.left_out.items) (many_answers read.0 _ read.1.count)
    (notes_below c.args.choice.now c.args.limits (answers_of read.0) (Ok c.in-Ok.noted)
    (c.in-Ok.ensures (answers_of read.0) held))

pub returns-in-Err-clause-conflict : goal.returns-in-Err-clause-conflict
returns-in-Err-clause-conflict g c =
    let read = c.in_ok-read_past_failures.ensures.read in
    let held = subst (λ p. Holds (answers_of read.0) p.0) (sym c.into_parts-sources.ensures) read.2 in
    subst (λ (n : ℕ). IsBelow (λ at. at) n c.in-Err.noted.conflict) (many_answers read.0 _ read.1.count)
    (conflict_below c.args.choice.now c.args.limits (answers_of read.0) (Err c.in-Err.noted)
    (c.in-Err.ensures (answers_of read.0) held))

pub returns-in-Err-clause-found : goal.returns-in-Err-clause-found
returns-in-Err-clause-found g c =
    let read = c.in_ok-read_past_failures.ensures.read in
    let held = subst (λ p. Holds (answers_of read.0) p.0) (sym c.into_parts-sources.ensures) read.2 in
    sources_found c.args.choice.now c.args.limits (answers_of read.0) (Err c.in-Err.noted)
    (c.in-Err.ensures (answers_of read.0) held)

pub returns-in-Err-clause-refused : goal.returns-in-Err-clause-refused
returns-in-Err-clause-refused g c =
    let read = c.in_ok-read_past_failures.ensures.read in
    let held = subst (λ p. Holds (answers_of read.0) p.0) (sym c.into_parts-sources.ensures) read.2 in
    let h = c.in-Err.ensures (answers_of read.0) held in
    refuses_past g.S.Supply c.args.choice.now c.args.limits c.args.file_limit c.in-Err.noted.fault
    c.in-Err.noted.conflict _ _ read.0 read.1 h.0 h.1
