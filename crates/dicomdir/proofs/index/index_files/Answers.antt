-- The sources of the supply are the files at these paths.
use Rattle.std.proofs.Common.{◌∙◌, Some, length, refl, rules, sym}
use Rattle.std.specs.Prelude.{string_bytes}
use Rattle.std.proofs.lemmas.List.{length-map}
use Rattle.dicomdir.proofs.CountedFiles.{counts_past, counts_whole, same_counts, same_past}
use Rattle.dicomdir.proofs.ReadSources.{indexes_past, indexes_whole, no_plan_past, no_plan_whole}
use Rattle.dicomdir.specs.FileSupply.{counts_at}
use Rattle.dicomdir.proofs.index.index_files.Goals as goal

pub returns-then-making-clause-answers : goal.returns-then-making-clause-answers
returns-then-making-clause-answers g c = λ names have.
    let making = c.args.making in
    let made = c.new-supply.ensures in
    let count = c.requires.counted ∙ sym (length-map c.args.sources.now (λ word. string_bytes word)) in
    indexes_past _ making.keep_going making.names.now.choice making.max_bytes names c.args.sources.now
    making.bad_names.now (g.F.Files.held c.args.files.now) c.new-supply.result c.index_past_failures.new.supply have
    (rw made.counts count)
    (rw (made.files, made.paths) refl) (λ at there. rw (made.files, made.paths, made.bad_names) at there)
    c.if-making.true c.index_past_failures.result
    (rw c.of_bytes-limits.ensures at c.index_past_failures.ensures.answers)

pub returns-then-making-clause-grounds : goal.returns-then-making-clause-grounds
returns-then-making-clause-grounds g c = λ names have.
    let making = c.args.making in
    let made = c.new-supply.ensures in
    let count = c.requires.counted ∙ sym (length-map c.args.sources.now (λ word. string_bytes word)) in
    no_plan_past _ making.keep_going making.names.now.choice making.max_bytes names c.args.sources.now
    making.bad_names.now (g.F.Files.held c.args.files.now) c.new-supply.result c.index_past_failures.new.supply have
    (rw made.counts count)
    (rw (made.files, made.paths) refl) (λ at there. rw (made.files, made.paths, made.bad_names) at there)
    c.if-making.true c.index_past_failures.result
    (rw c.of_bytes-limits.ensures at c.index_past_failures.ensures.refused)

pub returns-then-making-clause-bytes : goal.returns-then-making-clause-bytes
returns-then-making-clause-bytes g c = λ names have.
    let making = c.args.making in
    let made = c.new-supply.ensures in
    let count = c.requires.counted ∙ sym (length-map c.args.sources.now (λ word. string_bytes word)) in
    same_past names _ c.index_past_failures.new.supply.counts.now c.index_past_failures.result
    (g.F.Files.held c.args.files.now) (search rules)
    (counts_past _ making.keep_going making.names.now.choice making.max_bytes names c.args.sources.now
    making.bad_names.now (g.F.Files.held c.args.files.now) c.new-supply.result c.index_past_failures.new.supply have
    (rw made.counts count)
    (rw (made.files, made.paths) refl) (λ at there. rw (made.files, made.paths, made.bad_names) at there)
    c.index_past_failures.new.supply.counts.now (λ at. refl) c.index_past_failures.result c.if-making.true
    (rw c.of_bytes-limits.ensures at c.index_past_failures.ensures.answers))

pub returns-in-Ok-clause-answers : goal.returns-in-Ok-clause-answers
returns-in-Ok-clause-answers g c = λ names have.
    let making = c.args.making in
    let made = c.new-supply.ensures in
    let count = c.requires.counted ∙ sym (length-map c.args.sources.now (λ word. string_bytes word)) in
    indexes_whole making.keep_going making.names.now.choice making.max_bytes names c.args.sources.now
    making.bad_names.now (g.F.Files.held c.args.files.now)
    (λ at. Some (counts_at c.index_with_notes.new.supply.counts.now at).bytes) (length c.args.counts.now) have count
    c.in-Ok.noted
    (rw (c.of_bytes-limits.ensures, made.files, made.paths, made.counts) at c.in-Ok.ensures.answers)
    (λ at within. (
      rw (made.files, made.paths, made.bad_names) at c.in-Ok.ensures.there tt at (rw made.counts within),
      rw (made.files, made.paths) at c.in-Ok.ensures.given tt at (rw made.counts within),
    ))

pub returns-in-Ok-clause-bytes : goal.returns-in-Ok-clause-bytes
returns-in-Ok-clause-bytes g c = λ names have.
    let making = c.args.making in
    let made = c.new-supply.ensures in
    let count = c.requires.counted ∙ sym (length-map c.args.sources.now (λ word. string_bytes word)) in
    same_counts names _ c.index_with_notes.new.supply.counts.now c.in-Ok.noted.indexed.picks.items
    (g.F.Files.held c.args.files.now) (search rules)
    (counts_whole making.keep_going making.names.now.choice making.max_bytes names c.args.sources.now
    making.bad_names.now (g.F.Files.held c.args.files.now) c.index_with_notes.new.supply.counts.now
    (length c.args.counts.now) have count c.in-Ok.noted
    (rw (c.of_bytes-limits.ensures, made.files, made.paths, made.counts) at c.in-Ok.ensures.answers)
    (λ at within. (
      rw (made.files, made.paths, made.bad_names) at c.in-Ok.ensures.there tt at (rw made.counts within),
      rw (made.files, made.paths) at c.in-Ok.ensures.given tt at (rw made.counts within),
    )))

pub returns-clause-grounds : goal.returns-clause-grounds
returns-clause-grounds g c = λ names have fault is.
    let making = c.args.making in
    let made = c.new-supply.ensures in
    let count = c.requires.counted ∙ sym (length-map c.args.sources.now (λ word. string_bytes word)) in
    no_plan_whole making.keep_going making.names.now.choice making.max_bytes names c.args.sources.now
    making.bad_names.now (g.F.Files.held c.args.files.now)
    (λ at. Some (counts_at c.index_with_notes.new.supply.counts.now at).bytes) (length c.args.counts.now) have count
    c.in-Err.noted.fault c.in-Err.noted.conflict fault
    (rw (c.of_bytes-limits.ensures, made.files, made.paths, made.counts) at c.in-Err.ensures.answers)
    (λ reads at within. (
      rw (made.files, made.paths, made.bad_names) at c.in-Err.ensures.there reads at (rw made.counts within),
      rw (made.files, made.paths) at c.in-Err.ensures.given reads at (rw made.counts within),
    )) (c.said.ensures.plan fault is ∙ is)

pub returns-clause-named : goal.returns-clause-named
returns-clause-named g c = c.said.ensures.named (length c.args.sources.now)
    (rw (c.new-supply.ensures.counts, c.requires.counted) at c.in-Err.ensures.named)

pub new-supply-requires-clause-rising : goal.new-supply-requires-clause-rising
new-supply-requires-clause-rising g c = c.requires.named.1.rising
