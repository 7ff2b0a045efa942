-- What was made is of the answer of the engine, whose sources are the files as they were.
use Rattle.std.proofs.Common.{◌≡◌, ◌∙◌, refl, rules, sym}
use Rattle.std.proofs.lemmas.Result.{err_from_is_err_and}
use Rattle.std.specs.Prelude.{IsOk}
use Rattle.dd_line.specs.Line.{words_of}
use Rattle.dicomdir.proofs.IndexGrounds.{engine_grounds, index_made, index_noted}
use Rattle.dicomdir.proofs.MadeGrounds.{noted_by}
use Rattle.dicomdir.proofs.PastFailures.{at_most_one, done_index, index_status}
use Rattle.dicomdir.proofs.CountedFiles.{take_first}
use Rattle.dicomdir.proofs.PrintedLines.{images_counted, index_prints, unnoted}
use Rattle.dicomdir.proofs.SaidLines.{on_ok_gives}
use Rattle.dicomdir.specs.Noted.{IsNotedIndex}
use Rattle.dicomdir.proofs.index.index_sources.Goals as goal

pub returns-clause-made : goal.returns-clause-made
returns-clause-made g c = λ names have makes.
    let making = c.args.making in
    rw (c.status_past-2.ensures, c.deref-3.ensures.value) (done_index making.names.now.choice making.max_bytes names _
    c.in-Ok.past.noted making.keep_going c.in_ok-status.status (words_of c.args.sources.now) making.bad_names.now
    making.folder.now _ c.in_ok-status.ensures.status have
    (rw c.begin_step.ensures.kept at c.in-Ok.ensures.answers names have)
    (rw (
      c.deref-2.ensures.value,
      c.keep_dates.ensures.kept,
      c.hide_line.ensures.kept,
      c.index_files-answer.ensures.kept,
      c.begin_step.ensures.kept,
    ) at c.in_ok-status.ensures.made refl))

pub returns-clause-status : goal.returns-clause-status
returns-clause-status g c =
    let making = c.args.making in
    rw (c.status_past-2.ensures, c.deref-3.ensures.value) (index_status making.names.now.choice making.max_bytes
    c.requires.0 _ c.in-Ok.past.noted making.keep_going c.in_ok-status.status
    c.in_ok-status.ensures.status (c.in-Ok.ensures.answers c.requires.0 c.requires.1))

pub returns-then-making-clause-status : goal.returns-then-making-clause-status
returns-then-making-clause-status g c =
    let making = c.args.making in
    rw (c.status_past.ensures, c.deref-then-making-2.ensures.value) (index_status making.names.now.choice
    making.max_bytes c.requires.0 _ c.in-Ok.past.noted making.keep_going
    c.tell_plan_of_images-status.result
    (at_most_one c.tell_plan_of_images-status.result c.tell_plan_of_images-status.ensures.status)
    (c.in-Ok.ensures.answers c.requires.0 c.requires.1))

pub returns-clause-printed : goal.returns-clause-printed
returns-clause-printed g c = λ names have.
    let making = c.args.making in
    let noted = c.in-Ok.past.noted in
    let ok : IsOk c.tell_noted.result = search rules in
    rw (c.status_past-2.ensures, c.deref-3.ensures.value) (index_prints g.O.Write making.style making.dry_run
    making.strict making.keep_going making.names.now.choice making.max_bytes names (words_of c.args.sources.now)
    making.bad_names.now _ noted c.args.out.now c.tell_noted.new.out c.make_file_set.new.out _
    c.in_ok-status.status have (rw c.begin_step.ensures.kept at c.in-Ok.ensures.answers names have)
    (on_ok_gives c.tell_noted.result ok c.tell_noted.ensures.told)
    (unnoted making.strict c.is_noted.result (IsNotedIndex noted) c.in_ok-refuse_noted.ensures.refuses
    c.is_noted.ensures) (rw c.if-making.false refl)
    c.in_ok-status.ensures.printed c.in_ok-status.ensures.status)

pub returns-then-making-clause-printed : goal.returns-then-making-clause-printed
returns-then-making-clause-printed g c = λ names have.
    let making = c.args.making in
    let noted = c.in-Ok.past.noted in
    let ok : IsOk c.tell_noted.result = search rules in
    let planned = c.tell_plan_of_images-status in
    let read : c.deref-then-making.result.now ≡ c.index_files-answer.new.counts =
    c.deref-then-making.ensures.value ∙ take_first c.in_ok-counts.counts.len c.index_files-answer.new.counts _
    (sym c.deref_mut.ensures.len ∙ sym c.index_files-answer.ensures.counted) in
    rw (c.status_past.ensures, c.deref-then-making-2.ensures.value) (index_prints g.O.Write making.style
    making.dry_run making.strict making.keep_going making.names.now.choice making.max_bytes names
    (words_of c.args.sources.now) making.bad_names.now _ noted c.args.out.now c.tell_noted.new.out
    planned.new.out _ planned.result have (rw c.begin_step.ensures.kept at c.in-Ok.ensures.answers names have)
    (on_ok_gives c.tell_noted.result ok c.tell_noted.ensures.told)
    (unnoted making.strict c.is_noted.result (IsNotedIndex noted) c.in_ok-refuse_noted.ensures.refuses
    c.is_noted.ensures) (rw c.if-making.true (
      c.bytes_of-images.result,
      images_counted (g.F.Files.held c.args.files.now) names c.index_files-answer.new.counts noted.indexed.picks.items
          c.bytes_of-images.result
          (rw (read, c.deref.ensures.value) at c.bytes_of-images.ensures)
          (rw c.begin_step.ensures.kept at c.in-Ok.ensures.bytes names have),
      refl,
    )) planned.ensures.done
    (at_most_one planned.result planned.ensures.status))

pub returns-in-Err-clause-grounds : goal.returns-in-Err-clause-grounds
returns-in-Err-clause-grounds g c = λ names have.
    let making = c.args.making in
    rw c.refuse.ensures.found (engine_grounds making.keep_going making.names.now.choice making.max_bytes names _ _
    c.in-Err.fault.fault (rw c.begin_step.ensures.kept at c.in-Err.ensures.grounds names have))

pub returns-in_err-status-clause-grounds : goal.returns-in_err-status-clause-grounds
returns-in_err-status-clause-grounds g c = λ names have.
    let making = c.args.making in
    let p = err_from_is_err_and c.from_residual-in_err-status.result c.from_residual-in_err-status.ensures.1 in
    rw (p.1, p.2) (index_made making.keep_going making.names.now.choice making.max_bytes names _ _
    (words_of c.args.sources.now) making.bad_names.now c.in-Ok.past.noted have
    (rw c.begin_step.ensures.kept at c.in-Ok.ensures.answers names have) c.in_err-status.field-0.0.fault
    (rw c.deref-2.ensures.value at c.in_err-status.ensures.grounds))

pub returns-in_err-refuse_noted-clause-grounds : goal.returns-in_err-refuse_noted-clause-grounds
returns-in_err-refuse_noted-clause-grounds g c = λ names have.
    let making = c.args.making in
    let noted = c.in-Ok.past.noted in
    let refused = c.in_err-refuse_noted.ensures in
    let p = err_from_is_err_and c.from_residual-in_err-refuse_noted.result
    c.from_residual-in_err-refuse_noted.ensures.1 in
    rw (p.1, p.2) (index_noted making.keep_going making.names.now.choice making.max_bytes names _ _
    c.in_err-refuse_noted.field-0.0 noted refused.fault
    (rw c.begin_step.ensures.kept at c.in-Ok.ensures.answers names have)
    (noted_by making.strict c.is_noted.result (IsNotedIndex noted) refused.refuses c.is_noted.ensures))
