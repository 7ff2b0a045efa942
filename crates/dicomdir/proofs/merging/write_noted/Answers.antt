-- What was made is made where the command is done: the file-set of all picks.
use Rattle.std.proofs.Common.{◌≡◌, rules, true}
use Rattle.std.proofs.lemmas.Result.{err_from_is_err_and}
use Rattle.std.specs.Prelude.{IsOk, None, Ok}
use Rattle.dd_line.specs.Line.{words_of}
use Rattle.dicomdir.proofs.EngineMade.{once_done}
use Rattle.dicomdir.proofs.MadeGrounds.{noted_by, noted_grounds, strict_grounds}
use Rattle.dicomdir.proofs.PrintedLines.{said_both, unnoted, unwithdrawn}
use Rattle.dicomdir.proofs.SaidLines.{on_ok_gives}
use Rattle.dd_faults.specs.Grounds.{GroundsOfMaking}
use Rattle.dicomdir.specs.Grounds.{HasUnfitImage}
use Rattle.dicomdir.specs.Noted.{IsNoted}
use Rattle.dicomdir.specs.Origins.{IsMemberPath}
use Rattle.dicomdir.specs.Prints.{last_line}
use Rattle.dd_faults.specs.declared.refusal.Refusal.{Refusal}
use Rattle.dicomdir.proofs.merging.write_noted.Goals as goal

pub returns-clause-made : goal.returns-clause-made
returns-clause-made g c = λ makes.
    once_done c.make_file_set.result _ (rw (c.deref.ensures.value, c.keep_dates.ensures.kept) at c.make_file_set.ensures.made)

pub returns-clause-printed : goal.returns-clause-printed
returns-clause-printed g c =
    let making = c.args.making in
    let noted = c.args.noted.now in
    let ok : IsOk c.tell_noted.result = search rules in
    let strict = unnoted making.strict c.is_noted.result (IsNoted noted) c.in_ok-refuse_noted.ensures.refuses
    c.is_noted.ensures in
    said_both g.O.Write c.make_file_set.result making.style making.strict (words_of c.args.sets.now.folders.now) noted
    c.args.out.now c.tell_noted.new.out c.make_file_set.new.out
    (last_line making.style making.dry_run noted.merged.plan)
    (on_ok_gives c.tell_noted.result ok (c.tell_noted.ensures.said (unwithdrawn making.strict noted strict))) strict
    (rw c.if-making.false c.make_file_set.ensures.printed)

pub returns-then-making-clause-printed : goal.returns-then-making-clause-printed
returns-then-making-clause-printed g c =
    let making = c.args.making in
    let noted = c.args.noted.now in
    let ok : IsOk c.tell_noted.result = search rules in
    let strict = unnoted making.strict c.is_noted.result (IsNoted noted) c.in_ok-refuse_noted.ensures.refuses
    c.is_noted.ensures in
    said_both {E = Refusal} g.O.Write (Ok c.tell_counts.result) making.style making.strict
    (words_of c.args.sets.now.folders.now) noted c.args.out.now c.tell_noted.new.out c.tell_counts.new.out
    (last_line making.style making.dry_run noted.merged.plan)
    (on_ok_gives c.tell_noted.result ok (c.tell_noted.ensures.said (unwithdrawn making.strict noted strict))) strict
    (rw c.if-making.true c.tell_counts.ensures.done)

pub returns-clause-grounds : goal.returns-clause-grounds
returns-clause-grounds g c =
    noted_grounds c.make_file_set.result (HasUnfitImage (IsMemberPath (words_of c.args.sets.now.folders.now))
    (λ _ _. c.args.sets.now.link ≡ true) (λ _. None) (c.args.sets.now.link ≡ true) c.args.noted.now.merged.plan
    c.args.noted.now.merged.picks.items (g.F.Files.held c.make_file_set.new.files)) (IsNoted c.args.noted.now)
    (rw c.deref.ensures.value at c.make_file_set.ensures.grounds)

pub returns-in_err-refuse_noted-clause-grounds : goal.returns-in_err-refuse_noted-clause-grounds
returns-in_err-refuse_noted-clause-grounds g c =
    let p = err_from_is_err_and c.from_residual.result c.from_residual.ensures.1 in
    let refused = c.in_err-refuse_noted.ensures in
    let unfit = HasUnfitImage (IsMemberPath (words_of c.args.sets.now.folders.now))
    (λ _ _. c.args.sets.now.link ≡ true) (λ _. None) (c.args.sets.now.link ≡ true) c.args.noted.now.merged.plan
    c.args.noted.now.merged.picks.items (g.F.Files.held c.args.files.now) in
    rw (p.1, p.2) (strict_grounds (GroundsOfMaking unfit (IsNoted c.args.noted.now)) c.in_err-refuse_noted.field-0.0
    refused.fault (noted_by c.args.making.strict c.is_noted.result (IsNoted c.args.noted.now) refused.refuses
    c.is_noted.ensures))
