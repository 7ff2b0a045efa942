-- What was made and printed is of the answer of the engine on what the lists of the piles say.
use Rattle.std.proofs.Common.{◌≡◌, Err, length, refl, rules, string_bytes, true}
use Rattle.std.proofs.lemmas.List.{length-map}
use Rattle.std.proofs.lemmas.Result.{err_from_is_err_and}
use Rattle.std.specs.Prelude.{IsOk}
use Rattle.dd_engine.specs.Indexed.{IsWithin}
use Rattle.dd_engine.specs.Noting.{AreBelow, IsBelow}
use Rattle.dd_line.specs.Line.{words_of}
use Rattle.dicomdir.proofs.GroundedPiles.{piles_have_none, piles_made, publish_noted}
use Rattle.dicomdir.proofs.MadeGrounds.{noted_by}
use Rattle.dicomdir.proofs.PastFailures.{at_most_one}
use Rattle.dicomdir.proofs.PilesMade.{all_in_piles, done_publish, have_places, of_names, publish_prints}
use Rattle.dicomdir.proofs.PrintedLines.{unnoted}
use Rattle.dicomdir.proofs.SaidLines.{on_ok_gives}
use Rattle.dd_file_set.specs.Made.{MakesFileSet}
use Rattle.dd_faults.specs.Grounds.{GroundsOfMaking}
use Rattle.dicomdir.specs.Grounds.{HasUnfitImage}
use Rattle.dicomdir.specs.Noted.{IsNotedIndex}
use Rattle.dicomdir.specs.Publishes.{IsCopyAt, MayLinkAt, said_at}
use Rattle.dicomdir.proofs.publishing.publish_piles.Goals as goal

pub refuse-requires : goal.refuse-requires
refuse-requires g c =
    let conflict = c.in-Err.fault.conflict in
    rw c.deref.ensures.value (of_names (words_of c.args.piles.now) _ c.in_ok-names.field-0
    (λ count. IsBelow (λ at. at) count conflict) c.in_ok-names.ensures.piled c.in-Err.ensures.conflict)

pub returns-in-Err-clause-refusal : goal.returns-in-Err-clause-refusal
returns-in-Err-clause-refusal g c = c.refuse.ensures.work (length c.args.piles.now)

pub tell_noted-requires : goal.tell_noted-requires
tell_noted-requires g c =
    let piles = words_of c.args.piles.now in
    let noted = c.in-Ok.past.noted in
    record {
      within = rw c.deref-3.ensures.value (of_names piles _ c.in_ok-names.field-0
          (λ count. IsWithin count noted.indexed) c.in_ok-names.ensures.piled c.in-Ok.ensures.within);
      below = rw c.deref-3.ensures.value (of_names piles _ c.in_ok-names.field-0
          (λ count. AreBelow (λ at. at) count noted.notes.left_out.items) c.in_ok-names.ensures.piled
          c.in-Ok.ensures.below);
    }

pub invariant_of-set : goal.invariant_of-set
invariant_of-set g c =
    let piles = c.args.piles.now in
    record {
      in_piles = rw c.deref-5.ensures.value (all_in_piles (words_of piles) (length piles) _ c.in_ok-names.field-0
          (length-map piles (λ word. string_bytes word)) c.in_ok-names.ensures.piled);
    }

pub invariant_of-set-2 : goal.invariant_of-set-2
invariant_of-set-2 g c = record {
  within = rw (c.deref-5.ensures.value, c.deref-7.ensures.value) (have_places (words_of c.args.piles.now) _
      c.in_ok-names.field-0 c.in-Ok.past.noted.indexed.picks.items c.in_ok-names.ensures.piled
      (λ answers found. (c.in-Ok.ensures.within answers found).picks));
}

pub returns-clause-made : goal.returns-clause-made
returns-clause-made g c = λ makes.
    let making = c.args.making in
    let piles = words_of c.args.piles.now in
    let noted = c.in-Ok.past.noted in
    let made : MakesFileSet (IsCopyAt piles c.deref-5.result.now)
    (MayLinkAt (making.link ≡ true) c.deref-5.result.now)
    (said_at c.deref-6.result.now) making.folder.now noted.indexed.plan c.deref-7.result.now
    (g.F.Files.held c.keep_dates.new.files) (g.F.Files.held c.make_file_set.new.files) =
    c.in_ok-status.ensures.made refl in
    rw (c.status_past-2.ensures, c.deref-8.ensures.value) (done_publish making.names.now.choice making.max_bytes piles
    c.in_ok-names.field-0 noted c.in_ok-status.status (making.link ≡ true) making.folder.now _ _
    c.in_ok-status.ensures.status c.in_ok-names.ensures.piled c.in-Ok.ensures.notes (rw (
      c.deref-5.ensures.value,
      c.deref-6.ensures.value,
      c.deref-7.ensures.value,
      c.keep_dates.ensures.kept,
      c.read_piles.ensures.kept,
    ) at made))

pub returns-clause-printed : goal.returns-clause-printed
returns-clause-printed g c =
    let making = c.args.making in
    let noted = c.in-Ok.past.noted in
    let ok : IsOk c.tell_noted.result = search rules in
    rw (c.status_past-2.ensures, c.deref-8.ensures.value) (publish_prints making.names.now.choice making.max_bytes
    (words_of c.args.piles.now) c.in_ok-names.field-0 noted g.O.Write c.in_ok-status.status making.style making.dry_run
    making.strict _ c.args.out.now c.tell_noted.new.out c.make_file_set.new.out c.in_ok-names.ensures.piled
    c.in-Ok.ensures.notes (on_ok_gives c.tell_noted.result ok (rw c.deref-3.ensures.value at c.tell_noted.ensures.told))
    (unnoted making.strict c.is_noted.result (IsNotedIndex noted) c.in_ok-refuse_noted.ensures.refuses
    c.is_noted.ensures) (rw c.if-making.false c.in_ok-status.ensures.printed) c.in_ok-status.ensures.status)

pub returns-then-making-clause-printed : goal.returns-then-making-clause-printed
returns-then-making-clause-printed g c =
    let making = c.args.making in
    let noted = c.in-Ok.past.noted in
    let ok : IsOk c.tell_noted.result = search rules in
    let planned = c.tell_plan_of_images-status in
    rw (c.status_past.ensures, c.deref-then-making-3.ensures.value) (publish_prints making.names.now.choice
    making.max_bytes (words_of c.args.piles.now) c.in_ok-names.field-0 noted g.O.Write planned.result making.style
    making.dry_run making.strict _ c.args.out.now c.tell_noted.new.out planned.new.out c.in_ok-names.ensures.piled
    c.in-Ok.ensures.notes
    (on_ok_gives c.tell_noted.result ok (rw c.deref-3.ensures.value at c.tell_noted.ensures.told))
    (unnoted making.strict c.is_noted.result (IsNotedIndex noted) c.in_ok-refuse_noted.ensures.refuses
    c.is_noted.ensures) (rw c.if-making.true (rw (
      c.bytes_of-images.ensures,
      c.deref-then-making.ensures.value,
      c.deref-then-making-2.ensures.value,
    ) at planned.ensures.done)) (at_most_one planned.result planned.ensures.status))

pub returns-in_err-names-clause-due : goal.returns-in_err-names-clause-due
returns-in_err-names-clause-due g c =
    let is : c.from_residual.result ≡ Err c.in_err-names.field-0.0 = search rules in
    rw is (c.in_err-names.ensures.due c.args.making.strict)

pub returns-in_err-names-clause-grounds : goal.returns-in_err-names-clause-grounds
returns-in_err-names-clause-grounds g c =
    let is : c.from_residual.result ≡ Err c.in_err-names.field-0.0 = search rules in
    rw is (c.in_err-names.ensures.grounds c.args.making.names.now.choice c.args.making.max_bytes c.args.making.link _)

pub returns-in-Err-clause-grounds : goal.returns-in-Err-clause-grounds
returns-in-Err-clause-grounds g c =
    let choice = c.args.making.names.now.choice in
    let bytes = c.args.making.max_bytes in
    let piles = words_of c.args.piles.now in
    let held = g.F.Files.held c.args.files.now in
    c.refuse.ensures.grounds choice bytes piles c.args.making.link held _
    (λ fault is. piles_have_none choice bytes piles held c.in_ok-names.field-0 c.in-Err.fault.fault fault is
    c.in_ok-names.ensures.piled c.in-Err.ensures.refused)

pub returns-in_err-status-clause-grounds : goal.returns-in_err-status-clause-grounds
returns-in_err-status-clause-grounds g c =
    let making = c.args.making in
    let piles = words_of c.args.piles.now in
    let noted = c.in-Ok.past.noted in
    let refusal = c.in_err-status.field-0.0 in
    let p = err_from_is_err_and c.from_residual-in_err-status.result c.from_residual-in_err-status.ensures.1 in
    let grounds : GroundsOfMaking (HasUnfitImage (IsCopyAt piles c.deref-5.result.now)
    (MayLinkAt (making.link ≡ true) c.deref-5.result.now) (said_at c.deref-6.result.now) (making.link ≡ true)
    noted.indexed.plan c.deref-7.result.now (g.F.Files.held c.make_file_set.new.files)) ⊥ refusal.fault =
    c.in_err-status.ensures.grounds in
    rw (p.1, p.2) (piles_made making.names.now.choice making.max_bytes piles making.link _ _ c.in_ok-names.field-0
    noted c.in_ok-names.ensures.piled c.in-Ok.ensures.notes refusal.subject refusal.fault
    (rw (c.deref-5.ensures.value, c.deref-6.ensures.value, c.deref-7.ensures.value) at grounds))

pub returns-in_err-refuse_noted-clause-grounds : goal.returns-in_err-refuse_noted-clause-grounds
returns-in_err-refuse_noted-clause-grounds g c =
    let making = c.args.making in
    let noted = c.in-Ok.past.noted in
    let refused = c.in_err-refuse_noted.ensures in
    let p = err_from_is_err_and c.from_residual-in_err-refuse_noted.result
    c.from_residual-in_err-refuse_noted.ensures.1 in
    rw (p.1, p.2) (publish_noted making.names.now.choice making.max_bytes (words_of c.args.piles.now) making.link _ _
    c.in_ok-names.field-0 noted c.in_err-refuse_noted.field-0.0 refused.fault c.in_ok-names.ensures.piled
    c.in-Ok.ensures.notes
    (noted_by making.strict c.is_noted.result (IsNotedIndex noted) refused.refuses c.is_noted.ensures))
