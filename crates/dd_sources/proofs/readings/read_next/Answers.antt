-- The reading of a source that was read, and of one that was passed.
use Rattle.std.proofs.Common.{◌∙◌, Err, Ok, refl, sym, []}
use Rattle.std.proofs.lemmas.List.{append-nil}
use Rattle.sha2.specs.Sha256.{sha256}
use Rattle.dd_keys.specs.Kept.{digested_by}
use Rattle.dd_sources.proofs.Answering.{holds_next}
use Rattle.dd_sources.proofs.PassedSources.{all_others, failed_reading, refusals_of_one, unread_of_one}
use Rattle.dd_sources.proofs.readings.read_next.Goals as goal

pub returns-in_ok-keep-in-Ok-clause-grows : goal.returns-in_ok-keep-in-Ok-clause-grows
returns-in_ok-keep-in-Ok-clause-grows g c =
    let read = c.in-Ok.ensures in
    let found = read.answer in
    record {
      reading = Ok (digested_by (sha256 found.bytes) c.in-Ok.answer);
      is = (
        found.right,
        (read.refusals refl).stays c.args.at,
        (read.unread refl).stays c.args.at,
        read.there refl,
        read.given refl,
      );
      given = read.others;
      refusals = all_others c.args.at _ _ (read.refusals refl);
      unread = all_others c.args.at _ _ (read.unread refl);
      held = λ answers many h. c.in_ok-keep-in-Ok.ensures.kept answers found.bytes many found.kept
          (holds_next _ _ _ _ c.requires.room.0 h);
      absent = sym (append-nil c.args.read.now.absent.items);
    }

pub returns-in_ok-pass-in-Err-clause-grows : goal.returns-in_ok-pass-in-Err-clause-grows
returns-in_ok-pass-in-Err-clause-grows g c =
    let fault = c.in-Err.fault in
    let fails = c.in-Err.ensures.fault in
    let passed = c.in_ok-pass-in-Err.ensures in
    let one = passed.of_source refl in
    let refusals = g.S.Supply.refusals in
    let unread = g.S.Supply.unread in
    let old = c.args.supply.now in
    let new = c.read_one.new.supply in
    record {
      reading = Err fault;
      is = failed_reading c.args.limit (g.S.Supply.contents old c.args.at)
          (g.S.Supply.is_there (g.S.Supply.rest old) c.args.at) (g.S.Supply.given new c.args.at) c.args.at fault
          (refusals old) (refusals new) (unread old) (unread new) one fails;
      given = c.in-Err.ensures.others;
      refusals = refusals_of_one c.args.at fault (refusals old) (refusals new) (unread old) (unread new) one fails;
      unread = unread_of_one c.args.at fault (refusals old) (refusals new) (unread old) (unread new) one fails;
      held = λ answers many h. passed.kept answers many (holds_next _ _ _ _ c.requires.room.0 h);
      absent = passed.absent;
    }
