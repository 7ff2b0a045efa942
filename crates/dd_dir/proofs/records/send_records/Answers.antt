use Rattle.std.proofs.Common.{◌≡◌, ◌∷◌, arith, length, refl, true}
use Rattle.std.proofs.lemmas.Result.{err_from_is_err_and}
use Rattle.dd_catalogue.proofs.FirstAndRest.{first_and_rest, rest_of}
use Rattle.dd_stream.proofs.Going.{goes_on_fails, goes_on_piece}
use Rattle.dd_records.specs.Records.{IsRecord}
use Rattle.dd_dir.specs.Directories.{elements_for}
use Rattle.dd_dir.specs.Keyed.{IsKeyed}
use Rattle.dd_dir.proofs.MeasuredRecords.{made_hold, rest_measured, rest_sound, rows_hold, size_of_first}
use Rattle.dd_dir.proofs.RecordTexts.{text_at}
use Rattle.dd_dir.proofs.records.send_records.Goals as goal

pub send_record-requires-clause-measured : goal.send_record-requires-clause-measured
send_record-requires-clause-measured g c =
    let records = c.loop-records.records.now in
    let is = first_and_rest records c.planned-item.result c.in-len1-up.len_at_least c.planned-item.is in
    omega (
      arith,
      size_of_first c.args.versions.now c.args.end c.end_before.result records c.planned-item.result
          (rest_of records) is c.loop-records.invariant.measured c.end_before.ensures,
    )

pub returns-in_err-sent-clause-sends : goal.returns-in_err-sent-clause-sends
returns-in_err-sent-clause-sends g c =
    let p = err_from_is_err_and c.from_residual.result c.from_residual.ensures.1 in
    let records = c.loop-records.records.now in
    let is = first_and_rest records c.planned-item.result c.in-len1-up.len_at_least c.planned-item.is in
    rw (p.1, p.2) (goes_on_fails _ _ _ _ _ _ _ _ _ _ _ _ _ c.loop-records.invariant.goes
    (text_at c.args.versions.now records c.planned-item.result (rest_of records) is) c.in_err-sent.ensures.sends)

pub loop-records-preserved : goal.loop-records-preserved
loop-records-preserved g c =
    let versions = c.args.versions.now in
    let records = c.loop-records.records.now in
    let row = c.planned-item.result in
    let is = first_and_rest records row c.in-len1-up.len_at_least c.planned-item.is in
    record {
      goes = goes_on_piece _ _ _ _ _ _ _ _ _ _ _ _ _ c.loop-records.invariant.goes
          (text_at versions records row (rest_of records) is) c.in_ok-sent.ensures.sends;
      sound = rest_sound (length versions) records row (rest_of records) is c.loop-records.invariant.sound;
      measured = rest_measured versions c.args.end records row (rest_of records) is c.loop-records.invariant.measured;
      valid = λ rest. c.loop-records.invariant.valid (made_hold (elements_for versions) IsRecord records row
          (rest_of records) is (c.in_ok-sent.ensures.valid (refl {a = true})) rest);
      keyed = λ rest. c.loop-records.invariant.keyed (rows_hold (IsKeyed versions) records row
          (rest_of records) is c.in_ok-sent.ensures.keyed rest);
    }
