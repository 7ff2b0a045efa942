use Rattle.std.proofs.Common.{◌≡◌, ℕ, ◌+◌, ◌<◌, ◌^◌, List, length, ap, ap₂, refl, subst, sym, arith}
use Rattle.std.specs.List.{All}
use Rattle.std.proofs.lemmas.Result.{err_from_is_err_and}
use Rattle.dd_version.specs.declared.parts.Parts.{Parts}
use Rattle.dd_records.specs.declared.record.PlanRecord.{PlanRecord}
use Rattle.dd_layout.specs.Layouts.{IsSound}
use Rattle.dd_records.specs.Withdrawals.{withdrawal_elements, withdrawals_size}
use Rattle.dd_stream.proofs.Going.{first_fails, then_sends, sends_same}
use Rattle.dd_dir.specs.Withdrawn.{AreRisingUids}
use Rattle.dd_dir.proofs.DirectoryFiles.{directory_is_file}
use Rattle.dd_dir.proofs.DirectoryTexts.{directory_length, directory_parts, opening_fits, records_fit, size_told}
use Rattle.dd_dir.proofs.DirectoryTexts.{withdrawals_fit}
use Rattle.dd_dir.proofs.KeyedRecords.{whole_sent}
use Rattle.dd_dir.proofs.MeasuredRecords.{records_measured}
use Rattle.dd_dir.proofs.OffsetsWithin.{within_size}
use Rattle.dd_dir.proofs.Realised.{realises, says_itself}
use Rattle.dd_dir.proofs.RecordTexts.{records_text}
use Rattle.dd_dir.proofs.RowTexts.{text_of}
use Rattle.dd_dir.proofs.directory_writing.write_directory.Goals as goal

pub send_opening-requires : goal.send_opening-requires
send_opening-requires g c =
    let plan = c.args.plan.now in
    let sound = subst (All (IsSound (length plan.versions))) c.records-records.ensures.all
    c.records-records.ensures.sound in
    opening_fits plan.label plan.versions plan.withdrawn c.records_size-count.result sound
    c.records_end-end.ensures.small c.records_size-count.ensures.exact

pub returns-in_err-sent-clause-sends : goal.returns-in_err-sent-clause-sends
returns-in_err-sent-clause-sends g c =
    let p = err_from_is_err_and c.from_residual.result c.from_residual.ensures.1 in
    let plan = c.args.plan.now in
    let sound = subst (All (IsSound (length plan.versions))) c.records-records.ensures.all
    c.records-records.ensures.sound in
    let whole = directory_parts plan.label plan.versions plan.withdrawn c.records_size-count.result sound
    c.records_size-count.ensures.exact in
    rw (p.1, p.2) (sends_same _ _ _ _ _ _ _ _ whole (first_fails _ _ _ _ _ _ _ _ c.in_err-sent.ensures))

pub send_records-requires-clause-fits : goal.send_records-requires-clause-fits
send_records-requires-clause-fits g c =
    let plan = c.args.plan.now in
    let sound = subst (All (IsSound (length plan.versions))) c.records-records.ensures.all
    c.records-records.ensures.sound in
    let records = ap₂ (λ (vs : List Parts) (rs : List PlanRecord). records_text vs rs) c.versions.ensures.all
    c.records-records.ensures.all in
    subst (λ (t : List ℕ). c.in_ok-sent.sent + length t < 2 ^ 64) (sym records)
    (records_fit plan.label plan.versions plan.withdrawn c.records_size-count.result c.in_ok-sent.sent sound
    c.records_end-end.ensures.small c.records_size-count.ensures.exact c.in_ok-sent.ensures.ok.0)

pub send_records-requires-clause-measured : goal.send_records-requires-clause-measured
send_records-requires-clause-measured g c =
    let plan = c.args.plan.now in
    let sound = subst (All (IsSound (length plan.versions))) c.records-records.ensures.all
    c.records-records.ensures.sound in
    rw (c.versions.ensures.all, c.records-records.ensures.all, c.records_end-end.ensures.exact)
    (records_measured plan.label plan.versions sound)

pub returns-in_err-sent-2-clause-sends : goal.returns-in_err-sent-2-clause-sends
returns-in_err-sent-2-clause-sends g c =
    let p = err_from_is_err_and c.from_residual-in_err-sent-2.result c.from_residual-in_err-sent-2.ensures.1 in
    let plan = c.args.plan.now in
    let sound = subst (All (IsSound (length plan.versions))) c.records-records.ensures.all
    c.records-records.ensures.sound in
    let whole = directory_parts plan.label plan.versions plan.withdrawn c.records_size-count.result sound
    c.records_size-count.ensures.exact in
    let records = ap₂ (λ (vs : List Parts) (rs : List PlanRecord). records_text vs rs) c.versions.ensures.all
    c.records-records.ensures.all in
    rw (p.1, p.2) (sends_same _ _ _ _ _ _ _ _ whole (then_sends _ _ _ _ _ _ _ _ _ _ _ c.in_ok-sent.ensures
    (first_fails _ _ _ _ _ _ _ _ (sends_same _ _ _ _ _ _ _ _ records c.in_err-sent-2.ensures.sends))))

pub send_withdrawals-requires-clause-small : goal.send_withdrawals-requires-clause-small
send_withdrawals-requires-clause-small g c =
    let plan = c.args.plan.now in
    subst (λ (uids : List (List ℕ)). withdrawals_size uids < 2 ^ 32) (sym c.withdrawn-withdrawn.ensures.all)
    (omega (arith, c.records_end-end.ensures.small))

pub send_withdrawals-requires-clause-fits : goal.send_withdrawals-requires-clause-fits
send_withdrawals-requires-clause-fits g c =
    let plan = c.args.plan.now in
    let sound = subst (All (IsSound (length plan.versions))) c.records-records.ensures.all
    c.records-records.ensures.sound in
    let records = ap₂ (λ (vs : List Parts) (rs : List PlanRecord). records_text vs rs) c.versions.ensures.all
    c.records-records.ensures.all in
    let count = subst (λ (t : List ℕ). c.in_ok-sent-2.sent ≡ c.in_ok-sent.sent + length t) records
    c.in_ok-sent-2.ensures.sends.ok.0 in
    subst (λ (uids : List (List ℕ)). c.in_ok-sent-2.sent + withdrawals_size uids < 2 ^ 64)
    (sym c.withdrawn-withdrawn.ensures.all)
    (withdrawals_fit plan.label plan.versions plan.withdrawn c.records_size-count.result c.in_ok-sent.sent
    c.in_ok-sent-2.sent sound c.records_end-end.ensures.small c.records_size-count.ensures.exact
    c.in_ok-sent.ensures.ok.0 count)

pub returns-clause-sends : goal.returns-clause-sends
returns-clause-sends g c =
    let plan = c.args.plan.now in
    let sound = subst (All (IsSound (length plan.versions))) c.records-records.ensures.all
    c.records-records.ensures.sound in
    let whole = directory_parts plan.label plan.versions plan.withdrawn c.records_size-count.result sound
    c.records_size-count.ensures.exact in
    let records = ap₂ (λ (vs : List Parts) (rs : List PlanRecord). records_text vs rs) c.versions.ensures.all
    c.records-records.ensures.all in
    let later = ap (λ (uids : List (List ℕ)). text_of (withdrawal_elements uids)) c.withdrawn-withdrawn.ensures.all in
    sends_same _ _ _ _ _ _ _ _ whole (then_sends _ _ _ _ _ _ _ _ _ _ _ c.in_ok-sent.ensures
    (then_sends _ _ _ _ _ _ _ _ _ _ _ (sends_same _ _ _ _ _ _ _ _ records c.in_ok-sent-2.ensures.sends)
    (sends_same _ _ _ _ _ _ _ _ later c.send_withdrawals.ensures)))

pub returns-clause-size : goal.returns-clause-size
returns-clause-size g c =
    let plan = c.args.plan.now in
    let sound = subst (All (IsSound (length plan.versions))) c.records-records.ensures.all
    c.records-records.ensures.sound in
    size_told _ _ _ _ _ _ _ (returns-clause-sends g c)
    (directory_length plan.label plan.versions plan.withdrawn sound)

pub returns-clause-file : goal.returns-clause-file
returns-clause-file g c = λ ok.
    let plan = c.args.plan.now in
    directory_is_file plan.label plan.versions plan.withdrawn c.records-records.result.now
    c.records-records.ensures.all c.records-records.ensures.sound c.records_end-end.ensures.small
    c.records_size-count.ensures.id.short c.records_size-count.ensures.uid
    (rw c.versions.ensures.all at c.in_ok-sent-2.ensures.valid refl)

pub returns-clause-within : goal.returns-clause-within
returns-clause-within g c =
    let plan = c.args.plan.now in
    within_size plan.label plan.versions plan.withdrawn _ (returns-clause-size g c)

pub returns-clause-realised : goal.returns-clause-realised
returns-clause-realised g c = λ ok m up is.
    let plan = c.args.plan.now in
    let sent = whole_sent plan.label plan.versions plan.withdrawn c.records-records.result.now
    c.records-records.ensures.all c.records_end-end.ensures.small (returns-clause-file g c ok)
    c.records_size-count.ensures.id c.records-records.ensures.sound
    (rw c.versions.ensures.all at c.in_ok-sent-2.ensures.keyed refl) in
    realises plan.label plan.versions m plan.withdrawn sent up is

pub returns-clause-own : goal.returns-clause-own
returns-clause-own g c = λ ok m up is rising.
    let plan = c.args.plan.now in
    let sent = whole_sent plan.label plan.versions plan.withdrawn c.records-records.result.now
    c.records-records.ensures.all c.records_end-end.ensures.small (returns-clause-file g c ok)
    c.records_size-count.ensures.id c.records-records.ensures.sound
    (rw c.versions.ensures.all at c.in_ok-sent-2.ensures.keyed refl) in
    let uids : AreRisingUids plan.withdrawn = record { each = c.records_end-end.ensures.uids; rising = rising } in
    says_itself plan.label plan.versions m plan.withdrawn sent up uids is

pub returns-in_err-sent-clause-short : goal.returns-in_err-sent-clause-short
returns-in_err-sent-clause-short g c =
    let plan = c.args.plan.now in
    let sound = subst (All (IsSound (length plan.versions))) c.records-records.ensures.all
    c.records-records.ensures.sound in
    omega (arith, directory_length plan.label plan.versions plan.withdrawn sound, c.records_end-end.ensures.small)

pub returns-in_err-sent-2-clause-short : goal.returns-in_err-sent-2-clause-short
returns-in_err-sent-2-clause-short g c =
    let plan = c.args.plan.now in
    let sound = subst (All (IsSound (length plan.versions))) c.records-records.ensures.all
    c.records-records.ensures.sound in
    omega (arith, directory_length plan.label plan.versions plan.withdrawn sound, c.records_end-end.ensures.small)

pub returns-clause-short : goal.returns-clause-short
returns-clause-short g c =
    let plan = c.args.plan.now in
    let sound = subst (All (IsSound (length plan.versions))) c.records-records.ensures.all
    c.records-records.ensures.sound in
    omega (arith, directory_length plan.label plan.versions plan.withdrawn sound, c.records_end-end.ensures.small)
