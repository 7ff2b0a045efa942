-- What a reader gave is read as the bytes of a file are.
use Rattle.std.proofs.lemmas.Result.{err_from_is_err_and}
use Rattle.dd_keys.proofs.Ingesting.{refused_reader}
use Rattle.dd_keys.proofs.Scans.{scanned_answers, scanned_fronts}
use Rattle.dd_keys.proofs.versions.ingest.Goals as goal

pub returns-in_err-scanned : goal.returns-in_err-scanned
returns-in_err-scanned g c =
    let h = c.read_digested-file.ensures in
    let refused = rw c.in_err-scanned.was at h.answered.file in
    let e = err_from_is_err_and c.from_residual.result c.from_residual.ensures.1 in
    record {
      given = h.given;
      gave = h.gave;
      known = h.known;
      few = h.few;
      answered = rw (e.1, e.2) (refused_reader _ _ _ _ _ c.in_err-scanned.field-0.0 refused);
    }

pub version_from-requires-clause-fronts : goal.version_from-requires-clause-fronts
version_from-requires-clause-fronts g c =
    scanned_fronts _ _ _ _ _ c.in_ok-scanned.scanned
    (rw c.in_ok-scanned.was at c.read_digested-file.ensures.answered.file)

pub returns : goal.returns
returns g c =
    let h = c.read_digested-file.ensures in
    let read = rw c.in_ok-scanned.was at h.answered.file in
    record {
      given = h.given;
      gave = h.gave;
      known = h.known;
      few = h.few;
      answered = scanned_answers _ _ _ _ _ c.in_ok-scanned.scanned read _ _ h.answered.digest c.version_from.ensures;
    }
