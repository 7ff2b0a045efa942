-- What a reader gave is read as the bytes of a file are, whatever digest stands in it first.
use Rattle.std.proofs.Common.{refl}
use Rattle.std.proofs.lemmas.Result.{err_from_is_err_and}
use Rattle.sha2.specs.Sha256.{sha256}
use Rattle.dd_keys.proofs.Ingesting.{refused_reader}
use Rattle.dd_keys.proofs.Scans.{digest_stands, other_digest, scanned_answers, scanned_fronts}
use Rattle.dd_keys.proofs.versions.ingest_kept.Goals as goal

pub returns-in_err-scanned : goal.returns-in_err-scanned
returns-in_err-scanned g c =
    let h = c.in_err-scanned.ensures in
    let e = err_from_is_err_and c.from_residual.result c.from_residual.ensures.1 in
    record {
      given = h.given;
      gave = h.gave;
      known = h.known;
      few = h.few;
      answered = rw (e.1, e.2) record {
        digested = refused_reader _ _ _ _ _ c.in_err-scanned.field-0.0 h.answered.file;
        kept = h.answered.kept;
        undigested = tt;
      };
    }

pub version_from-requires-clause-fronts : goal.version_from-requires-clause-fronts
version_from-requires-clause-fronts g c =
    scanned_fronts _ _ _ _ _ c.in_ok-scanned.scanned c.in_ok-scanned.ensures.answered.file

pub returns : goal.returns
returns g c =
    let h = c.in_ok-scanned.ensures in
    let scanned = c.in_ok-scanned.scanned in
    let answer = c.version_from.result in
    record {
      given = h.given;
      gave = h.gave;
      known = h.known;
      few = h.few;
      answered = record {
        digested = scanned_answers _ _ _ _ _ scanned h.answered.file (sha256 h.given) _ refl
            (other_digest scanned _ (sha256 h.given) answer c.version_from.ensures);
        kept = h.answered.kept;
        undigested = digest_stands scanned _ answer c.version_from.ensures;
      };
    }
