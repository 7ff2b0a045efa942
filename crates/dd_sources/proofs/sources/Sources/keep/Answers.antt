-- The version is held with its source, or the source with its fault.
use Rattle.std.proofs.Common.{refl}
use Rattle.dd_sources.proofs.Answering.{holds_version, holds_skipped}
use Rattle.dd_sources.proofs.sources.Sources.keep.Goals as goal

pub returns-in_ok-push-in-Ok-2-clause-kept : goal.returns-in_ok-push-in-Ok-2-clause-kept
returns-in_ok-push-in-Ok-2-clause-kept c answers bytes many kept h =
    let added = c.add.ensures.added c.args.self.now.versions.items _ _ bytes
    c.in_ok-push-in-Ok.ensures.items kept h.versions in
    holds_version c.args.at answers _ _ _ _ _ _ _ c.in-Ok.is many h added c.in_ok-push-in-Ok-2.ensures.items refl

pub returns-in_ok-push-in-Err-clause-kept : goal.returns-in_ok-push-in-Err-clause-kept
returns-in_ok-push-in-Err-clause-kept c answers bytes many kept h =
    holds_skipped c.args.at answers _ _ _ _ _ _ c.in-Err.is many h refl refl c.in_ok-push-in-Err.ensures.items
