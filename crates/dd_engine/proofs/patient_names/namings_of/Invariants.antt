use Rattle.std.proofs.Common.{◌≡◌, map, take}
use Rattle.dd_engine.specs.Namings.{naming_of}
use Rattle.dd_engine.specs.PatientNames.{with_kept_digest}
use Rattle.dd_engine.proofs.patient_names.namings_of.Given as goal

-- the namings of those versions so far that have the digest of the kept one
abbrev pub invariant-loop-version : goal.invariant-loop-version
invariant-loop-version l = l.namings.items ≡ map naming_of (with_kept_digest l.best (take l.version-index l.versions))
