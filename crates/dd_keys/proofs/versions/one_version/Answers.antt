use Rattle.dd_keys.proofs.FoundVersions.{first_fault_none, one_version, version_exists}
use Rattle.dd_keys.proofs.versions.one_version.Goals as goal

pub returns : goal.returns
returns c = record { one = one_version; passes = first_fault_none; fails = version_exists }
