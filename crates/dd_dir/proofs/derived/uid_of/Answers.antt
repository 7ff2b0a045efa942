use Rattle.std.proofs.Common.{◌++◌, ap, ◌∙◌}
use Rattle.sha2.specs.Sha256.{sha256}
use Rattle.dd_elem.specs.Digests.{uid_of_digest}
use Rattle.dd_dir.specs.Directories.{directory_of}
use Rattle.dd_hashing.specs.Hashing.{Hashing}
use Rattle.dd_dir.proofs.derived.uid_of.Goals as goal

pub returns : goal.returns
returns c =
    c.from_digest.ensures.value ∙ ap uid_of_digest (c.digest.ensures ∙ ap sha256 (c.in-Ok.ensures.sends.ok.1.holds
    ∙ ap (λ (d : Hashing). d.bytes ++ directory_of c.args.plan.now.label c.args.plan.now.versions
    c.args.plan.now.withdrawn)
    c.new-digester.ensures))
