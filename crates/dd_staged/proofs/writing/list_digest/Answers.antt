use Rattle.std.proofs.Common.{◌++◌, ap, ◌∙◌, map}
use Rattle.sha2.specs.Sha256.{sha256}
use Rattle.dd_hashing.specs.Hashing.{Hashing}
use Rattle.dd_staged.specs.Sources.{source_view}
use Rattle.dd_staged.specs.Stages.{list_text, source_items}
use Rattle.dd_staged.proofs.writing.list_digest.Goals as goal

pub returns : goal.returns
returns c =
    c.digest.ensures ∙ ap sha256 (c.in-Ok.ensures.ok.1.holds
    ∙ ap (λ (d : Hashing). d.bytes ++ list_text (source_items (map source_view c.args.list.now)))
    c.new-digester.ensures)
