use Rattle.dd_catalogue.proofs.Agreements.{merged_harmonies_are_merged_sets}
use Rattle.dd_catalogue.proofs.harmony_laws.merged_harmonies_are_merged_sets.Goals as goal

pub returns : goal.returns
returns c = λ sets agree. merged_harmonies_are_merged_sets sets agree
