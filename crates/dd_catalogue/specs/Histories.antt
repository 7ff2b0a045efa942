-- What a history has taken: the versions of a batch, the UIDs that are withdrawn, the union over the parts of a merge.
use Rattle.std.specs.Prelude.{List, [], map}
use Rattle.std.specs.List.{flat_map}
use Rattle.dd_catalogue.specs.Contents.{Contents}
use Rattle.dd_catalogue.specs.declared.history.History.{History, fold-History}
use Rattle.dd_catalogue.specs.declared.history.History.TheOpen.{History-F}

-- the members of all these sets
abbrev pub together : {V : Type 0} → List (List V) → List V
together sets = flat_map (λ s. s) sets

-- the versions and the withdrawn UIDs of all these
abbrev pub all_together : List Contents → Contents
all_together parts = record {
  versions = together (map (λ c. c.versions) parts);
  withdrawn = together (map (λ c. c.withdrawn) parts);
}

abbrev pub taken_step : History-F Contents → Contents
taken_step (History-F.Batch versions) = record { versions = versions.items; withdrawn = [] }
taken_step (History-F.Withdraw uids) = record { versions = []; withdrawn = uids.items }
taken_step (History-F.Merge parts) = all_together parts.items

-- the versions that were taken, and the UIDs that were withdrawn
abbrev pub taken : History → Contents
taken history = fold-History Contents taken_step history
