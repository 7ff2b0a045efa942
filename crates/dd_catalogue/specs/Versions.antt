-- Sets of versions: of each SOP Instance UID (PS3.3 section C.12.1) the greatest version, and catalogues.
use Rattle.std.specs.Prelude.{ℕ, List, Option}
use Rattle.std.proofs.lemmas.Cmp.{nat_list_cmp_total}
use Rattle.std.proofs.lemmas.Map.Lookups.{exact_bytes}
use Rattle.dd_elem.specs.Ordered.{bytes_cmp}
use Rattle.dd_version.specs.Orders.{parts_cmp, parts_total, parts_apart}
use Rattle.dd_version.specs.declared.parts.Parts.{Parts}
use Rattle.dd_catalogue.specs.Best.{IsRising, IsBest, at, best}
use Rattle.dd_catalogue.specs.Compared.{compared}
use Rattle.dd_catalogue.specs.Rising.{Orders}

-- SOP Instance UID
abbrev pub instance_of : Parts → List ℕ
instance_of version = version.instance

-- a catalogue is seen as its versions, rising by SOP Instance UID
abbrev pub IsCatalogue : List Parts → Type 0
IsCatalogue m = IsRising instance_of bytes_cmp m

-- the version that a catalogue keeps of an instance
abbrev pub kept : List Parts → List ℕ → Option Parts
kept m uid = at instance_of bytes_cmp m uid

-- the catalogue is the best of the set: of each instance the greatest version, and no other
abbrev pub IsBestOf : List Parts → List Parts → Type 0
IsBestOf s m = IsBest instance_of bytes_cmp parts_cmp s m

-- the same as a function
abbrev pub best_of : List Parts → List Parts
best_of s = best instance_of bytes_cmp parts_cmp s

-- how many SOP Instance UIDs of either set are at most the greatest of each
abbrev pub compared_of : List Parts → List Parts → ℕ
compared_of m n = compared instance_of bytes_cmp parts_cmp m n

pub versions_ordered : Orders instance_of bytes_cmp parts_cmp
versions_ordered = record {
  keys_total = nat_list_cmp_total;
  keys_apart = exact_bytes;
  values_total = parts_total;
  values_apart = parts_apart;
}
