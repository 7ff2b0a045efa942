-- Namings, each a Patient ID with a Patient's Name: their order, and the patients that they are grouped into.
use Rattle.std.specs.Prelude.{ℕ, Bool, List, [], ◌∷◌, length, map, nat_lt, if◌then◌else◌}
use Rattle.std.specs.Cmp.{IsTotalOrder}
use Rattle.std.specs.Ordering.{on}
use Rattle.std.specs.Str.{bytes_eq}
use Rattle.std.specs.declared.cmp.Ordering.{Ordering}
use Rattle.std.proofs.Common.{sym}
use Rattle.std.proofs.lemmas.Cmp.{then_total, on_total, back_total, nat_list_cmp_total}
use Rattle.std.proofs.lemmas.Map.Lookups.{exact_bytes}
use Rattle.dd_elem.specs.Ordered.{TellsApart}
use Rattle.dd_version.specs.Orders.{by_bytes, ◌then◌, both_tie}
use Rattle.dd_version.specs.declared.parts.Parts.{Parts}
use Rattle.dd_engine.specs.PatientNames.{NamedPatient, name_cmp}

-- a Patient ID and a Patient's Name
pub record Naming : Type 0 where
  pub id : List ℕ
  pub name : List ℕ

-- the Patient ID and the Patient's Name of a version
abbrev pub naming_of : Parts → Naming
naming_of v = record { id = v.patient.id; name = v.patient.name }

-- the order of namings: the IDs rise, and the names that stand with the same ID fall
abbrev pub naming_cmp : Naming → Naming → Ordering
naming_cmp = by_bytes (λ n. n.id) then on (λ n. n.name) name_cmp

pub naming_total : IsTotalOrder naming_cmp
naming_total =
    then_total (on_total (λ n. n.id) nat_list_cmp_total) (on_total (λ n. n.name) (back_total nat_list_cmp_total))

pub naming_apart : TellsApart naming_cmp
naming_apart x y tie =
    let both = both_tie _ _ tie in
    let id_is = exact_bytes x.id y.id both.first in
    let name_is = sym (exact_bytes y.name x.name both.second) in
    λ i. record { id = id_is i; name = name_is i }

-- ---- namings in their order, each once, grouped by their IDs

-- the naming has this ID
abbrev pub has_id : List ℕ → Naming → Bool
has_id id naming = bytes_eq naming.id id

-- A naming in front of others that are grouped into patients. The first patient gets its name where the IDs are the
-- same, and else a new patient stands in front.
abbrev pub add_naming : Naming → List NamedPatient → List NamedPatient
add_naming naming [] = record { id = naming.id; names = naming.name ∷ [] } ∷ []
add_naming naming (patient ∷ patients) =
    if bytes_eq patient.id naming.id
    then record { id = naming.id; names = naming.name ∷ patient.names } ∷ patients
    else record { id = naming.id; names = naming.name ∷ [] } ∷ patient ∷ patients

-- the patient of namings that all have the ID of the first
abbrev pub patient_of : Naming → List Naming → NamedPatient
patient_of first like = record { id = first.id; names = first.name ∷ map (λ n. n.name) like }

-- the patients of namings in their order
abbrev pub grouped : List Naming → List NamedPatient
grouped [] = []
grouped (naming ∷ namings) = add_naming naming (grouped namings)

-- the patient has more than one name
abbrev pub has_several : NamedPatient → Bool
has_several patient = nat_lt 1 (length patient.names)
