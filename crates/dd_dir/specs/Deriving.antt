-- The label under a UID that is derived, and why a catalogue is not laid out under it.
use Rattle.std.specs.Prelude.{ℕ, List, Option, None, Some}
use Rattle.dd_version.specs.declared.parts.Parts.{Parts}
use Rattle.dd_layout.specs.declared.fault.PlanFault.{PlanFault}
use Rattle.dd_records.specs.declared.label.Label.{Label}
use Rattle.dd_layout.specs.Limits.{Limits}
use Rattle.dd_layout.specs.Refusal.{excess, refusal}
use Rattle.dd_elem.specs.Digests.{uid_of_digest}
use Rattle.dd_dir.specs.Directories.{derived, directory_of, unnamed_label}
use Rattle.sha2.specs.Sha256.{sha256}

-- the label of a file-set with this ID and the UID that follows from what it holds
abbrev pub derived_label : List ℕ → List Parts → List (List ℕ) → Label
derived_label id m withdrawn = record { id = id; uid = derived id m withdrawn }

-- the first refusal of two
abbrev pub either : Option PlanFault → Option PlanFault → Option PlanFault
either None other = other
either (Some fault) other = Some fault

-- deriving the UID comes first
abbrev pub derived_refusal : List ℕ → Limits → List Parts → List (List ℕ) → Option PlanFault
derived_refusal id limits m withdrawn = either (refusal (unnamed_label id) limits m withdrawn)
    (refusal (derived_label id m withdrawn) limits m withdrawn)

-- ---- the same of versions that are in harmony

abbrev pub harmony_label : List ℕ → List Parts → List (List ℕ) → Label
harmony_label id versions withdrawn =
    record { id = id; uid = uid_of_digest (sha256 (directory_of (unnamed_label id) versions withdrawn)) }

abbrev pub harmony_excess : List ℕ → Limits → List Parts → List (List ℕ) → Option PlanFault
harmony_excess id limits versions withdrawn = either (excess (unnamed_label id) limits versions withdrawn)
    (excess (harmony_label id versions withdrawn) limits versions withdrawn)
