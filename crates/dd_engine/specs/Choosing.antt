-- The label that a file-set gets, and why its catalogue is not laid out.
use Rattle.std.specs.Prelude.{ℕ, List, Option, None, Some}
use Rattle.dd_version.specs.declared.parts.Parts.{Parts}
use Rattle.dd_layout.specs.declared.fault.PlanFault.{PlanFault}
use Rattle.dd_records.specs.declared.label.Label.{Label}
use Rattle.dd_layout.specs.Limits.{Limits}
use Rattle.dd_layout.specs.Refusal.{refusal}
use Rattle.dd_engine.specs.declared.choice.Choice.{Choice}
use Rattle.dd_dir.specs.Deriving.{either}
use Rattle.dd_dir.specs.Directories.{derived, unnamed_label}

-- the UID that is asked for, or else the one derived from the directory
abbrev pub uid_by : Option (List ℕ) → List ℕ → List Parts → List (List ℕ) → List ℕ
uid_by None id m withdrawn = derived id m withdrawn
uid_by (Some uid) id m withdrawn = uid

-- the label of a catalogue of these versions and withdrawn UIDs
abbrev pub label_for : Choice → List Parts → List (List ℕ) → Label
label_for choice m withdrawn = record { id = choice.id; uid = uid_by choice.uid choice.id m withdrawn }

-- where no UID is asked for, deriving one comes first
abbrev pub derivation : Option (List ℕ) → List ℕ → Limits → List Parts → List (List ℕ) → Option PlanFault
derivation None id limits m withdrawn = refusal (unnamed_label id) limits m withdrawn
derivation (Some uid) id limits m withdrawn = None

abbrev pub refusal_for : Choice → Limits → List Parts → List (List ℕ) → Option PlanFault
refusal_for choice limits m withdrawn = either (derivation choice.uid choice.id limits m withdrawn)
    (refusal (label_for choice m withdrawn) limits m withdrawn)
