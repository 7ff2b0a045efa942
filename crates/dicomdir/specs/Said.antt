-- The lines that `index`, `merge` and `withdraw` print before they make anything, in words or as JSON objects (RFC
-- 8259).
use Rattle.std.specs.Prelude.{◌≡◌, ℕ, List, [], ◌∷◌, ◌++◌, length}
use Rattle.std.specs.Fmt.InlineText.{inline_text}
use Rattle.dd_engine.specs.declared.merge.Pick.{Pick}
use Rattle.dd_engine.specs.declared.noted_index.NotedIndex.{NotedIndex}
use Rattle.dd_engine.specs.declared.noted_merge.NotedMerge.{NotedMerge}
use Rattle.dd_engine.specs.declared.notes.LeftOut.{LeftOut}
use Rattle.dd_engine.specs.declared.set_notes.Unreached.{Unreached}
use Rattle.dd_engine.specs.PatientNames.{NamedPatient}
use Rattle.dd_json.specs.declared.value.Style.{Style}
use Rattle.dd_keys.specs.declared.fault.KeyFault.{KeyFault}
use Rattle.dd_messages.specs.NoteLines.{left_out_line, names_line, skip_line, unlisted_line, unreached_line}
use Rattle.dd_refusals.specs.Faults.{path_at}
use Rattle.dicomdir.specs.declared.shown_path.ShownPath.{ShownPath}
use Rattle.serde_json.specs.Data.{Data}

-- a line for each of these, one after the other
abbrev pub AreLines : {T : Type 0} → (T → List ℕ → Type 0) → List T → List ℕ → Type 0
AreLines IsLine [] text = text ≡ []
AreLines IsLine (one ∷ others) text = (here : List ℕ) × (later : List ℕ) × (text ≡ here ++ later)
    × IsLine one here × AreLines IsLine others later

-- ---- paths

-- the text of a path: the source or folder, the separator, and the path in the folder
abbrev pub shown_text : ShownPath → List ℕ
shown_text path = path.folder.now ++ (path.joint.now ++ inline_text path.inside)

-- a file of a file-set is shown by the folder of the set, and then its path there
pub record ShowsMember (folders : List (List ℕ)) (pick : Pick) (shown : List ℕ) : Type 0 where
  pub inside : List ℕ
  pub is : shown ≡ path_at folders pick.set ++ inside

-- ---- the line of a source that is skipped

pub record IsSkip (style : Style) (sources : List (List ℕ)) (skip : ℕ × KeyFault) (line : List ℕ) : Type 0 where
  pub words : List ℕ
  pub fault : Data
  pub is : line ≡ skip_line style (path_at sources skip.0) words fault

-- ---- the line of a file that is left out

pub record IsLeftOut {T : Type 0} (style : Style) (Shows : T → List ℕ → Type 0) (note : LeftOut T) (line : List ℕ)
    : Type 0 where
  pub file : List ℕ
  pub shown : Shows note.file file
  pub kept : List ℕ
  pub shown_kept : Shows note.kept kept
  pub is : line ≡ left_out_line style file kept note.instance

-- ---- the line of a Patient ID with more than one name

pub record IsNames (style : Style) (patient : NamedPatient) (line : List ℕ) : Type 0 where
  pub more : List (List ℕ)
  pub names : Data
  pub is : line ≡ names_line style patient.id (length patient.names) more names

-- ---- what `index` says

-- a line for each source that is skipped, then one for each source that is left out, and one for each Patient ID with
-- more than one name
pub record SaysNotes (style : Style) (sources : List (List ℕ)) (noted : NotedIndex) (text : List ℕ) : Type 0 where
  pub skips : List ℕ
  pub skipped : AreLines (IsSkip style sources) noted.indexed.skipped.items skips
  pub left : List ℕ
  pub left_out : AreLines (IsLeftOut style (λ at shown. shown ≡ path_at sources at)) noted.notes.left_out.items left
  pub names : List ℕ
  pub named : AreLines (IsNames style) noted.notes.names.items names
  pub is : text ≡ skips ++ (left ++ names)

-- ---- the line of a file-set with records that are not reached

abbrev pub IsUnreached : Style → List (List ℕ) → Unreached → List ℕ → Type 0
IsUnreached style folders note line = line ≡ unreached_line style (path_at folders note.set) note.records

-- ---- the line of a given UID in no record

abbrev pub IsUnlisted : Style → List ℕ → List ℕ → Type 0
IsUnlisted style uid line = line ≡ unlisted_line style uid

-- ---- what `merge` and `withdraw` say

-- A line for each file-set with records that are not reached, then one for each file that is left out, one for each
-- given UID in no record, and one for each Patient ID with more than one name. What is withdrawn has no line.
pub record SaysSetNotes (style : Style) (folders : List (List ℕ)) (noted : NotedMerge) (text : List ℕ) : Type 0 where
  pub unreached : List ℕ
  pub are_unreached : AreLines (IsUnreached style folders) noted.sets.unreached.items unreached
  pub left : List ℕ
  pub left_out : AreLines (IsLeftOut style (ShowsMember folders)) noted.notes.left_out.items left
  pub unlisted : List ℕ
  pub are_unlisted : AreLines (IsUnlisted style) noted.sets.unlisted.items unlisted
  pub names : List ℕ
  pub named : AreLines (IsNames style) noted.notes.names.items names
  pub is : text ≡ unreached ++ (left ++ (unlisted ++ names))
