-- The line that says why a run is refused, in words or as a JSON object (RFC 8259), and the object of a directory that
-- can't be read.
use Rattle.std.specs.Prelude.{◌⊎◌, ℕ, List, [], ◌∷◌, codes, Option, None, Some}
use Rattle.dd_elem.specs.declared.device.Write.{Ghosts as WriteOf}
use Rattle.dd_json.specs.Values.{json_line, object_of}
use Rattle.dd_json.specs.declared.value.Style.{Style}
use Rattle.dd_json.specs.declared.value.Style.TheVariants.{Text, Json}
use Rattle.dd_lines.specs.Text.{FailsInText, TakesText}
use Rattle.dd_messages.specs.NoteLines.{said_line}
use Rattle.dd_messages.specs.declared.fault_line.RefusalForm.{RefusalForm}
use Rattle.dd_messages.specs.declared.fault_line.RefusalForm.TheVariants as form
use Rattle.serde_json.specs.Data.{Data, null, string}

abbrev pub path_words : Option (List ℕ) → List ℕ
path_words None = codes "-"
path_words (Some path) = path

abbrev pub path_value : Option (List ℕ) → Data
path_value None = null
path_value (Some path) = string path

abbrev pub refusal_json : Data → Data → List (List ℕ × Data) → Data
refusal_json path fault hints = object_of (
    (codes "line", string (codes "FAULT")) ∷ (codes "path", path) ∷ (codes "fault", fault) ∷ hints)

-- it has the path, if one is concerned, and the words of the fault or an object of them, which hints may follow
abbrev pub fault_line : Style → Option (List ℕ) → List ℕ → Data → List (List ℕ × Data) → List ℕ
fault_line Text path words fault hints = said_line (codes "FAULT " ∷ path_words path ∷ codes ": " ∷ words ∷ [])
fault_line Json path words fault hints = json_line (refusal_json (path_value path) fault hints)

abbrev pub style_of : RefusalForm → Style
style_of form.Words = Text
style_of (form.Json hints) = Json

-- the writer took the line, or a front of it where it failed
pub record TellsFault {W : Type 0} (writer : WriteOf W) (style : Style) (path : Option (List ℕ)) (old new : W) : Type 0
  where
    pub words : List ℕ
    pub fault : Data
    pub hints : List (List ℕ × Data)
    pub told : TakesText writer old new (fault_line style path words fault hints)
        ⊎ FailsInText writer old new (fault_line style path words fault hints)

-- the object of a directory that can't be read, with its fault
abbrev pub broken_json : Data → Data
broken_json fault = object_of ((codes "line", string (codes "BROKEN")) ∷ (codes "fault", fault) ∷ [])
