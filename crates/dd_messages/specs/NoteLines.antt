-- The lines SKIP and NOTE, in words or as JSON objects (RFC 8259).
use Rattle.std.specs.Prelude.{ℕ, List, [], ◌∷◌, ◌++◌, codes}
use Rattle.std.specs.Fmt.{decimal}
use Rattle.std.specs.List.{concat}
use Rattle.dd_json.specs.declared.value.Style.{Style}
use Rattle.dd_json.specs.declared.value.Style.TheVariants.{Text, Json}
use Rattle.dd_json.specs.Values.{count, json_line, object_of, printed}
use Rattle.dd_lines.specs.Telling.{shown_line}
use Rattle.dd_lines.specs.Text.{masked}
use Rattle.serde_json.specs.Data.{Data, string}

-- a line of these parts, one after the other, as it prints: `?` for each control character
abbrev pub said_line : List (List ℕ) → List ℕ
said_line parts = masked (concat parts) ++ 10 ∷ []

-- ---- the line of a source that is skipped

abbrev pub skip_json : List ℕ → Data → Data
skip_json path fault = object_of (
    (codes "line", string (codes "SKIP")) ∷ (codes "path", string path) ∷ (codes "fault", fault) ∷ [])

-- it has its path, and the words of its fault or an object of them
abbrev pub skip_line : Style → List ℕ → List ℕ → Data → List ℕ
skip_line Text path words fault = said_line (codes "SKIP " ∷ path ∷ codes ": " ∷ words ∷ [])
skip_line Json path words fault = json_line (skip_json path fault)

-- ---- the line of a file that is left out

-- an object of this kind
abbrev pub note_json : List ℕ → List (List ℕ × Data) → Data
note_json kind members = object_of ((codes "line", string (codes "NOTE")) ∷ (codes "kind", string kind) ∷ members)

-- it has its path, the path of the file that is kept, and the SOP Instance UID of both
abbrev pub left_out_words : List ℕ → List ℕ → List ℕ → List ℕ
left_out_words file kept uid = said_line (codes "NOTE " ∷ file ∷ codes ": left out for " ∷ kept
    ∷ codes ": same SOP Instance UID " ∷ uid ∷ codes ", other bytes" ∷ [])

abbrev pub left_out_json : List ℕ → List ℕ → List ℕ → Data
left_out_json file kept uid = note_json (codes "left_out") (
    (codes "path", string file) ∷ (codes "kept", string kept) ∷ (codes "uid", string uid) ∷ [])

abbrev pub left_out_line : Style → List ℕ → List ℕ → List ℕ → List ℕ
left_out_line Text file kept uid = left_out_words file kept uid
left_out_line Json file kept uid = json_line (left_out_json file kept uid)

-- ---- the line of a Patient ID with more than one name

-- in words it has the ID, and then other words
abbrev pub names_words : List ℕ → List (List ℕ) → List ℕ
names_words id more = shown_line (codes "NOTE -: Patient ID " ∷ id ∷ more)

abbrev pub names_json : List ℕ → ℕ → Data → Data
names_json id number names = note_json (codes "names") (
    (codes "patient_id", printed id) ∷ (codes "count", count number) ∷ (codes "names", names) ∷ [])

-- an object has the ID, the number of names, and some of them
abbrev pub names_line : Style → List ℕ → ℕ → List (List ℕ) → Data → List ℕ
names_line Text id number more names = names_words id more
names_line Json id number more names = json_line (names_json id number names)

-- ---- the line of a file-set with records that are not reached

-- it has its folder, and how many there are
abbrev pub unreached_words : List ℕ → ℕ → List ℕ
unreached_words folder records = said_line (codes "NOTE " ∷ folder ∷ codes ": " ∷ decimal records
    ∷ codes " records are not reached" ∷ [])

abbrev pub unreached_json : List ℕ → ℕ → Data
unreached_json folder records =
    note_json (codes "unreached") ((codes "path", string folder) ∷ (codes "records", count records) ∷ [])

abbrev pub unreached_line : Style → List ℕ → ℕ → List ℕ
unreached_line Text folder records = unreached_words folder records
unreached_line Json folder records = json_line (unreached_json folder records)

-- ---- the line of a given UID in no record

abbrev pub unlisted_json : List ℕ → Data
unlisted_json uid = note_json (codes "unlisted") ((codes "uid", string uid) ∷ [])

abbrev pub unlisted_line : Style → List ℕ → List ℕ
unlisted_line Text uid = said_line (codes "NOTE -: " ∷ uid ∷ codes " is in no record" ∷ [])
unlisted_line Json uid = json_line (unlisted_json uid)

-- ---- the object of an instance that conflicts with another one, and of one that is withdrawn

-- it has the path of a file, and its SOP Instance UID
abbrev pub conflict_json : List ℕ → List ℕ → Data
conflict_json file uid = note_json (codes "conflict") ((codes "path", string file) ∷ (codes "uid", string uid) ∷ [])

-- it also has the folder of the file-set that withdraws it
abbrev pub withdrawn_json : List ℕ → List ℕ → List ℕ → Data
withdrawn_json file by uid = note_json (codes "withdrawn") (
    (codes "path", string file) ∷ (codes "by", string by) ∷ (codes "uid", string uid) ∷ [])
