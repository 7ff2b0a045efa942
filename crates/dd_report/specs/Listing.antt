-- What a listing of a directory says: of its records (PS3.3 section F.3), of what is withdrawn, and in the long form
-- also of its file-set. Its lines are words, or JSON objects (RFC 8259).
use Rattle.std.specs.Prelude.{ℕ, min, List, [], ◌∷◌, ◌++◌, length, Option, None, Some, codes}
use Rattle.std.specs.Prelude.{if◌then◌else◌}
use Rattle.std.specs.Fmt.{decimal}
use Rattle.std.specs.List.{flat_map, repeat}
use Rattle.std.specs.Str.{bytes_eq}
use Rattle.dd_elem.specs.declared.tag.Tag.{Tag}
use Rattle.dd_elem.specs.Device.{counted, last_count}
use Rattle.dd_keys.specs.Values.{value_at}
use Rattle.dd_encoding.specs.Elements.{Elements}
use Rattle.dd_records.specs.declared.level.Level.TheVariants.{Patient, Study, Series, Image}
use Rattle.dd_records.specs.ElementForms.{tag}
use Rattle.dd_records.specs.Records.{kind_of}
use Rattle.dd_version.specs.Fitting.{is_empty}
use Rattle.dd_walk.specs.ForestViews.{Branch}
use Rattle.dd_walk.specs.Saying.{key_of}
use Rattle.dd_walk.specs.Trees.{Node, Trees, Walk, no_trees, offsets, tree}
use Rattle.dd_walk.specs.WithdrawnPieces.{withdrawn_of}
use Rattle.dd_report.specs.declared.known.Form.{Form}
use Rattle.dd_report.specs.declared.known.Form.TheVariants.{Short, Long}
use Rattle.dd_report.specs.Finding.{file_in}
use Rattle.dd_lines.specs.Telling.{shown_line}
use Rattle.dd_json.specs.declared.value.Style.{Style}
use Rattle.dd_json.specs.declared.value.Style.TheVariants.{Text, Json}
use Rattle.dd_json.specs.Values.{count, json_line, object_of, printed}
use Rattle.dd_dicom_json.specs.DicomJson.{elements_data}
use Rattle.dd_dicom_json.specs.declared.character_set.CharacterSet.TheVariants.{Ascii}
use Rattle.serde_json.specs.Data.{Data, boolean, string}

-- ---- the line of a record

-- the element that a record of this type is known by: the Patient ID, the UID of the study or of the series, and for
-- all others the File ID
abbrev pub label_tag : List ℕ → Tag
label_tag kind =
    if bytes_eq kind (kind_of Patient) then tag 0x0010 0x0020
    else (if bytes_eq kind (kind_of Study) then tag 0x0020 0x000d
    else (if bytes_eq kind (kind_of Series) then tag 0x0020 0x000e else tag 0x0004 0x1500))

-- the element with the UID of what a record stands for: of its study, of its series, or of the instance in its file
abbrev pub uid_tag : List ℕ → Tag
uid_tag kind =
    if bytes_eq kind (kind_of Study) then tag 0x0020 0x000d
    else (if bytes_eq kind (kind_of Series) then tag 0x0020 0x000e else tag 0x0004 0x1511)

-- a value, and `-` where there is no value, or one of no bytes
abbrev pub or_dash : Option (List ℕ) → List ℕ
or_dash None = codes "-"
or_dash (Some []) = codes "-"
or_dash (Some (byte ∷ value)) = byte ∷ value

abbrev pub label_of : Node → List ℕ
label_of node = or_dash (value_at (label_tag node.kind) node.set)

abbrev pub flag_of : Node → List ℕ
flag_of node = if node.in_use then [] else codes " inactive"

-- three words with spaces between them, and a mark right after the last
abbrev pub spaced : List ℕ → List ℕ → List ℕ → List ℕ → List (List ℕ)
spaced first second third mark = first ∷ codes " " ∷ second ∷ codes " " ∷ third ∷ mark ∷ []

-- The elements by which a person recognises a record of this type. Of a patient it is the name; of a study the date,
-- the time and the description; of a series the modality and the number; of an image the number and the instance.
abbrev pub known_tags : List ℕ → List Tag
known_tags kind =
    if bytes_eq kind (kind_of Patient) then tag 0x0010 0x0010 ∷ []
    else (if bytes_eq kind (kind_of Study) then tag 0x0008 0x0020 ∷ tag 0x0008 0x0030 ∷ tag 0x0008 0x1030 ∷ []
    else (if bytes_eq kind (kind_of Series) then tag 0x0008 0x0060 ∷ tag 0x0020 0x0011 ∷ []
    else (if bytes_eq kind (kind_of Image) then tag 0x0020 0x0013 ∷ tag 0x0004 0x1511 ∷ [] else [])))

-- the elements of a record of this type whose values a listing of this form shows
abbrev pub tags_in : Form → List ℕ → List Tag
tags_in Short kind = []
tags_in Long kind = known_tags kind

-- the value of an element after ` | `
abbrev pub value_parts : Elements → Tag → List (List ℕ)
value_parts set wanted = codes " | " ∷ or_dash (value_at wanted set) ∷ []

-- what the line of a record says after its spaces: two for each level. A long listing adds the values by which a
-- person recognises the record
abbrev pub record_parts : Form → Node → List (List ℕ)
record_parts form node = spaced (decimal node.at) node.kind (label_of node) (flag_of node)
    ++ flat_map (value_parts node.set) (tags_in form node.kind)

-- the same as members of a JSON object; the File ID and the UID are members only where the record has one
abbrev pub file_members : List ℕ → List (List ℕ × Data)
file_members file = if is_empty file then [] else (codes "file", printed file) ∷ []

abbrev pub uid_members : List ℕ → List (List ℕ × Data)
uid_members uid = if is_empty uid then [] else (codes "uid", printed uid) ∷ []

abbrev pub members_with : ℕ → Node → List (List ℕ × Data) → List ℕ → List (List ℕ × Data)
members_with level node file key =
    (codes "offset", count node.at) ∷ (codes "level", count level) ∷ (codes "type", printed node.kind)
    ∷ (codes "in_use", boolean node.in_use) ∷ (file ++ (codes "key", printed key) ∷ [])

abbrev pub named_members : ℕ → Node → List (List ℕ × Data)
named_members level node =
    members_with level node (file_members (file_in node)) (key_of (label_tag node.kind) node.set)

abbrev pub record_members : ℕ → Node → List (List ℕ × Data)
record_members level node = named_members level node ++ uid_members (key_of (uid_tag node.kind) node.set)

-- a long listing adds the data set in the DICOM JSON model (PS3.18 section F.2)
abbrev pub elements_in : Form → Elements → List (List ℕ × Data)
elements_in Short set = []
elements_in Long set = (codes "elements", elements_data Ascii set) ∷ []

abbrev pub record_json : Form → ℕ → Node → Data
record_json form level node = object_of (
    (codes "line", string (codes "RECORD")) ∷ (record_members level node ++ elements_in form node.set))

abbrev pub record_line : Style → Form → ℕ → Node → List ℕ
record_line Text form level node = repeat level (codes "  ") ++ shown_line (record_parts form node)
record_line Json form level node = json_line (record_json form level node)

-- ---- the lines of all records

-- depth first: of each record its line and the lines of those below it, then of those after it. Levels count.
abbrev pub lines_of : Style → Form → ℕ → Trees → List ℕ
lines_of style form level no_trees = []
lines_of style form level (tree node below after) =
    (record_line style form level node ++ lines_of style form (counted level) below) ++ lines_of style form level after

-- the lines of a record and of the records below it
abbrev pub branch_lines : Style → Form → ℕ → Branch → List ℕ
branch_lines style form level branch =
    record_line style form level branch.node ++ lines_of style form (counted level) branch.below

-- ---- the lines of what is withdrawn

-- a piece of the value that names the withdrawn UIDs
abbrev pub withdrawn_json : List ℕ → Data
withdrawn_json piece = object_of ((codes "line", string (codes "WITHDRAWN")) ∷ (codes "uid", printed piece) ∷ [])

abbrev pub withdrawn_line : Style → List ℕ → List ℕ
withdrawn_line Text piece = shown_line (codes "WITHDRAWN " ∷ or_dash (Some piece) ∷ [])
withdrawn_line Json piece = json_line (withdrawn_json piece)

abbrev pub withdrawn_lines : Style → List (List ℕ) → List ℕ
withdrawn_lines style pieces = flat_map (withdrawn_line style) pieces

-- ---- the whole listing

-- how many records there are, as a count
abbrev pub record_count : Trees → ℕ
record_count trees = min (length (offsets trees)) last_count

abbrev pub totals_json : ℕ → ℕ → Data
totals_json records unreached = object_of (
    (codes "line", string (codes "RECORDS")) ∷ (codes "records", count records) ∷ (codes "unreached", count unreached)
    ∷ [])

abbrev pub totals_line : Style → Walk → List ℕ
totals_line Text walk = shown_line (
    decimal (record_count walk.trees) ∷ codes " records, " ∷ decimal walk.unreached ∷ codes " unreached" ∷ [])
totals_line Json walk = json_line (totals_json (record_count walk.trees) walk.unreached)

-- the lines after those of the records
abbrev pub end_lines : Style → Walk → List ℕ
end_lines style walk = withdrawn_lines style (withdrawn_of walk) ++ totals_line style walk

abbrev pub lines_in : Style → Form → Walk → List ℕ
lines_in style form walk = lines_of style form 0 walk.trees ++ end_lines style walk

-- the short listing in words
abbrev pub listing_text : Walk → List ℕ
listing_text walk = lines_in Text Short walk

-- what names a file-set: its ID and its UID
abbrev pub set_parts : List ℕ → List ℕ → List (List ℕ)
set_parts id uid = codes "FILE-SET " ∷ id ∷ codes " " ∷ uid ∷ []

abbrev pub set_json : List ℕ → List ℕ → Data
set_json id uid = object_of (
    (codes "line", string (codes "FILE-SET")) ∷ (codes "id", printed id) ∷ (codes "uid", printed uid) ∷ [])

-- the line with the ID and the UID that the directory gives; its UID is never empty
abbrev pub set_line : Style → Walk → List ℕ
set_line Text walk = shown_line (set_parts (or_dash (Some walk.beside.id)) walk.beside.uid)
set_line Json walk = json_line (set_json walk.beside.id walk.beside.uid)

-- The long listing: the line that names the file-set, and then each line of the short one. In words the line of a
-- record also has the values by which a person recognises the record, and in JSON its data set.
abbrev pub long_listing : Style → Walk → List ℕ
long_listing style walk = set_line style walk ++ lines_in style Long walk

-- the listing in this style and form
abbrev pub listing : Style → Form → Walk → List ℕ
listing style Short walk = lines_in style Short walk
listing style Long walk = long_listing style walk
