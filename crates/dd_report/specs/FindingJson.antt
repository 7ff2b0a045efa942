-- What a check finds, as JSON objects.
use Rattle.std.specs.Prelude.{ℕ, List, [], ◌∷◌, ◌++◌, codes}
use Rattle.hex.specs.Hex.{encode_lower}
use Rattle.serde_json.specs.Data.{Data, string}
use Rattle.dd_elem.specs.Tag.{text_of}
use Rattle.dd_part10.specs.declared.fault.FileFault.{FileFault}
use Rattle.dd_part10.specs.declared.fault.FileFault.TheVariants.{NotPart10, GroupLength, MetaMissing, MetaUid}
use Rattle.dd_part10.specs.declared.fault.FileFault.TheVariants.{OtherSyntax, Meta, Set}
use Rattle.dd_json.specs.Values.{count, object_of, printed}
use Rattle.dd_report.specs.declared.findings.Finding.{Finding}
use Rattle.dd_report.specs.declared.findings.Finding.TheVariants.{BadId, Differs, Mislabelled, Missing, NoDigest}
use Rattle.dd_report.specs.declared.findings.Finding.TheVariants.{NoFile, Unreadable}
use Rattle.dd_report.specs.Words.{file_words}

-- ---- faults

-- a fault by its number and its name, which are the first of its words
abbrev pub named_json : ℕ → List ℕ → Data
named_json number name = object_of ((codes "number", count number) ∷ (codes "name", string name) ∷ [])

abbrev pub cause_json : FileFault → Data
cause_json NotPart10 = named_json 21 (codes "NotPart10")
cause_json GroupLength = named_json 22 (codes "GroupLength")
cause_json (MetaMissing tag) = named_json 23 (codes "MetaMissing")
cause_json (MetaUid tag) = named_json 24 (codes "MetaUid")
cause_json (OtherSyntax uid) = named_json 25 (codes "OtherSyntax")
cause_json (Meta fault) = named_json 26 (codes "Meta")
cause_json (Set fault) = named_json 27 (codes "Set")

-- that the file cannot be read as one, in these words, and the cause of that
abbrev pub fault_json : Data → Data → Data
fault_json words cause = object_of (
    (codes "number", count 31) ∷ (codes "name", string (codes "File")) ∷ (codes "words", words) ∷ (codes "cause", cause)
    ∷ [])

-- ---- findings

-- a line of this name on the file with this File ID, and what else it says
abbrev pub file_json : List ℕ → List ℕ → List (List ℕ × Data) → Data
file_json line file more = object_of ((codes "line", string line) ∷ (codes "file", printed file) ∷ more)

abbrev pub digests_json : List ℕ → List ℕ → List ℕ → Data
digests_json file recorded found = file_json (codes "DIFFERS") file (
    (codes "recorded", printed recorded) ∷ (codes "found", printed found) ∷ [])

abbrev pub tag_json : List ℕ → List ℕ → Data
tag_json file tag = file_json (codes "MISLABELLED") file ((codes "tag", printed tag) ∷ [])

abbrev pub fault_line : List ℕ → Data → Data
fault_line file fault = file_json (codes "MISLABELLED") file ((codes "fault", fault) ∷ [])

-- what is said of the file with this File ID, whose record stands at this offset
abbrev pub finding_json : ℕ → List ℕ → Finding → Data
finding_json at file BadId = object_of ((codes "line", string (codes "BADID")) ∷ (codes "offset", count at) ∷ [])
finding_json at file Missing = file_json (codes "MISSING") file []
finding_json at file Unreadable = file_json (codes "UNREADABLE") file []
finding_json at file (Differs recorded found) = digests_json file (encode_lower recorded) (encode_lower found)
finding_json at file (Mislabelled tag) = tag_json file (text_of tag)
finding_json at file (NoFile fault) =
    fault_line file (fault_json (printed (codes "31 File " ++ file_words fault)) (cause_json fault))
finding_json at file NoDigest = file_json (codes "NODIGEST") file []

-- ---- the end

abbrev pub unreached_json : ℕ → Data
unreached_json unreached =
    object_of ((codes "line", string (codes "UNREACHED")) ∷ (codes "items", count unreached) ∷ [])

abbrev pub right_json : ℕ → Data
right_json records = object_of ((codes "line", string (codes "OK")) ∷ (codes "records", count records) ∷ [])
