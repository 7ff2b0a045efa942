-- What a check of a file-set finds of the files that its records name, and the lines that say it, in words or as JSON
-- objects (RFC 8259).
use Rattle.std.specs.Prelude.{◌≡◌, ◌⊎◌, ℕ, ◌+◌, ◌≤◌, Bool, not, ◌&&◌, ◌==◌, List, [], ◌∷◌, ◌++◌, Option, None}
use Rattle.std.specs.Prelude.{Some, IfSome, IsSome, Result, Ok, Err, codes, if◌then◌else◌}
use Rattle.std.specs.Fmt.{decimal}
use Rattle.std.specs.Io.KnownBytes.{Consumes}
use Rattle.hex.specs.Hex.{encode_lower}
use Rattle.dd_elem.specs.Device.{HasWorked, counted}
use Rattle.dd_elem.specs.declared.device.Read.{Ghosts as ReadOf}
use Rattle.dd_elem.specs.FileIdForm.{IsFileId}
use Rattle.dd_elem.specs.Tag.{text_of}
use Rattle.dd_version.specs.Fitting.{is_empty}
use Rattle.dd_walk.specs.Trees.{Node, Walk}
use Rattle.dd_report.specs.declared.checking.ReportFault.{ReportFault}
use Rattle.dd_report.specs.declared.checking.ReportFault.TheVariants.{Memory, Unsent}
use Rattle.dd_report.specs.declared.checking.Comparison.{Comparison}
use Rattle.dd_report.specs.declared.findings.Finding.{Finding}
use Rattle.dd_report.specs.declared.findings.Finding.TheVariants.{BadId, Differs, Mislabelled, Missing, NoDigest}
use Rattle.dd_report.specs.declared.findings.Finding.TheVariants.{NoFile, Unreadable}
use Rattle.dd_files.specs.Files.{Held}
use Rattle.dd_report.specs.Agreements.{Standing, found_in, standings_below}
use Rattle.dd_report.specs.Finding.{IsFound, NamesFile, file_in}
use Rattle.dd_report.specs.Listing.{record_count}
use Rattle.dd_files.specs.Paths.{IsPathIn, id_path}
use Rattle.dd_report.specs.FindingJson.{finding_json, right_json, unreached_json}
use Rattle.dd_lines.specs.Telling.{Fails, GoesOn, Way, shown_line}
use Rattle.dd_json.specs.declared.value.Style.{Style}
use Rattle.dd_json.specs.declared.value.Style.TheVariants.{Text, Json}
use Rattle.dd_json.specs.Values.{json_line}
use Rattle.dd_report.specs.Words.{file_words, mislabelled_parts}

-- ---- lines

abbrev pub differs_parts : List ℕ → List ℕ → List ℕ → List (List ℕ)
differs_parts file recorded found =
    codes "DIFFERS " ∷ file ∷ codes " " ∷ recorded ∷ codes " " ∷ found ∷ []

-- what is said of the file with this File ID, whose record stands at this offset
abbrev pub finding_parts : ℕ → List ℕ → Finding → List (List ℕ)
finding_parts at file BadId = codes "BADID " ∷ decimal at ∷ []
finding_parts at file Missing = codes "MISSING " ∷ file ∷ []
finding_parts at file Unreadable = codes "UNREADABLE " ∷ file ∷ []
finding_parts at file (Differs recorded found) = differs_parts file (encode_lower recorded) (encode_lower found)
finding_parts at file (Mislabelled tag) = mislabelled_parts file (text_of tag)
finding_parts at file (NoFile fault) = mislabelled_parts file (codes "31 File " ++ file_words fault)
finding_parts at file NoDigest = codes "NODIGEST " ∷ file ∷ []

abbrev pub file_line : Style → ℕ → List ℕ → Option Finding → List ℕ
file_line style at file None = []
file_line Text at file (Some finding) = shown_line (finding_parts at file finding)
file_line Json at file (Some finding) = json_line (finding_json at file finding)

abbrev pub finding_line : Style → Node → Option Finding → List ℕ
finding_line style node finding = file_line style node.at (file_in node) finding

-- after the findings how many items no offset reaches, where there are some, and else that all is right, where
-- nothing is found
abbrev pub right_line : Style → ℕ → List ℕ
right_line Text records = shown_line (codes "OK " ∷ decimal records ∷ codes " records" ∷ [])
right_line Json records = json_line (right_json records)

abbrev pub unreached_line : Style → ℕ → List ℕ
unreached_line Text unreached = shown_line (codes "UNREACHED " ∷ decimal unreached ∷ [])
unreached_line Json unreached = json_line (unreached_json unreached)

abbrev pub end_line : Style → List ℕ → Walk → List ℕ
end_line style findings walk =
    if walk.unreached == 0 then (if is_empty findings then right_line style (record_count walk.trees) else [])
    else unreached_line style walk.unreached

abbrev pub is_right : List ℕ → Walk → Bool
is_right findings walk = is_empty findings && (walk.unreached == 0)

-- the most bytes of a file that is read: 4 GiB less one
abbrev pub most_read : ℕ
most_read = 4294967295

-- ---- What is found in files that hold this, in a folder, by this comparison. Their readers say what they gave, what
-- they have left, how many reads they had and how many of these failed.

module _ {R : Type 0} (readers : ReadOf R) (held : Option Held) (folder : List ℕ) (comparison : Comparison) where
  -- The file that a record names was opened for a reader, and this is found by reading it. What the reader gave and
  -- what it has left are the bytes at the file's path, where these are known. It was read at most once for each byte
  -- and once more.
  pub record FindsRead (standing : Standing) (finding : Option Finding) : Type 0 where
    pub path : List ℕ
    pub place : IsPathIn folder (id_path (file_in standing.node)) path
    pub reader : R
    pub given : List ℕ
    pub gave : (past : readers.Past) → readers.has_given reader past given
    pub stored : IfSome held (λ files.
        IsSome (files.bytes_at path) × Consumes (files.bytes_at path) (readers.remaining reader) given)
    pub reads : readers.calls reader ≤ most_read + 1
    pub found : IsFound finding (found_in comparison standing) most_read given (readers.remaining reader) 0
        (readers.failures reader)

  -- What is found of the file that a record names. The files had refused `old` calls before, and have refused `new`.
  pub record FindsFile (standing : Standing) (old new : ℕ) (finding : Option Finding) : Type 0 where
    pub unnamed : ¬ NamesFile standing.node → (finding ≡ None) × (new ≡ old)
    pub misnamed : NamesFile standing.node → ¬ IsFileId (file_in standing.node)
        → (finding ≡ Some BadId) × (new ≡ old)
    -- it is missing where it was not opened, which is a refusal that counts, and else it is read
    pub named : NamesFile standing.node → IsFileId (file_in standing.node)
        → ((finding ≡ Some Missing) × (new ≡ counted old)) ⊎ (HasWorked old new × FindsRead standing finding)

-- What a check says of such files, in this style.
module _ {R : Type 0} (readers : ReadOf R) (held : Option Held) (folder : List ℕ) (comparison : Comparison)
    (style : Style) where
  -- what a check says of a record
  pub record TellsRecord (standing : Standing) (old new : ℕ) (text : List ℕ) : Type 0 where
    pub finding : Option Finding
    pub finds : FindsFile readers held folder comparison standing old new finding
    pub line : text ≡ finding_line style standing.node finding

  -- what it says of records, one after the other
  abbrev pub TellsAll : List Standing → ℕ → ℕ → List ℕ → Type 0
  TellsAll [] old new text = (new ≡ old) × (text ≡ [])
  TellsAll (standing ∷ others) old new text = (here : List ℕ) × (later : List ℕ) × (mid : ℕ)
      × (text ≡ here ++ later) × TellsRecord standing old mid here × TellsAll others mid new later

  -- what it says of the first of these records, and not of the others
  pub record TellsFirst (all : List Standing) (old new : ℕ) (text : List ℕ) : Type 0 where
    pub first : List Standing
    pub others : List Standing
    pub parts : all ≡ first ++ others
    pub told : TellsAll first old new text

  -- what it says of all of a directory, and whether something is found
  abbrev pub TellsWalk : Walk → Bool → ℕ → ℕ → List ℕ → Type 0
  TellsWalk walk found old new text = (findings : List ℕ) × TellsAll (standings_below [] walk.trees) old new findings
      × (found ≡ not (is_right findings walk)) × (text ≡ findings ++ end_line style findings walk)

  -- what it says of a directory up to some place: of its first records, or of all of it
  abbrev pub TellsSome : Walk → ℕ → ℕ → List ℕ → Type 0
  TellsSome walk old new text =
      TellsFirst (standings_below [] walk.trees) old new text ⊎ ((found : Bool) × TellsWalk walk found old new text)

  -- ---- the answers of a check

  -- What it says of these records went on its way, and the answer says whether something was found. Where memory ran
  -- out it speaks of the first of them, and where the writer failed, it failed in what was to go.
  abbrev pub Checks : List Standing → Result Bool ReportFault → ℕ → ℕ → Way → Way → Type 0
  Checks all (Ok found) old new from to =
      (text : List ℕ) × TellsAll all old new text × (found ≡ not (is_empty text)) × GoesOn text from to
  Checks all (Err Memory) old new from to = (text : List ℕ) × TellsFirst all old new text × GoesOn text from to
  Checks all (Err Unsent) old new from to = (text : List ℕ) × TellsFirst all old new text × Fails text from to

  -- the same of a directory
  abbrev pub ChecksAll : Walk → Result Bool ReportFault → ℕ → ℕ → Way → Way → Type 0
  ChecksAll walk (Ok found) old new from to =
      (text : List ℕ) × TellsWalk walk found old new text × GoesOn text from to
  ChecksAll walk (Err Memory) old new from to =
      (text : List ℕ) × TellsFirst (standings_below [] walk.trees) old new text × GoesOn text from to
  ChecksAll walk (Err Unsent) old new from to = (text : List ℕ) × TellsSome walk old new text × Fails text from to
