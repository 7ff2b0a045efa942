-- What a file says of itself against what the records of a directory say of it, element by element (PS3.3 sections
-- F.3.2.2 and F.5, PS3.10 section 7.1).
use Rattle.std.specs.Prelude.{◌≡◌, ◌==◌, ◌&&◌, not, ℕ, Bool, List, [], ◌∷◌, ◌++◌, length, take, find}
use Rattle.std.specs.Prelude.{Option, None, Some, is_some, option_map, Result, Ok, Err, if◌then◌else◌}
use Rattle.std.specs.Option.{option_or}
use Rattle.std.specs.Str.{bytes_eq}
use Rattle.dd_elem.specs.declared.tag.Tag.{Tag}
use Rattle.dd_set.specs.Find.{find_in}
use Rattle.dd_scan.specs.Scan.{summary_length, summary_of_value}
use Rattle.dd_scan.specs.Summaries.{summary_view}
use Rattle.dd_scan.specs.declared.summary.Summary.{Summary}
use Rattle.dd_part10.specs.declared.fault.FileFault.{FileFault}
use Rattle.dd_part10.specs.declared.fault.FileFault.TheVariants.{OtherSyntax}
use Rattle.dd_encoding.specs.Meta.{class_tag, instance_tag, transfer_tag}
use Rattle.dd_part10.specs.Reading.{FileParts, file_in}
use Rattle.dd_keys.specs.Table.{patient_id_row}
use Rattle.dd_keys.specs.Values.{or_other}
use Rattle.dd_records.specs.declared.level.Level.TheVariants.{Image}
use Rattle.dd_records.specs.ElementForms.{tag}
use Rattle.dd_records.specs.Records.{kind_of}
use Rattle.dd_walk.specs.ForestViews.{Branch}
use Rattle.dd_walk.specs.Saying.{digest_in, key_of}
use Rattle.dd_walk.specs.Trees.{Node, Trees, no_trees, tree}
use Rattle.dd_report.specs.declared.checking.Comparison.{Comparison}
use Rattle.dd_report.specs.declared.findings.Finding.{Finding}
use Rattle.dd_report.specs.declared.findings.Finding.TheVariants.{Mislabelled, NoFile}
use Rattle.dd_report.specs.declared.agreements.Inherited.{Inherited}
use Rattle.dd_report.specs.Finding.{by_digest, without_digest}

-- ---- a record and those above it

-- a record, and the records above it, the nearest first
pub record Standing : Type 0 where
  pub node : Node
  pub above : List Node

abbrev pub standing_below : List Node → Node → Standing
standing_below above node = record { node = node; above = above }

-- the records of trees that stand below these, depth first
abbrev pub standings_below : List Node → Trees → List Standing
standings_below above no_trees = []
standings_below above (tree node below after) =
    standing_below above node ∷ (standings_below (node ∷ above) below ++ standings_below above after)

-- a record that stands below these, and the records below it
abbrev pub branch_standings : List Node → Branch → List Standing
branch_standings above branch = standing_below above branch.node ∷ standings_below (branch.node ∷ above) branch.below

-- the value that a record has at a tag: no bytes where there is no record
abbrev pub value_in : Tag → Option Node → List ℕ
value_in wanted None = []
value_in wanted (Some node) = key_of wanted node.set

-- the value of the nearest of these records that has the element
abbrev pub nearest : Tag → List Node → List ℕ
nearest wanted nodes = value_in wanted (find (λ node. is_some (find_in wanted node.set)) nodes)

-- ---- two values

-- they have one length and the same first 1,024 bytes
abbrev pub agree : List ℕ → List ℕ → Bool
agree one two = (length one == length two) && bytes_eq (take summary_length one) (take summary_length two)

-- a tag of the file, and whether its value there agrees with what the records say
abbrev pub Agreement : Type 0
Agreement = Tag × Bool

abbrev pub agreement : Tag → List ℕ → List ℕ → Agreement
agreement wanted in_file in_records = (wanted, agree in_file in_records)

-- a Patient ID, for which `NOID` stands where it is empty and this program has written the record
abbrev pub patient_id : Bool → List ℕ → List ℕ
patient_id is_own value = if is_own then or_other value patient_id_row.when_empty else value

-- ---- a file

-- the tags of the data set that are compared: SOP Class UID, SOP Instance UID, Patient ID, Study Instance UID and
-- Series Instance UID
abbrev pub compared_tags : List Tag
compared_tags = tag 0x0008 0x0016 ∷ tag 0x0008 0x0018 ∷ tag 0x0010 0x0020 ∷ tag 0x0020 0x000d ∷ tag 0x0020 0x000e ∷ []

module _ (standing : Standing) where
  -- the record has a digest, as each IMAGE record has that this program writes
  abbrev pub has_digest : Bool
  has_digest = is_some (digest_in standing.node.set)

  -- what the record itself says: Referenced SOP Class UID, SOP Instance UID and Transfer Syntax UID in File
  abbrev pub recorded_class : List ℕ
  recorded_class = key_of (tag 0x0004 0x1510) standing.node.set

  abbrev pub recorded_instance : List ℕ
  recorded_instance = key_of (tag 0x0004 0x1511) standing.node.set

  abbrev pub recorded_transfer : List ℕ
  recorded_transfer = key_of (tag 0x0004 0x1512) standing.node.set

  -- the value that the record has, or the nearest record above it that has the element
  abbrev pub inherited : Tag → List ℕ
  inherited wanted = nearest wanted (standing.node ∷ standing.above)

  abbrev pub syntax_agreement : List ℕ → Agreement
  syntax_agreement transfer = agreement transfer_tag transfer recorded_transfer

  -- all that are compared, in the order of the file's tags
  abbrev pub agreements : FileParts → List Agreement
  agreements file =
      agreement class_tag file.meta.class recorded_class
      ∷ agreement instance_tag file.meta.instance recorded_instance
      ∷ syntax_agreement file.meta.transfer
      ∷ agreement (tag 0x0008 0x0016) (key_of (tag 0x0008 0x0016) file.set) recorded_class
      ∷ agreement (tag 0x0008 0x0018) (key_of (tag 0x0008 0x0018) file.set) recorded_instance
      ∷ agreement (tag 0x0010 0x0020) (patient_id has_digest (key_of (tag 0x0010 0x0020) file.set))
      (patient_id has_digest (inherited (tag 0x0010 0x0020)))
      ∷ agreement (tag 0x0020 0x000d) (key_of (tag 0x0020 0x000d) file.set) (inherited (tag 0x0020 0x000d))
      ∷ agreement (tag 0x0020 0x000e) (key_of (tag 0x0020 0x000e) file.set) (inherited (tag 0x0020 0x000e))
      ∷ []

-- the first tag whose values do not agree, so the least one
abbrev pub first_wrong : List Agreement → Option Finding
first_wrong all = option_map (λ (a : Agreement). Mislabelled a.0) (find (λ (a : Agreement). not a.1) all)

-- what is found of an image, by what reading its file gives: where the file has a transfer syntax that is not read, the
-- transfer syntax alone is compared
abbrev pub mislabelled : Standing → Result FileParts FileFault → Option Finding
mislabelled standing (Ok file) = first_wrong (agreements standing file)
mislabelled standing (Err (OtherSyntax transfer)) = first_wrong (syntax_agreement standing transfer ∷ [])
mislabelled standing (Err fault) = Some (NoFile fault)

-- ---- what is found of bytes that were read whole

abbrev pub is_image : Node → Bool
is_image node = bytes_eq node.kind (kind_of Image)

-- what is found by the digest, and, where that does not differ, by what the file says of itself
abbrev pub by_keys : Standing → List ℕ → Option Finding
by_keys standing given = option_or (by_digest standing.node given) (mislabelled standing (file_in given))

-- what a comparison of keys or of digests alone finds: what a file says of itself is compared with IMAGE records alone
abbrev pub compared_by : Bool → Standing → List ℕ → Option Finding
compared_by keys standing given =
    if keys && is_image standing.node then by_keys standing given else by_digest standing.node given

-- what is found by this comparison: that the record has no digest is found where it is strict and nothing else is found
abbrev pub found_in : Comparison → Standing → List ℕ → Option Finding
found_in comparison standing given =
    option_or (compared_by comparison.keys standing given) (without_digest comparison.strict standing.node)

-- ---- what the code holds

-- each inherited value is from the nearest of these records that has the element
pub record IsInherited (said : Inherited) (nodes : List Node) : Type 0 where
  pub patient_id : said.patient_id.now ≡ nearest (tag 0x0010 0x0020) nodes
  pub study : said.study.now ≡ nearest (tag 0x0020 0x000d) nodes
  pub series : said.series.now ≡ nearest (tag 0x0020 0x000e) nodes

-- it is the summary of a value
abbrev pub SumsUp : Summary → List ℕ → Type 0
SumsUp summary value = summary_view (Some summary) ≡ summary_of_value (Some value)
