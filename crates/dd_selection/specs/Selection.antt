-- What is asked for, and the records that have it.
use Rattle.std.specs.Prelude.{ℕ, Bool, true, false, ◌&&◌, List, [], ◌∷◌, String, if◌then◌else◌, map, string_bytes}
use Rattle.std.specs.List.{list_any}
use Rattle.std.specs.Str.{bytes_eq}
use Rattle.dd_elem.specs.Clean.{clean_of}
use Rattle.dd_elem.specs.declared.tag.Tag.{Tag}
use Rattle.dd_records.specs.declared.level.Level.{Level}
use Rattle.dd_records.specs.declared.level.Level.TheVariants.{Patient, Study, Series, Image}
use Rattle.dd_records.specs.ElementForms.{tag}
use Rattle.dd_records.specs.Records.{kind_of}
use Rattle.dd_walk.specs.Saying.{key_of}
use Rattle.dd_walk.specs.Trees.{Node}
use Rattle.dd_selection.specs.declared.selection.Selection.{Selection}

-- the values that are asked for, of each kind
pub record Values : Type 0 where
  pub patients : List (List ℕ)
  pub studies : List (List ℕ)
  pub series : List (List ℕ)
  pub instances : List (List ℕ)

abbrev pub texts_view : {Z : Type 0} → List (String Z) → List (List ℕ)
texts_view {Z} texts = map (λ (text : String Z). clean_of (string_bytes text)) texts

abbrev pub selection_view : Selection → Values
selection_view selection = record {
  patients = texts_view selection.patients.now;
  studies = texts_view selection.studies.now;
  series = texts_view selection.series.now;
  instances = texts_view selection.instances.now;
}

-- the element by which a record of this level is asked for (PS3.3 section F.5): the Patient ID, the Study Instance UID,
-- the Series Instance UID, and the SOP Instance UID of the file
abbrev pub tag_of : Level → Tag
tag_of Patient = tag 0x0010 0x0020
tag_of Study = tag 0x0020 0x000d
tag_of Series = tag 0x0020 0x000e
tag_of Image = tag 0x0004 0x1511

-- a record is of this level, and has one of these values
abbrev pub has_one_of : Level → List (List ℕ) → Node → Bool
has_one_of level values node =
    bytes_eq node.kind (kind_of level)
    && list_any (λ value. bytes_eq value (key_of (tag_of level) node.set)) values

-- ---- whether nothing is asked for

abbrev pub has_none : List (List ℕ) → Bool
has_none [] = true
has_none (value ∷ values) = false

abbrev pub selects_all : Values → Bool
selects_all values =
    has_none values.patients && (has_none values.studies && (has_none values.series && has_none values.instances))

-- ---- what is still asked for below a record, and of itself

abbrev pub left_of : Level → List (List ℕ) → Node → List (List ℕ)
left_of level values node = if has_one_of level values node then [] else values

abbrev pub left_below : Values → Node → Values
left_below values node = record {
  patients = left_of Patient values.patients node;
  studies = left_of Study values.studies node;
  series = left_of Series values.series node;
  instances = left_of Image values.instances node;
}
