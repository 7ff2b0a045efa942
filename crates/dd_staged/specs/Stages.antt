-- A stage: the list of sources as a data set in Explicit VR, and its bytes. It is a sequence of items (PS3.5 section
-- 7.5) in a block of private elements (PS3.5 section 7.8.1).
use Rattle.std.specs.Prelude.{◌≡◌, ◌<◌, ◌^◌, ℕ, suc, List, [], ◌∷◌, ◌++◌, length, map, Some, Result, Ok, Err}
use Rattle.std.specs.Prelude.{unwrap_or}
use Rattle.std.specs.List.{AllByRecursion}
use Rattle.byteorder.specs.Endian.{little_bytes}
use Rattle.sha2.specs.Sha256.{sha256}
use Rattle.dd_elem.specs.declared.tag.Tag.{Tag}
use Rattle.dd_elem.specs.declared.vr.Vr.TheVariants.{AT, CS, DA, IS, LO, OB, PN, SH, SQ, TM, UL, UV}
use Rattle.dd_version.specs.Fitting.{tag}
use Rattle.dd_version.specs.declared.parts.Parts.{Parts}
use Rattle.dd_encoding.specs.declared.syntax.Length.TheVariants.{Defined, Undefined}
use Rattle.dd_encoding.specs.Elements.{Elements, Element, Item, Items, elements_of, item, items, items_of, no_items}
use Rattle.dd_encoding.specs.Spelling.{elements_text, header_text, undefined_length}
use Rattle.dd_set.specs.Single.{element_text}
use Rattle.dd_staged.specs.declared.code.Code.{Code}
use Rattle.dd_staged.specs.declared.source_fault.SourceFault.{SourceFault}
use Rattle.dd_staged.specs.Codes.{code_of}
use Rattle.dd_staged.specs.Forms.{bytes_element, text_element, uid_element, name_value, creator_element}
use Rattle.dd_staged.specs.Sources.{IsSource, Source}

-- the name of a source, and the length of its copy in 8 bytes
abbrev pub name_element : List ℕ → Element
name_element name = bytes_element (tag 0x0009 0x1005) OB (name_value name)

abbrev pub size_element : List ℕ → Element
size_element size = bytes_element (tag 0x0009 0x1006) UV size

-- a source with a version: its keys under their tags, and between them the block of private elements
abbrev pub version_elements : List ℕ → List ℕ → Parts → List Element
version_elements name size parts =
    uid_element (tag 0x0004 0x1510) parts.class
    ∷ uid_element (tag 0x0004 0x1511) parts.instance
    ∷ uid_element (tag 0x0004 0x1512) parts.transfer
    ∷ text_element (tag 0x0008 0x0005) CS parts.study.charset
    ∷ text_element (tag 0x0008 0x0020) DA parts.study.date
    ∷ text_element (tag 0x0008 0x0030) TM parts.study.time
    ∷ text_element (tag 0x0008 0x0050) SH parts.study.accession
    ∷ text_element (tag 0x0008 0x0060) CS parts.series.modality
    ∷ text_element (tag 0x0008 0x1030) LO parts.study.description
    ∷ creator_element
    ∷ bytes_element (tag 0x0009 0x1001) OB parts.digest
    ∷ name_element name
    ∷ size_element size
    ∷ text_element (tag 0x0009 0x1007) CS parts.patient.charset
    ∷ text_element (tag 0x0010 0x0010) PN parts.patient.name
    ∷ text_element (tag 0x0010 0x0020) LO parts.patient.id
    ∷ uid_element (tag 0x0020 0x000d) parts.study.uid
    ∷ uid_element (tag 0x0020 0x000e) parts.series.uid
    ∷ text_element (tag 0x0020 0x0010) SH parts.study.id
    ∷ text_element (tag 0x0020 0x0011) IS parts.series.number
    ∷ text_element (tag 0x0020 0x0013) IS parts.number
    ∷ []

-- a source without one: the numbers of its fault, and the tag, the UID and the number that the fault names
abbrev pub fault_elements : List ℕ → List ℕ → Code → List Element
fault_elements name size code =
    creator_element
    ∷ name_element name
    ∷ size_element size
    ∷ bytes_element (tag 0x0009 0x1008) OB code.numbers
    ∷ bytes_element (tag 0x0009 0x1009) AT code.tag
    ∷ uid_element (tag 0x0009 0x100a) (unwrap_or code.uid [])
    ∷ bytes_element (tag 0x0009 0x100c) UL code.place
    ∷ []

abbrev pub found_elements : List ℕ → List ℕ → Result Parts SourceFault → List Element
found_elements name size (Ok parts) = version_elements name size parts
found_elements name size (Err fault) = fault_elements name size (code_of fault)

abbrev pub source_elements : Source → List Element
source_elements source = found_elements source.name (little_bytes 8 source.size) source.found

-- an item of defined length
abbrev pub item_with : List Element → Item
item_with elements = record { length = Defined; set = elements_of elements }

abbrev pub source_item : Source → Item
source_item source = item_with (source_elements source)

abbrev pub source_items : List Source → Items
source_items sources = items_of (map source_item sources)

-- the list: the creator of the block, the number of items, and the items in a sequence that a delimiter ends
abbrev pub count_of : Items → ℕ
count_of no_items = 0
count_of (item form set others) = suc (count_of others)

abbrev pub count_element : List ℕ → Element
count_element count = bytes_element (tag 0x0009 0x1003) UL count

abbrev pub items_tag : Tag
items_tag = tag 0x0009 0x1004

abbrev pub items_element : Items → Element
items_element parts = record { tag = items_tag; vr = Some SQ; content = items Undefined parts }

abbrev pub list_elements : Items → List Element
list_elements parts = creator_element ∷ count_element (little_bytes 4 (count_of parts)) ∷ items_element parts ∷ []

abbrev pub list_text : Items → List ℕ
list_text parts = elements_text (elements_of (list_elements parts))

-- after it the SHA-256 (FIPS 180-4) of its bytes
abbrev pub digest_element : List ℕ → Element
digest_element digest = bytes_element (tag 0x0009 0x100b) OB digest

abbrev pub set_with : Items → List ℕ → Elements
set_with parts digest = elements_of (list_elements parts ++ digest_element digest ∷ [])

abbrev pub stage_set : Items → Elements
stage_set parts = set_with parts (sha256 (list_text parts))

-- the bytes of the whole
abbrev pub stage_text : List Source → List ℕ
stage_text sources = elements_text (stage_set (source_items sources))

-- ---- parts of it

-- the elements before the items, and all bytes before these
abbrev pub front_elements : List ℕ → List Element
front_elements count = creator_element ∷ count_element count ∷ []

abbrev pub opening_text : ℕ → List ℕ
opening_text count = elements_text (elements_of (front_elements (little_bytes 4 count)))
    ++ header_text items_tag (Some SQ) undefined_length

-- ---- the relations

-- the bytes end in an element with the digest of those before it
pub record EndsInDigest (bytes : List ℕ) : Type 0 where
  pub before : List ℕ
  pub whole : bytes ≡ before ++ element_text (digest_element (sha256 before))

-- the bytes spell the list
pub record IsStage (bytes : List ℕ) (sources : List Source) : Type 0 where
  pub each : AllByRecursion IsSource sources
  pub text : bytes ≡ stage_text sources
  pub short : length bytes < 2 ^ 32
