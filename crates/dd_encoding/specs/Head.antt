-- The head of a file that is written: all that stands before its data set (PS3.10 section 7.1).
use Rattle.std.specs.Prelude.{ℕ, ◌%◌, List, [], ◌∷◌, ◌++◌, length, replicate, Some, ◌==◌, if◌then◌else◌, codes}
use Rattle.byteorder.specs.Endian.{little_bytes}
use Rattle.dd_elem.specs.declared.tag.Tag.{Tag}
use Rattle.dd_elem.specs.declared.vr.Vr.TheVariants.{OB, UI, UL}
use Rattle.dd_encoding.specs.Elements.{Elements, no_elements, element, bytes}
use Rattle.dd_encoding.specs.Spelling.{elements_text, tag_text, content_text}
use Rattle.dd_encoding.specs.declared.meta.Meta.{Meta}
use Rattle.dd_encoding.specs.Meta.{meta_group, group_length_tag, class_tag, instance_tag, transfer_tag}

-- the preamble's length, and the prefix after it
abbrev pub preamble_length : ℕ
preamble_length = 128

abbrev pub prefix : List ℕ
prefix = codes "DICM"

-- the group length: the element (0002,0000), which says how many bytes of its group stand after it
abbrev pub group_length_text : ℕ → List ℕ
group_length_text n = elements_text (element group_length_tag (Some UL) (bytes (little_bytes 4 n)) no_elements)

-- File Meta Information Version and Implementation Class UID
abbrev pub version_tag : Tag
version_tag = record { group = meta_group; element = 0x0001 }

abbrev pub implementation_tag : Tag
implementation_tag = record { group = meta_group; element = 0x0012 }

-- the Implementation Class UID of this software
abbrev pub implementation_uid : List ℕ
implementation_uid = codes "2.25.604472133179352588043346"

-- what is put after n characters of a UID, so that its length is even (PS3.5 section 9.1)
abbrev pub padding_of : ℕ → List ℕ
padding_of n = if n % 2 == 1 then 0 ∷ [] else []

-- the value of a UID
abbrev pub padded : List ℕ → List ℕ
padded uid = uid ++ padding_of (length uid)

-- an element with a UID, before others
abbrev pub uid_element : Tag → List ℕ → Elements → Elements
uid_element tag uid rest = element tag (Some UI) (bytes (padded uid)) rest

-- group 0002 after the group length
abbrev pub group_of : Meta → Elements
group_of meta =
    element version_tag (Some OB) (bytes (0x00 ∷ 0x01 ∷ []))
    (uid_element class_tag meta.class
    (uid_element instance_tag meta.instance
    (uid_element transfer_tag meta.transfer
    (uid_element implementation_tag implementation_uid no_elements))))

-- its bytes
unfoldable pub group_text : Meta → List ℕ
group_text meta = elements_text (group_of meta)

-- the head: a preamble of zeros, the prefix, the group length and group 0002
unfoldable pub head_text : Meta → List ℕ
head_text meta =
    replicate preamble_length 0 ++ (prefix ++ (group_length_text (length (group_text meta)) ++ group_text meta))

-- ---- parts of it

-- an element with a UID
abbrev pub uid_text : Tag → List ℕ → List ℕ
uid_text tag uid = tag_text tag ++ content_text (Some UI) (bytes (padded uid))

-- the UIDs after the version
unfoldable pub uids_text : Meta → List ℕ
uids_text meta = uid_text class_tag meta.class
    ++ (uid_text instance_tag meta.instance ++ (uid_text transfer_tag meta.transfer
    ++ uid_text implementation_tag implementation_uid))
