-- The elements of a directory around its records, and what stands before the first one (PS3.3 sections F.3.2.1 and
-- F.3.2.2, PS3.10 section 8.6).
use Rattle.std.specs.Prelude.{ℕ, ◌+◌, List, [], ◌∷◌, ◌++◌, length, Some, codes}
use Rattle.dd_elem.specs.declared.vr.Vr.TheVariants.{CS, SQ}
use Rattle.dd_encoding.specs.declared.meta.Meta.{Meta}
use Rattle.dd_encoding.specs.Head.{head_text}
use Rattle.dd_encoding.specs.declared.syntax.Length.TheVariants.{Defined}
use Rattle.dd_encoding.specs.Elements.{Element, Item, items, elements_of, items_of}
use Rattle.dd_encoding.specs.Spelling.{elements_text}
use Rattle.dd_records.specs.declared.label.Label.{Label}
use Rattle.dd_records.specs.ElementForms.{tag, text_element, long_element, short_element}

-- what stands before the records: File-set ID, the offsets of the first and of the last root record, the
-- consistency flag
abbrev pub front_elements : List ℕ → ℕ → ℕ → List Element
front_elements id first last =
    text_element (tag 0x0004 0x1130) CS id ∷ long_element (tag 0x0004 0x1200) first
    ∷ long_element (tag 0x0004 0x1202) last
    ∷ short_element (tag 0x0004 0x1212) 0x0000 ∷ []

-- the sequence of the records
abbrev pub records_element : List Item → Element
records_element records = record { tag = tag 0x0004 0x1220; vr = Some SQ; content = items Defined (items_of records) }

-- the elements of a directory up to its records
abbrev pub directory_elements : List ℕ → ℕ → ℕ → List Item → List Element
directory_elements id first last records = front_elements id first last ++ (records_element records ∷ [])

-- the class of directories, Media Storage Directory Storage (PS3.4 annex I.4, PS3.6 annex A)
abbrev pub directory_class : List ℕ
directory_class = codes "1.2.840.10008.1.3.10"

-- Explicit VR Little Endian, in which a directory is encoded (PS3.10 section 8.6)
abbrev pub directory_syntax : List ℕ
directory_syntax = codes "1.2.840.10008.1.2.1"

-- what stands in group 0002 of a directory
abbrev pub meta_of : Label → Meta
meta_of label = record { class = directory_class; instance = label.uid; transfer = directory_syntax }

-- the bytes before the first record
abbrev pub first_offset : Label → ℕ
first_offset label =
    length (head_text (meta_of label)) + length (elements_text (elements_of (directory_elements label.id 0 0 [])))
