-- The tags of group 0002, the file meta information (PS3.10 section 7.1).
use Rattle.std.specs.Prelude.{ℕ}
use Rattle.dd_elem.specs.declared.tag.Tag.{Tag}

-- its group number
abbrev pub meta_group : ℕ
meta_group = 0x0002

-- File Meta Information Group Length, Media Storage SOP Class UID, Media Storage SOP Instance UID, Transfer Syntax UID
abbrev pub group_length_tag : Tag
group_length_tag = record { group = meta_group; element = 0x0000 }

abbrev pub class_tag : Tag
class_tag = record { group = meta_group; element = 0x0002 }

abbrev pub instance_tag : Tag
instance_tag = record { group = meta_group; element = 0x0003 }

abbrev pub transfer_tag : Tag
transfer_tag = record { group = meta_group; element = 0x0010 }
