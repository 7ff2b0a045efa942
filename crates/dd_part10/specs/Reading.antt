-- Reading a file from left to right, check by check: what it holds, or the first check that fails (PS3.10 section 7).
use Rattle.std.specs.Prelude.{ℕ, ◌+◌, List, [], ◌∷◌, length, take, drop, Bool, true, ◌&&◌, not, Option, Some, None}
use Rattle.std.specs.Prelude.{Result, Ok, Err, nat_lt, ◌==◌, if◌then◌else◌}
use Rattle.std.specs.Int.{w32, from_le_bytes}
use Rattle.std.specs.List.{list_all}
use Rattle.std.specs.Option.{ok_or}
use Rattle.dd_elem.specs.Clean.{clean_of}
use Rattle.dd_elem.specs.Uid.{is_uid}
use Rattle.dd_elem.specs.declared.tag.Tag.{Tag}
use Rattle.dd_elem.specs.declared.vr.Vr.TheVariants.{UL}
use Rattle.dd_grammar.specs.declared.fault.SetFault.{SetFault}
use Rattle.dd_encoding.specs.declared.syntax.Syntax.{Syntax}
use Rattle.dd_encoding.specs.declared.syntax.Syntax.TheVariants.{Explicit}
use Rattle.dd_encoding.specs.Elements.{Elements, Content, bytes, items, fragments}
use Rattle.dd_set.specs.Find.{find_in}
use Rattle.dd_grammar.specs.Lists.{element_list}
use Rattle.dd_grammar.specs.Reading.{read_all, ◌>>=◌}
use Rattle.dd_scan.specs.Scan.{first_of}
use Rattle.dd_encoding.specs.Spelling.{header_text}
use Rattle.dd_part10.specs.declared.fault.FileFault.{FileFault}
use Rattle.dd_part10.specs.declared.fault.FileFault.TheVariants.{NotPart10, GroupLength, MetaMissing, MetaUid}
use Rattle.dd_part10.specs.declared.fault.FileFault.TheVariants.{OtherSyntax}
use Rattle.dd_part10.specs.declared.fault.FileFault.TheVariants as faults
use Rattle.dd_encoding.specs.declared.meta.Meta.{Meta}
use Rattle.dd_encoding.specs.Head.{preamble_length, prefix}
use Rattle.dd_part10.specs.File.{group_length_size, group_at, max_group_length}
use Rattle.dd_encoding.specs.Meta.{meta_group, group_length_tag, class_tag, instance_tag, transfer_tag}
use Rattle.dd_encoding.specs.Syntaxes.{syntax_of}

-- what a file holds: its meta information, its data set, and the place of the data set's first byte
pub record FileParts : Type 0 where
  pub meta : Meta
  pub set : Elements
  pub set_at : ℕ

-- what reading a data set gives, with its fault as one of the file
abbrev pub with_fault : {A : Type 0} → (SetFault → FileFault) → Result A SetFault → Result A FileFault
with_fault fault (Ok x) = Ok x
with_fault fault (Err e) = Err (fault e)

-- what stands after a front that the bytes begin with
abbrev pub rest_after : List ℕ → List ℕ → Option (List ℕ)
rest_after [] bs = Some bs
rest_after (first ∷ front) [] = None
rest_after (first ∷ front) (byte ∷ bs) = if first == byte then rest_after front bs else None

-- ---- the preamble and the prefix

-- what stands after them
unfoldable pub rest_after_prefix : List ℕ → Result (List ℕ) FileFault
rest_after_prefix bs = ok_or (rest_after prefix (drop preamble_length bs)) NotPart10

-- ---- the group length

-- the number that it holds
unfoldable pub count_in : List ℕ → Result ℕ FileFault
count_in bs = ok_or (rest_after (header_text group_length_tag (Some UL) 4) bs) GroupLength
    >>= λ rest. if nat_lt (length rest) 4 then Err GroupLength
    else (if nat_lt max_group_length (from_le_bytes w32 rest) then Err GroupLength else Ok (from_le_bytes w32 rest))

-- a number of bytes, and the others after them
abbrev pub split_at : ℕ → List ℕ → Result (List ℕ × List ℕ) FileFault
split_at n bs = if nat_lt (length bs) n then Err GroupLength else Ok (take n bs, drop n bs)

-- the bytes after it that it counts, and the others after them
unfoldable pub after_length : List ℕ → Result (List ℕ × List ℕ) FileFault
after_length bs = count_in bs >>= λ n. split_at n (drop group_length_size bs)

-- ---- the meta information

-- the elements are of group 0002 alone, and none is the group length
abbrev pub is_meta_tag : Tag → Bool
is_meta_tag tag = (tag.group == meta_group) && not (tag.element == 0x0000)

abbrev pub is_alone : Elements → Bool
is_alone group = list_all (λ e. is_meta_tag e.tag) (element_list group)

-- the UID that the first element with a tag holds
abbrev pub uid_of : Tag → Content → Result (List ℕ) FileFault
uid_of tag (bytes v) = if is_uid (clean_of v) then Ok (clean_of v) else Err (MetaUid tag)
uid_of tag (items form parts) = Err (MetaUid tag)
uid_of tag (fragments fs) = Err (MetaUid tag)

-- the element is there, and holds a UID
unfoldable pub uid_at : Tag → Elements → Result (List ℕ) FileFault
uid_at tag group = ok_or (find_in tag group) (MetaMissing tag) >>= λ e. uid_of tag e.content

-- the three UIDs, in turn
unfoldable pub uids_in : Elements → Result Meta FileFault
uids_in group = uid_at class_tag group >>= λ class. uid_at instance_tag group >>= λ instance. uid_at transfer_tag group
    >>= λ transfer. Ok (record { class = class; instance = instance; transfer = transfer })

-- the syntax that it names
abbrev pub syntax_in : Meta → Result Syntax FileFault
syntax_in meta = ok_or (syntax_of meta.transfer) (OtherSyntax meta.transfer)

-- the meta information in the bytes after the group length
unfoldable pub meta_in : List ℕ → Result Meta FileFault
meta_in text = with_fault faults.Meta (read_all Explicit text) >>= λ group. if is_alone group then uids_in group
    else Err GroupLength

-- ---- the data set

-- a data set with this first tag may follow group 0002: it is of a higher group
abbrev pub may_follow : Option Tag → Bool
may_follow None = true
may_follow (Some tag) = nat_lt meta_group tag.group

abbrev pub starts_above : Elements → Bool
starts_above set = may_follow (first_of set)

-- the data set in the bytes after group 0002
unfoldable pub set_in : Syntax → List ℕ → Result Elements FileFault
set_in syntax text =
    with_fault faults.Set (read_all syntax text) >>= λ set. if starts_above set then Ok set else Err GroupLength

-- ---- the whole

-- a file
unfoldable pub file_in : List ℕ → Result FileParts FileFault
file_in file = rest_after_prefix file >>= λ rest. after_length rest >>= λ parts. meta_in parts.0
    >>= λ meta. syntax_in meta >>= λ syntax. set_in syntax parts.1
    >>= λ set. Ok (record { meta = meta; set = set; set_at = group_at + length parts.0 })
