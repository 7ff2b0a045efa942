-- What a DICOM file is: a relation between its bytes, its meta information, its data set and the place of the data
-- set's first byte (PS3.10 section 7).
use Rattle.std.specs.Prelude.{◌≡◌, ℕ, ◌+◌, ◌<◌, ◌≤◌, List, ◌++◌, length, Some}
use Rattle.dd_encoding.specs.declared.syntax.Syntax.{Syntax}
use Rattle.dd_encoding.specs.declared.syntax.Syntax.TheVariants.{Explicit}
use Rattle.dd_encoding.specs.Elements.{Elements, no_elements, element}
use Rattle.dd_encoding.specs.Head.{preamble_length, prefix, group_length_text}
use Rattle.dd_encoding.specs.Meta.{meta_group}
use Rattle.dd_encoding.specs.Spelling.{Spells}
use Rattle.dd_encoding.specs.declared.meta.Meta.{Meta}
use Rattle.dd_part10.specs.Meta.{IsMeta}
use Rattle.dd_encoding.specs.Syntaxes.{syntax_of}

-- group 0002 has at most this number of bytes after its group length
abbrev pub max_group_length : ℕ
max_group_length = 65536

-- the element (0002,0000), which says how many bytes of its group stand after it: 12 bytes
abbrev pub group_length_size : ℕ
group_length_size = 12

-- the place of the first byte after the group length: 128 bytes of preamble, the prefix of 4 and the group length of
-- 12 stand before it
abbrev pub group_at : ℕ
group_at = 144

-- a data set that may follow group 0002: its first tag, if it has one, is of a higher group
abbrev pub StartsAbove : Elements → Type 0
StartsAbove no_elements = Unit {0}
StartsAbove (element tag vr content rest) = meta_group < tag.group

-- The bytes are a file: a preamble of any bytes, the prefix, the group length, group 0002 in Explicit VR, and a data
-- set. Group 0002 says what follows it, and names the transfer syntax of the data set.
pub record IsFile (file : List ℕ) (meta : Meta) (set : Elements) (set_at : ℕ) : Type 0 where
  pub preamble : List ℕ
  pub group_text : List ℕ
  pub set_text : List ℕ
  pub parts : file ≡ preamble ++ (prefix ++ (group_length_text (length group_text) ++ (group_text ++ set_text)))
  pub free : length preamble ≡ preamble_length
  pub short : length group_text ≤ max_group_length
  pub group : Elements
  pub spelled : Spells Explicit group group_text
  pub holds : IsMeta group meta
  pub syntax : Syntax
  pub known : syntax_of meta.transfer ≡ Some syntax
  pub follows : Spells syntax set set_text
  pub above : StartsAbove set
  pub place : set_at ≡ group_at + length group_text
