-- The words of the faults of a file (PS3.10 section 7), as the program prints them, and the line with them.
use Rattle.std.specs.Prelude.{ℕ, List, [], ◌∷◌, ◌++◌, codes}
use Rattle.dd_elem.specs.Tag.{text_of}
use Rattle.dd_grammar.specs.declared.fault.SetFault.{SetFault}
use Rattle.dd_grammar.specs.declared.fault.SetFault.TheVariants.{Truncated, Order, BadVr, Reserved, OddLength}
use Rattle.dd_grammar.specs.declared.fault.SetFault.TheVariants.{UndefinedLength, UnexpectedTag, BadDelimiter, Overrun}
use Rattle.dd_grammar.specs.declared.fault.SetFault.TheVariants.{TooDeep, Memory}
use Rattle.dd_part10.specs.declared.fault.FileFault.{FileFault}
use Rattle.dd_part10.specs.declared.fault.FileFault.TheVariants.{NotPart10, GroupLength, MetaMissing, MetaUid}
use Rattle.dd_part10.specs.declared.fault.FileFault.TheVariants.{OtherSyntax, Meta, Set}

-- the words of a fault of a data set
abbrev pub set_words : SetFault → List ℕ
set_words Truncated = codes "1 Truncated"
set_words Order = codes "2 Order"
set_words BadVr = codes "3 BadVr"
set_words Reserved = codes "4 Reserved"
set_words OddLength = codes "5 OddLength"
set_words UndefinedLength = codes "6 UndefinedLength"
set_words UnexpectedTag = codes "7 UnexpectedTag"
set_words BadDelimiter = codes "8 BadDelimiter"
set_words Overrun = codes "9 Overrun"
set_words TooDeep = codes "10 TooDeep"
set_words Memory = codes "91 Memory"

-- the words of a fault of a file
abbrev pub file_words : FileFault → List ℕ
file_words NotPart10 = codes "21 NotPart10"
file_words GroupLength = codes "22 GroupLength"
file_words (MetaMissing tag) = codes "23 MetaMissing " ++ text_of tag
file_words (MetaUid tag) = codes "24 MetaUid " ++ text_of tag
file_words (OtherSyntax uid) = codes "25 OtherSyntax " ++ uid
file_words (Meta fault) = codes "26 Meta " ++ set_words fault
file_words (Set fault) = codes "27 Set " ++ set_words fault

-- ---- the line of a file that is not what its record says

-- the File ID, and the tag of what differs or why it is no file
abbrev pub mislabelled_parts : List ℕ → List ℕ → List (List ℕ)
mislabelled_parts file words = codes "MISLABELLED " ∷ file ∷ codes " " ∷ words ∷ []
