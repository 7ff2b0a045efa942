-- Paths that are looked up in a folder.
use Rattle.std.specs.Prelude.{◌-◌, ◌==◌, ◌++◌, ℕ, List, [], ◌∷◌, Bool, false, Option, String, codes, if◌then◌else◌, length}
use Rattle.std.specs.Prelude.{drop, string_bytes}
use Rattle.std.specs.Option.{option_map_or}
use Rattle.std.specs.Str.{bytes_eq}
use Rattle.std.specs.declared.alloc.Global.{Global}
use Rattle.clap.specs.Words.{Text}
use Rattle.dd_line.specs.declared.request.Request.{Request}
use Rattle.dd_line.specs.declared.request.Request.TheVariants.{Check, Index, List as ListSet, Merge, Publish, Stage, Withdraw}

-- the folder that a line gives, or an empty path for the current one
abbrev pub from_text : Option (String Global) → Text
from_text from = option_map_or string_bytes from []

-- the text ends in a slash
abbrev pub ends_in_slash : Text → Bool
ends_in_slash text = bytes_eq (codes "/") (drop (length text - 1) text)

-- what stands between a folder and a name in it: nothing where the folder is an empty path or ends in a slash
abbrev pub joint : Text → Text
joint [] = []
joint (byte ∷ rest) = if ends_in_slash (byte ∷ rest) then [] else codes "/"

-- the path begins with a slash (47)
abbrev pub is_absolute : Text → Bool
is_absolute [] = false
is_absolute (byte ∷ rest) = byte == 47

-- the path at which a path of the line is looked up in this folder
abbrev pub looked_up : Text → Text → Text
looked_up from path = if is_absolute path then path else from ++ (joint from ++ path)

-- the same of a list of names, where `-` is the standard input
abbrev pub looked_up_list : Text → Text → Text
looked_up_list from list = if bytes_eq list (codes "-") then list else looked_up from list

-- the folder that a request gives
abbrev pub from_in : Request → Text
from_in (Index x) = []
from_in (Merge x) = []
from_in (Withdraw x) = []
from_in (Stage x) = from_text x.from
from_in (Publish x) = from_text x.from
from_in (Check x) = []
from_in (ListSet x) = []

-- the path of the list of names, as the command line spells it
abbrev pub given_list : Request → List ℕ
given_list (Index x) = option_map_or string_bytes x.sources.files0_from []
given_list (Merge x) = option_map_or string_bytes x.sets.files0_from []
given_list (Withdraw x) = []
given_list (Stage x) = option_map_or string_bytes x.sources.files0_from []
given_list (Publish x) = option_map_or string_bytes x.piles.files0_from []
given_list (Check x) = []
given_list (ListSet x) = []
