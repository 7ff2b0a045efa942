-- Lists of names in which a zero byte ends each name.
use Rattle.std.specs.Prelude.{◌≡◌, ◌≢◌, ◌<◌, ◌≤◌, ◌-◌, ◌⊎◌, ◌++◌, ◌==◌, ℕ, List, [], ◌∷◌, if◌then◌else◌}
use Rattle.std.specs.Prelude.{◌&&◌, All, Bool, Contains, None, Option, Some, false, length, map, max, nat_le}
use Rattle.std.specs.Prelude.{option_map, slice_index_or}
use Rattle.std.specs.Prelude.{string_bytes, true}
use Rattle.std.specs.List.{AllWithin, flat_map, onto_first}
use Rattle.std.specs.Str.{IsUtf8}
use Rattle.clap.specs.Words.{Text}
use Rattle.dd_files.specs.Files.{Held}
use Rattle.dd_line.specs.declared.request.Request.{Request}
use Rattle.dd_line.specs.declared.request.Request.TheVariants.{Check, Index, List as ListSet, Merge, Publish, Stage}
use Rattle.dd_line.specs.declared.request.Request.TheVariants.{Withdraw}
use Rattle.dd_files.specs.Keeping.{HasBytes}
use Rattle.dd_inputs.specs.From.{from_text, looked_up_list}

-- the parts of a list: a zero byte ends each, but the last one may end with the list
abbrev pub parts : List ℕ → List (List ℕ)
parts [] = []
parts (byte ∷ list) = if byte == 0 then [] ∷ parts list else onto_first byte (parts list)

-- the list is these parts: none has a zero byte in it, and each has one after it, which the last part may lack
pub record IsListOf (parts : List (List ℕ)) (list : List ℕ) : Type 0 where
  pub apart : All (λ part. ¬ Contains part 0) parts
  pub joined : (flat_map (λ part. part ++ 0 ∷ []) parts ≡ list)
      ⊎ (flat_map (λ part. part ++ 0 ∷ []) parts ≡ list ++ 0 ∷ [])

-- a part that is a name: UTF-8, and not empty
pub record IsName (part : List ℕ) : Type 0 where
  pub some : part ≢ []
  pub utf8 : IsUtf8 part

-- a part that a command takes: a name or, where it goes on past sources that fail, any part that is not empty
abbrev pub IsListed : Bool → List ℕ → Type 0
IsListed false part = IsName part
IsListed true part = part ≢ []

-- one or more parts, each of which a command takes
pub record AreNames (keeps_going : Bool) (parts : List (List ℕ)) : Type 0 where
  pub some : parts ≢ []
  pub each : All (IsListed keeps_going) parts

-- the first part that it does not take has this number, counted from 1; where there is no part, the number is 1
pub record FailsAt (keeps_going : Bool) (parts : List (List ℕ)) (number : ℕ) : Type 0 where
  pub counted : 1 ≤ number
  pub within : number ≤ max 1 (length parts)
  pub before : AllWithin (IsListed keeps_going) parts 0 (number - 1)
  pub fails : ¬ IsListed keeps_going (slice_index_or parts (number - 1) [])

-- the path at which the list of names is looked up that the request has
abbrev pub list_of : Request → Option Text
list_of (Index x) = option_map string_bytes x.sources.files0_from
list_of (Merge x) = option_map string_bytes x.sets.files0_from
list_of (Withdraw x) = None
list_of (Stage x) = option_map (λ list. looked_up_list (from_text x.from) (string_bytes list)) x.sources.files0_from
list_of (Publish x) = option_map (λ list. looked_up_list (from_text x.from) (string_bytes list)) x.piles.files0_from
list_of (Check x) = None
list_of (ListSet x) = None

-- The sources of a command, in their order: the given ones and, where it has a list at this path, the names in it.
abbrev pub AreSources : Bool → Option Text → List Text → Option Held → List Text → Type 0
AreSources keeps_going None given files all = all ≡ given
AreSources keeps_going (Some path) given files all = (list : List ℕ) × HasBytes path list files
    × AreNames keeps_going (parts list) × (all ≡ given ++ parts list)

-- the numbers rise
abbrev pub AreRising : List ℕ → Type 0
AreRising numbers = (one other : ℕ) → one ≤ other → other < length numbers
    → slice_index_or numbers one 0 ≤ slice_index_or numbers other 0

-- a name that is not UTF-8 as lines show it: `?` (63) stands for each byte outside 20H to 7EH
abbrev pub shown_byte : ℕ → ℕ
shown_byte byte = if nat_le 32 byte && nat_le byte 126 then byte else 63

abbrev pub shown_name : List ℕ → List ℕ
shown_name name = map shown_byte name

-- The paths of these sources: each is the name of its source. A name that is not UTF-8 is no path, and its number is one
-- of these, which rise. In its place stands what lines show.
pub record HavePaths (sources paths : List (List ℕ)) (bad : List ℕ) : Type 0 where
  pub count : length paths ≡ length sources
  pub named : (at : ℕ) → at < length sources → ¬ Contains bad at
      → slice_index_or paths at [] ≡ slice_index_or sources at []
  pub others : All (λ at. (at < length sources) × ¬ IsUtf8 (slice_index_or sources at [])) bad
  pub shown : All (λ at. slice_index_or paths at [] ≡ shown_name (slice_index_or sources at [])) bad
  pub rising : AreRising bad

-- these are the paths of some sources
abbrev pub AreOfSources : List Text → List ℕ → Type 0
AreOfSources paths bad = (sources : List Text) × HavePaths sources paths bad

-- What a command finds of its sources: their paths, and the numbers of the sources without a path. There may be such
-- sources only where the command goes on past sources that fail.
pub record FindsSources (keeps_going : Bool) (list : Option Text) (given : List Text) (files : Option Held)
    (paths : List Text) (bad : List ℕ) : Type 0 where
  pub sources : List Text
  pub are : AreSources keeps_going list given files sources
  pub have : HavePaths sources paths bad
  pub none : keeps_going ≡ false → bad ≡ []
