-- For private clauses: JSON objects that are not whole yet.
use Rattle.std.specs.Prelude.{ℕ, List, [], ◌∷◌, ◌++◌, codes, true}
use Rattle.json.specs.Print.{quoted}
use Rattle.serde_json.specs.Data.{Data, Members, member, no_members, object}
use Rattle.serde_json.specs.Written.{compact_text, members_text}
use Rattle.dd_json.specs.Values.{members_in, object_of}

-- a member after a comma
abbrev pub member_text : List ℕ → Data → List ℕ
member_text name value = 44 ∷ (quoted name ++ 58 ∷ compact_text value)

-- members, each after a comma
abbrev pub more_text : Members → List ℕ
more_text no_members = []
more_text (member name value rest) = member_text name value ++ more_text rest

-- the members of an object
abbrev pub members_inside : Data → Members
members_inside (object members) = members
members_inside value = no_members

-- the object of a record with its first member and those of this object, without its closing brace
abbrev pub open_text : Data → List ℕ
open_text value = codes "{\"line\":\"RECORD\"" ++ more_text (members_inside value)

abbrev pub front_text : List (List ℕ × Data) → List ℕ
front_text members = open_text (object_of members)

-- the other members of an object, its closing brace and the end of its line
abbrev pub back_text : List (List ℕ × Data) → List ℕ
back_text members = members_text true (members_in members) ++ 10 ∷ []
