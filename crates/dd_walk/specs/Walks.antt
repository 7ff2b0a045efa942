-- Following the offsets of records: the trees that they form, and where and why they form none (PS3.3 section F.3.2.2).
-- `stands` gives the elements of the item that starts at an offset, where one does.
use Rattle.std.specs.Prelude.{◌≡◌, ◌≢◌, ◌<◌, ◌+◌, ℕ, ◌==◌, Bool, true, false, List, [], ◌∷◌, Option, Some, None}
use Rattle.std.specs.Prelude.{Result, Ok, Err, nat_le, if◌then◌else◌}
use Rattle.dd_encoding.specs.Elements.{Elements}
use Rattle.dd_walk.specs.declared.fault.DirFault.{DirFault}
use Rattle.dd_walk.specs.declared.fault.DirFault.TheVariants.{RecordShape, Dangling, Twice, TooDeep}
use Rattle.dd_walk.specs.Saying.{Links, links_in}
use Rattle.dd_walk.specs.Trees.{Node, Trees, no_trees, tree, offsets}

-- the most levels of records
abbrev pub max_record_levels : ℕ
max_record_levels = 32

-- ---- trees

-- the record of these elements at this offset
abbrev pub node_of : ℕ → Elements → Links → Node
node_of p set links = record { at = p; kind = links.kind; in_use = links.in_use; set = set }

-- at this offset stands this record, at a level that records may have, and its elements say this
pub record Stands (stands : ℕ → Option Elements) (p level : ℕ) (node : Node) (links : Links) : Type 0 where
  pub found : stands p ≡ Some node.set
  pub room : level < max_record_levels
  pub says_so : links_in node.set ≡ Some links
  pub is : node ≡ node_of p node.set links

-- The trees are a chain from this offset at this level: none at the offset 0, else the record there. After it come a
-- chain from its lower offset a level below, and a chain from its next offset.
abbrev pub IsChain : (ℕ → Option Elements) → ℕ → ℕ → Trees → Type 0
IsChain stands p level no_trees = p ≡ 0
IsChain stands p level (tree node below after) = (links : Links) × Stands stands p level node links
    × IsChain stands links.lower (level + 1) below × IsChain stands links.next level after

-- ---- offsets seen

-- a set of offsets, with one more, and with all of these
abbrev pub Seen : Type 0
Seen = ℕ → Bool

abbrev pub nothing : Seen
nothing p = false

abbrev pub with : ℕ → Seen → Seen
with p seen q = if q == p then true else seen q

abbrev pub with_all : List ℕ → Seen → Seen
with_all [] seen = seen
with_all (p ∷ ps) seen = with_all ps (with p seen)

-- none of these offsets has been seen, and none is among them twice
abbrev pub AreApart : Seen → List ℕ → Type 0
AreApart seen [] = Unit {0}
AreApart seen (p ∷ ps) = (seen p ≡ false) × AreApart (with p seen) ps

-- ---- where the trees end before their time

-- The record that stands at this offset, and what it says; or why the way does not go on. Then no item starts there, it
-- was reached before, it is too deep, or its elements lack one of the four values.
abbrev pub shape_at : ℕ → Elements → Option Links → Result (Elements × Links) DirFault
shape_at p set None = Err (RecordShape p)
shape_at p set (Some links) = Ok (set, links)

abbrev pub found_at : ℕ → ℕ → Bool → Option Elements → Result (Elements × Links) DirFault
found_at p level seen None = Err (Dangling p)
found_at p level true (Some set) = Err (Twice p)
found_at p level false (Some set) =
    if nat_le max_record_levels level then Err (TooDeep p) else shape_at p set (links_in set)

unfoldable pub step_at : (ℕ → Option Elements) → ℕ → ℕ → Seen → Result (Elements × Links) DirFault
step_at stands p level seen = found_at p level (seen p) (stands p)

-- where the way breaks off: at this record, below it, or after it and the trees below it
pub data Way : Type 0 where
  here : Way
  down : Way → Way
  along : Trees → Way → Way

-- from this offset at this level, these offsets having been seen, the way breaks off there by this fault
abbrev pub StopsBy : (ℕ → Option Elements) → Way → ℕ → ℕ → Seen → DirFault → Type 0
StopsBy stands here p level seen fault = (p ≢ 0) × (step_at stands p level seen ≡ Err fault)
StopsBy stands (down way) p level seen fault = (p ≢ 0) × ((x : Elements × Links) × (step_at stands p level seen ≡ Ok x)
    × StopsBy stands way x.1.lower (level + 1) (with p seen) fault)
StopsBy stands (along below way) p level seen fault =
    (p ≢ 0) × ((x : Elements × Links) × (step_at stands p level seen ≡ Ok x)
    × IsChain stands x.1.lower (level + 1) below × AreApart (with p seen) (offsets below)
    × StopsBy stands way x.1.next level (with_all (offsets below) (with p seen)) fault)

pub record Stops (stands : ℕ → Option Elements) (p level : ℕ) (seen : Seen) (fault : DirFault) : Type 0 where
  pub way : Way
  pub stops : StopsBy stands way p level seen fault
