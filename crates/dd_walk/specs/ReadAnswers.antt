-- What the functions that read a directory answer, in terms of what its bytes say.
use Rattle.std.specs.Prelude.{◌≡◌, ℕ, ◌+◌, ◌<◌, ◌⊎◌, false, List, Option, Some, None, Result, Ok, Err, Vec, length}
use Rattle.std.specs.declared.alloc.Global.{Global}
use Rattle.dd_part10.specs.Faults as file_faults
use Rattle.dd_set.specs.declared.set.DataSet.{DataSet}
use Rattle.dd_encoding.specs.Elements.{Elements}
use Rattle.dd_set.specs.Views.{set_view, items_view}
use Rattle.dd_walk.specs.declared.directory.Contents.{Contents as ContentsValue}
use Rattle.dd_walk.specs.declared.fault.DirFault.{DirFault}
use Rattle.dd_walk.specs.declared.fault.DirFault.TheVariants.{File, NotDirectory, Memory}
use Rattle.dd_walk.specs.declared.forest.Tree.{Tree}
use Rattle.dd_walk.specs.declared.links.Links.{Links as LinksValue}
use Rattle.dd_walk.specs.ForestViews.{Branch, beside_view, tree_view, trees_view}
use Rattle.dd_walk.specs.Reading.{Contents, IsDirectoryFile, stands_in}
use Rattle.dd_walk.specs.Saying.{Links, sets_of}
use Rattle.dd_walk.specs.Pending.{AreLeft, reached}
use Rattle.dd_walk.specs.Trees.{Trees, offsets}
use Rattle.dd_walk.specs.Walks.{Stands, IsChain, AreApart, with, with_all, found_at, step_at, Stops}

-- ---- refused allocations

-- the fault says that an allocation was refused: here, or while the bytes were read as a file
abbrev pub SaysMemory : DirFault → Type 0
SaysMemory Memory = Unit {0}
SaysMemory (File fault) = file_faults.SaysMemory fault
SaysMemory _ = ⊥

-- the bytes are a directory, and it has items that may be records
abbrev pub HasRecords : List ℕ → Type 0
HasRecords file = (contents : Contents) × IsDirectoryFile file contents × (0 < length contents.starts)

-- ---- what a directory says

abbrev pub contents_view : ContentsValue → Contents
contents_view held = record {
  first = held.first;
  last = held.last;
  starts = held.starts.items;
  sets = sets_of (items_view held.items.items);
  beside = beside_view held.uid held.id held.withdrawn;
}

-- What was answered is what there is. Memory is wanted only where there are records.
abbrev pub TellsContents : Option Contents → Result ContentsValue DirFault → Type 0
TellsContents contents (Ok held) = contents ≡ Some (contents_view held)
TellsContents contents (Err NotDirectory) = contents ≡ None
TellsContents contents (Err Memory) = (there : Contents) × (contents ≡ Some there) × (0 < length there.starts)
TellsContents contents (Err _) = ⊥

-- ---- one record

abbrev pub links_view : LinksValue → Links
links_view links =
    record { next = links.next; lower = links.lower; in_use = links.in_use; kind = links.kind.now }

-- the set of the record at this offset is pending no more
pub record Leaves (starts : List ℕ) (sets : List Elements) (offset : ℕ) (old new : List (Option Elements)) : Type 0
  where
    pub left : AreLeft sets new
    pub adds : reached starts new ≡ with offset (reached starts old)

-- it was there, and not reached before; or no item starts there, or it was
abbrev pub IsLifted : List ℕ → List Elements → ℕ → List (Option Elements) → List (Option Elements)
    → Result DataSet DirFault → Type 0
IsLifted starts sets offset old new (Ok set) = (stands_in starts sets offset ≡ Some (set_view set))
    × (reached starts old offset ≡ false) × Leaves starts sets offset old new
IsLifted starts sets offset old new (Err fault) =
    (level : ℕ) → found_at offset level (reached starts old offset) (stands_in starts sets offset) ≡ Err fault

-- it and what it says, or why the way ends there
abbrev pub IsStep : List ℕ → List Elements → ℕ → ℕ → List (Option Elements) → List (Option Elements)
    → Result (DataSet × LinksValue) DirFault → Type 0
IsStep starts sets offset level old new (Ok found) =
    (step_at (stands_in starts sets) offset level (reached starts old) ≡ Ok (set_view found.0, links_view found.1))
    × Leaves starts sets offset old new
IsStep starts sets offset level old new (Err fault) =
    step_at (stands_in starts sets) offset level (reached starts old) ≡ Err fault

-- ---- trees

-- an allocation was refused, or the way from this offset breaks off by this fault
abbrev pub Fails : List ℕ → List Elements → ℕ → ℕ → List (Option Elements) → DirFault → Type 0
Fails starts sets offset level old fault =
    (fault ≡ Memory) ⊎ Stops (stands_in starts sets) offset level (reached starts old) fault

-- the record at this offset, with the chain below it, and the offset of the next one; none is pending any more
pub record Joins (starts : List ℕ) (sets : List Elements) (offset level : ℕ) (old new : List (Option Elements))
    (branch : Branch) (next : ℕ) : Type 0 where
  pub links : Links
  pub stands : Stands (stands_in starts sets) offset level branch.node links
  pub chain : IsChain (stands_in starts sets) links.lower (level + 1) branch.below
  pub goes_on : next ≡ links.next
  pub unseen : reached starts old offset ≡ false
  pub apart : AreApart (with offset (reached starts old)) (offsets branch.below)
  pub left : AreLeft sets new
  pub adds : reached starts new ≡ with_all (offsets branch.below) (with offset (reached starts old))

abbrev pub IsTree : List ℕ → List Elements → ℕ → ℕ → List (Option Elements) → List (Option Elements)
    → Result (Tree × ℕ) DirFault → Type 0
IsTree starts sets offset level old new (Ok found) = Joins starts sets offset level old new (tree_view found.0) found.1
IsTree starts sets offset level old new (Err fault) = Fails starts sets offset level old fault

-- the chain from this offset, whose records are pending no more
pub record Follows (starts : List ℕ) (sets : List Elements) (first level : ℕ) (old new : List (Option Elements))
    (trees : Trees) : Type 0 where
  pub chain : IsChain (stands_in starts sets) first level trees
  pub apart : AreApart (reached starts old) (offsets trees)
  pub left : AreLeft sets new
  pub adds : reached starts new ≡ with_all (offsets trees) (reached starts old)

abbrev pub AreFollowed : List ℕ → List Elements → ℕ → ℕ → List (Option Elements) → List (Option Elements)
    → Result (Vec Tree Global) DirFault → Type 0
AreFollowed starts sets first level old new (Ok trees) =
    Follows starts sets first level old new (trees_view trees.items)
AreFollowed starts sets first level old new (Err fault) = Fails starts sets first level old fault
