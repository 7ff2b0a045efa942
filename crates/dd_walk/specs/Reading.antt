-- Reading a directory of any producer: the walk that its bytes have, or why they have none (PS3.3 section F.3.2,
-- PS3.10 section 8.6).
use Rattle.std.specs.Prelude.{◌≡◌, ◌≢◌, ◌+◌, ℕ, Bool, List, [], ◌∷◌, take, Option, Some, None, Err}
use Rattle.std.specs.Prelude.{if◌then◌else◌, ◌&&◌, ◌==◌}
use Rattle.std.specs.Str.{bytes_eq}
use Rattle.dd_encoding.specs.Elements.{Elements}
use Rattle.dd_set.specs.Starts.{places_in}
use Rattle.dd_encoding.specs.declared.meta.Meta.{Meta}
use Rattle.dd_part10.specs.File.{IsFile}
use Rattle.dd_part10.specs.Reading.{file_in}
use Rattle.dd_records.specs.Directory.{directory_class, directory_syntax}
use Rattle.dd_records.specs.ElementForms.{tag}
use Rattle.dd_walk.specs.declared.fault.DirFault.{DirFault}
use Rattle.dd_walk.specs.declared.fault.DirFault.TheVariants as faults
use Rattle.dd_walk.specs.Saying.{records_in, first_in, last_in, beside_in}
use Rattle.dd_walk.specs.Trees.{Beside, Trees, Walk, offsets, last_offset_or}
use Rattle.dd_walk.specs.Walks.{IsChain, AreApart, nothing, with_all, Stops}

-- ---- what a file says

-- The offsets of the first and of the last root record, the items that may be records, and what stands beside them. The
-- items are known by their starts, counted from the first byte of the file, and their data sets.
pub record Contents : Type 0 where
  pub first : ℕ
  pub last : ℕ
  pub starts : List ℕ
  pub sets : List Elements
  pub beside : Beside

-- the class of directories and the transfer syntax that they are in
abbrev pub is_directory_meta : Meta → Bool
is_directory_meta meta = bytes_eq meta.class directory_class && bytes_eq meta.transfer directory_syntax

abbrev pub contents_by : Beside → Option ℕ → Option ℕ → Option (List ℕ) → Option (List Elements) → Option Contents
contents_by beside None last starts sets = None
contents_by beside (Some first) None starts sets = None
contents_by beside (Some first) (Some last) None sets = None
contents_by beside (Some first) (Some last) (Some starts) None = None
contents_by beside (Some first) (Some last) (Some starts) (Some sets) =
    Some (record { first = first; last = last; starts = starts; sets = sets; beside = beside })

-- of a data set that this UID names and that stands after the bytes `front`: none where an offset is missing or the
-- records are no items
unfoldable pub contents_in : List ℕ → List ℕ → Elements → Option Contents
contents_in uid front set = contents_by (beside_in uid set) (first_in set) (last_in set)
    (places_in (tag 0x0004 0x1220) front set) (records_in set)

-- of a file with this meta information and this data set, which starts at this byte
abbrev pub contents_of : List ℕ → Meta → Elements → ℕ → Option Contents
contents_of file meta set at = if is_directory_meta meta then contents_in meta.instance (take at file) set else None

-- the elements of the item that starts at an offset
abbrev pub stands_in : List ℕ → List Elements → ℕ → Option Elements
stands_in [] sets p = None
stands_in (start ∷ starts) [] p = None
stands_in (start ∷ starts) (set ∷ sets) p = if p == start then Some set else stands_in starts sets p

abbrev pub stands_of : Contents → ℕ → Option Elements
stands_of contents = stands_in contents.starts contents.sets

-- ---- the walk

-- the bytes are a file, and it says this of its records
pub record IsDirectoryFile (file : List ℕ) (contents : Contents) : Type 0 where
  pub meta : Meta
  pub set : Elements
  pub at : ℕ
  pub is_file : IsFile file meta set at
  pub says : contents_of file meta set at ≡ Some contents

-- how many of these offsets are not among those seen
abbrev pub count_unseen : (ℕ → Bool) → List ℕ → ℕ
count_unseen seen [] = 0
count_unseen seen (p ∷ ps) = if seen p then count_unseen seen ps else 1 + count_unseen seen ps

-- the trees are a chain from the first root, at the top level, and no offset is in them twice
pub record AreTrees (contents : Contents) (trees : Trees) : Type 0 where
  pub chain : IsChain (stands_of contents) contents.first 0 trees
  pub apart : AreApart nothing (offsets trees)

-- such trees, which end at the last root that the directory names
pub record IsWalkOf (contents : Contents) (walk : Walk) : Type 0 where
  pub trees : AreTrees contents walk.trees
  pub ends : last_offset_or 0 walk.trees ≡ contents.last
  pub beside : walk.beside ≡ contents.beside
  pub unreached : walk.unreached ≡ count_unseen (with_all (offsets walk.trees) nothing) contents.starts

pub record IsWalk (file : List ℕ) (walk : Walk) : Type 0 where
  pub contents : Contents
  pub is_directory : IsDirectoryFile file contents
  pub is_walk : IsWalkOf contents walk

-- ---- why bytes have no walk

-- they are a file, and no directory
pub record IsNoDirectory (file : List ℕ) : Type 0 where
  pub meta : Meta
  pub set : Elements
  pub at : ℕ
  pub is_file : IsFile file meta set at
  pub says : contents_of file meta set at ≡ None

-- the way from the first root breaks off by this fault
abbrev pub BreaksOff : Contents → DirFault → Type 0
BreaksOff contents fault = Stops (stands_of contents) contents.first 0 nothing fault

-- the trees end at another root than the last one that the directory names
pub record EndElsewhere (contents : Contents) : Type 0 where
  pub trees : Trees
  pub are_trees : AreTrees contents trees
  pub elsewhere : last_offset_or 0 trees ≢ contents.last

-- why a directory that says this has no walk
abbrev pub RefusesOf : Contents → DirFault → Type 0
RefusesOf contents (faults.File fault) = ⊥
RefusesOf contents faults.NotDirectory = ⊥
RefusesOf contents (faults.RecordShape at) = BreaksOff contents (faults.RecordShape at)
RefusesOf contents (faults.Dangling at) = BreaksOff contents (faults.Dangling at)
RefusesOf contents (faults.Twice at) = BreaksOff contents (faults.Twice at)
RefusesOf contents faults.LastRoot = EndElsewhere contents
RefusesOf contents faults.Memory = ⊥
RefusesOf contents (faults.TooDeep at) = BreaksOff contents (faults.TooDeep at)

pub record IsRefused (file : List ℕ) (fault : DirFault) : Type 0 where
  pub contents : Contents
  pub is_directory : IsDirectoryFile file contents
  pub refuses : RefusesOf contents fault

-- why bytes have no walk: they are no file, no directory, or their offsets form no trees that end at the last root
abbrev pub Refuses : List ℕ → DirFault → Type 0
Refuses file (faults.File fault) = file_in file ≡ Err fault
Refuses file faults.NotDirectory = IsNoDirectory file
Refuses file fault = IsRefused file fault
