-- Where reading a file allocates: for group 0002, once all that stands before it is right, and for the data set,
-- once all of group 0002 is. And why a file is refused that is read from a reader.
use Rattle.std.specs.Prelude.{◌≡◌, ◌≢◌, List, ℕ, Some, Result, Ok, Err}
use Rattle.dd_elem.specs.declared.tag.Tag.{Tag}
use Rattle.dd_grammar.specs.declared.fault.SetFault.TheVariants.{Memory}
use Rattle.dd_encoding.specs.declared.syntax.Syntax.{Syntax}
use Rattle.dd_encoding.specs.declared.syntax.Syntax.TheVariants.{Explicit}
use Rattle.dd_set.specs.Memory.{WantsMemory}
use Rattle.dd_scan.specs.Scan.{HasWanted}
use Rattle.dd_part10.specs.declared.fault.FileFault.{FileFault}
use Rattle.dd_part10.specs.declared.fault.FileFault.TheVariants as faults
use Rattle.dd_encoding.specs.declared.meta.Meta.{Meta}
use Rattle.dd_grammar.specs.Reading.{◌>>=◌}
use Rattle.dd_part10.specs.Reading.{rest_after_prefix, after_length, meta_in, file_in}
use Rattle.dd_encoding.specs.Syntaxes.{syntax_of}

-- the preamble, the prefix and the group length are there, and reading the bytes that it counts allocates
pub record GroupWants (file : List ℕ) : Type 0 where
  pub group : List ℕ
  pub set : List ℕ
  pub parts : (rest_after_prefix file >>= after_length) ≡ Ok (group, set)
  pub wants : WantsMemory Explicit group

-- all before the data set is right
pub record HasHead (file : List ℕ) : Type 0 where
  pub group : List ℕ
  pub set : List ℕ
  pub meta : Meta
  pub syntax : Syntax
  pub parts : (rest_after_prefix file >>= after_length) ≡ Ok (group, set)
  pub holds : meta_in group ≡ Ok meta
  pub known : syntax_of meta.transfer ≡ Some syntax

-- all before the data set is right, and reading the data set allocates
pub record SetWants (file : List ℕ) : Type 0 where
  pub head : HasHead file
  pub wants : WantsMemory head.syntax head.set

-- all before the data set is right, and a wanted element of the data set is there
pub record ScanWants (wanted : List Tag) (file : List ℕ) : Type 0 where
  pub head : HasHead file
  pub wants : HasWanted head.syntax wanted head.set

-- Why a file is refused of which only wanted elements are kept: by the first check that it fails, or by lack of memory.
-- Memory can run out for group 0002 where reading it allocates, and for the data set where a wanted element is there.
abbrev pub IsRefused : List Tag → FileFault → List ℕ → Type 0
IsRefused wanted (faults.Meta Memory) file = GroupWants file
IsRefused wanted (faults.Set Memory) file = ScanWants wanted file
IsRefused wanted fault file = file_in file ≡ Err fault

-- the result of a step is not lack of memory
abbrev pub WantsNone : {X : Type 0} → Result X FileFault → Type 0
WantsNone result = (result ≢ Err (faults.Meta Memory)) × (result ≢ Err (faults.Set Memory))
