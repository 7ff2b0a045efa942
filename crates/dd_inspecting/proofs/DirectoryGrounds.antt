-- What a fault of reading a directory rests on.
use Rattle.std.proofs.Common.{ℕ, List, Option}
use Rattle.dd_faults.specs.Grounds.{NeedsNoGrounds}
use Rattle.dd_faults.specs.declared.refusal.ProgramFault.{ProgramFault}
use Rattle.dd_faults.specs.declared.refusal.ProgramFault.TheVariants.{Absent, BadName, BadStage, Changed, Create, Dir}
use Rattle.dd_faults.specs.declared.refusal.ProgramFault.TheVariants.{Folder, ListTooLarge, Memory, Own, Plan, SetId}
use Rattle.dd_faults.specs.declared.refusal.ProgramFault.TheVariants.{Strict, TooLong, Uid, Unread, Unsent}
use Rattle.dd_files.specs.Files.{Held}
use Rattle.dd_files.specs.ReadToEnd.{IsTooLong}
use Rattle.dd_inspecting.specs.Directories.{HasSuchDirectory}
use Rattle.dd_inspecting.specs.Grounds.{GroundsOfCheck, GroundsOfList}

-- where no engine finds it, or a directory is too long, whatever follows from both follows
module _ (folder : List ℕ) (files : Option Held) (Has : ProgramFault → Type 0)
    (others : (fault : ProgramFault) → NeedsNoGrounds fault → Has fault)
    (long : HasSuchDirectory folder IsTooLong files → Has TooLong) where
  pub by_directory : (fault : ProgramFault) → GroundsOfCheck folder files fault → Has fault
  by_directory Absent grounds = others Absent tt
  by_directory Unread grounds = others Unread tt
  by_directory Create grounds = others Create tt
  by_directory Folder grounds = others Folder tt
  by_directory Unsent grounds = others Unsent tt
  by_directory Changed grounds = absurd grounds
  by_directory Memory grounds = others Memory tt
  by_directory Strict grounds = absurd grounds
  by_directory (Uid bad) grounds = others (Uid bad) tt
  by_directory (SetId bad) grounds = others (SetId bad) tt
  by_directory (BadName number) grounds = others (BadName number) tt
  by_directory (Plan fault) grounds = absurd grounds
  by_directory TooLong grounds = long grounds
  by_directory ListTooLarge grounds = absurd grounds
  by_directory (BadStage item) grounds = absurd grounds
  by_directory (Dir fault) grounds = absurd grounds
  by_directory (Own fault) grounds = absurd grounds

module _ (folder : List ℕ) (files : Option Held) where
  list_without : (fault : ProgramFault) → NeedsNoGrounds fault → GroundsOfList folder files fault
  list_without Absent none = tt
  list_without Unread none = tt
  list_without Create none = tt
  list_without Folder none = tt
  list_without Unsent none = tt
  list_without Changed none = absurd none
  list_without Memory none = tt
  list_without Strict none = absurd none
  list_without (Uid bad) none = tt
  list_without (SetId bad) none = tt
  list_without (BadName number) none = tt
  list_without (Plan fault) none = absurd none
  list_without TooLong none = absurd none
  list_without ListTooLarge none = absurd none
  list_without (BadStage item) none = absurd none
  list_without (Dir fault) none = absurd none
  list_without (Own fault) none = absurd none

  pub list_grounds : (fault : ProgramFault) → GroundsOfCheck folder files fault → GroundsOfList folder files fault
  list_grounds = by_directory folder files (GroundsOfList folder files) list_without (λ long. long)
