-- The grounds of what refuses a publish or a stage.
use Rattle.std.proofs.Common.{◌≡◌, ◌∙◌, ℕ, Bool, List, Option, Err, get_or, refl, subst, sym, true}
use Rattle.dd_engine.specs.declared.choice.Choice.{Choice}
use Rattle.dd_sources.specs.declared.engine_fault.EngineFault.{EngineFault}
use Rattle.dd_sources.specs.declared.engine_fault.EngineFault.TheVariants as engine
use Rattle.dd_engine.specs.declared.noted_index.NotedIndex.{NotedIndex}
use Rattle.dd_engine.specs.Found.{HasFound}
use Rattle.dd_engine.specs.Indexed.{Indexes}
use Rattle.dd_keys.specs.Sources.{Answer}
use Rattle.dd_faults.specs.Refusal.{IsStrict}
use Rattle.dd_faults.specs.declared.refusal.ProgramFault.{ProgramFault}
use Rattle.dd_faults.specs.declared.refusal.ProgramFault.TheVariants.{Absent, BadName, BadStage, Changed, Create, Dir}
use Rattle.dd_faults.specs.declared.refusal.ProgramFault.TheVariants.{Folder, ListTooLarge, Memory, Own, Plan, SetId}
use Rattle.dd_faults.specs.declared.refusal.ProgramFault.TheVariants.{Strict, TooLong, Uid, Unread, Unsent}
use Rattle.dd_faults.specs.declared.refusal.Refusal.{Refusal}
use Rattle.dd_faults.specs.declared.refusal.Subject.{Subject}
use Rattle.dd_files.specs.Files.{Held}
use Rattle.dd_layout.specs.declared.fault.PlanFault.{PlanFault}
use Rattle.dd_pile.specs.declared.refusal.StageRefusal.{StageRefusal}
use Rattle.dd_pile.specs.declared.refusal.StageRefusal.TheVariants as stage
use Rattle.dd_version.specs.declared.parts.Parts.{Parts}
use Rattle.dicomdir.proofs.MadeGrounds.{strict_grounds, unfit_by}
use Rattle.dicomdir.proofs.PilesMade.{NotesFound, copy_of, same_size}
use Rattle.dd_faults.specs.Grounds.{GroundsOfMaking}
use Rattle.dicomdir.specs.Grounds.{GroundsOfPiles, GroundsOfStage, HasChangedCopy, HasNoList}
use Rattle.dicomdir.specs.Grounds.{HasUnfitImage, PilesHaveNoPlan}
use Rattle.dicomdir.specs.Indexes.{limits_of}
use Rattle.dicomdir.specs.Noted.{IsNotedIndex}
use Rattle.dicomdir.specs.Publishes.{HasPiled, IsCopyAt, IsCopyOf, MayLinkAt, MayLinkCopy, answers_in}
use Rattle.dicomdir.specs.Publishes.{said_at, said_in}
use Rattle.dicomdir.specs.Stages.{fault_of}
use Rattle.dicomdir.specs.declared.piles.Piled.{Piled}

-- ---- `publish`

module _ (choice : Choice) (bytes : ℕ) (piles : List (List ℕ)) (files : Option Held) where
  -- what was found of the sources of the piles has no plan
  pub piles_have_none : (piled : Piled) (fault : EngineFault) (no_plan : PlanFault) → fault ≡ engine.Plan no_plan
      → HasPiled piles files piled
      → ((answers : List Answer) → HasFound answers piled.found → Indexes choice (limits_of bytes) answers (Err fault))
      → PilesHaveNoPlan choice bytes piles files no_plan
  piles_have_none piled fault no_plan is (lists, are, found) refuses = record {
    lists = lists;
    are = are;
    refuses = rw is at (refuses (answers_in lists) found.found);
  }

module _ (choice : Choice) (bytes : ℕ) (piles : List (List ℕ)) (links : Bool) (old new : Option Held) where
  -- the copy of a pick has changed
  changed_copy : (piled : Piled) (noted : NotedIndex) → HasPiled piles old piled
      → NotesFound choice bytes piles piled noted
      → HasUnfitImage (IsCopyAt piles piled.places.items) (MayLinkAt (links ≡ true) piled.places.items)
      (said_at piled.said.items) (links ≡ true) noted.indexed.plan noted.indexed.picks.items new
      → HasChangedCopy choice bytes piles (links ≡ true) old new
  changed_copy piled noted (lists, are, is) notes changed = record {
    lists = lists;
    are = are;
    indexed = noted.indexed;
    is = (notes (answers_in lists) is.found).0;
    changed = unfit_by (IsCopyAt piles piled.places.items) (IsCopyOf piles lists)
        (MayLinkAt (links ≡ true) piled.places.items) (MayLinkCopy (links ≡ true) lists) (said_in lists) (links ≡ true)
        noted.indexed.plan noted.indexed.picks.items new
        (λ at d within. record {
          stands = λ path. copy_of piles lists piled (get_or noted.indexed.picks.items at d) path is;
          links = λ bytes may. (
            may.0,
            may.1 ∙ sym (same_size lists piled is (get_or noted.indexed.picks.items at d)),
          );
        }) (subst (λ (said : List (Option Parts)). HasUnfitImage (IsCopyAt piles piled.places.items)
        (MayLinkAt (links ≡ true) piled.places.items) (said_at said) (links ≡ true) noted.indexed.plan
        noted.indexed.picks.items new) is.said changed);
  }

  -- there is a note
  pub publish_noted : (piled : Piled) (noted : NotedIndex) (refusal : Refusal) → IsStrict refusal
      → HasPiled piles old piled → NotesFound choice bytes piles piled noted → IsNotedIndex noted
      → GroundsOfPiles choice bytes piles links old new refusal.subject refusal.fault
  publish_noted piled noted refusal strict (lists, are, found) notes is =
      strict_grounds (GroundsOfPiles choice bytes piles links old new refusal.subject) refusal strict (record {
        lists = lists;
        are = are;
        noted = noted;
        notes = notes (answers_in lists) found.found;
        is = is;
      })

  -- a fault of making the file-set
  pub piles_made : (piled : Piled) (noted : NotedIndex) → HasPiled piles old piled
      → NotesFound choice bytes piles piled noted → (subject : Subject) (fault : ProgramFault)
      → GroundsOfMaking (HasUnfitImage (IsCopyAt piles piled.places.items)
      (MayLinkAt (links ≡ true) piled.places.items) (said_at piled.said.items)
      (links ≡ true) noted.indexed.plan noted.indexed.picks.items new) ⊥ fault
      → GroundsOfPiles choice bytes piles links old new subject fault
  piles_made piled noted has notes subject Absent made = tt
  piles_made piled noted has notes subject Unread made = tt
  piles_made piled noted has notes subject Create made = tt
  piles_made piled noted has notes subject Folder made = tt
  piles_made piled noted has notes subject Unsent made = tt
  piles_made piled noted has notes subject Changed made = changed_copy piled noted has notes made
  piles_made piled noted has notes subject Memory made = tt
  piles_made piled noted has notes subject Strict made = absurd made
  piles_made piled noted has notes subject (Uid bad) made = tt
  piles_made piled noted has notes subject (SetId bad) made = tt
  piles_made piled noted has notes subject (BadName number) made = tt
  piles_made piled noted has notes subject (Plan fault) made = absurd made
  piles_made piled noted has notes subject TooLong made = absurd made
  piles_made piled noted has notes subject ListTooLarge made = absurd made
  piles_made piled noted has notes subject (BadStage item) made = absurd made
  piles_made piled noted has notes subject (Dir fault) made = absurd made
  piles_made piled noted has notes subject (Own fault) made = absurd made

-- ---- `stage`

-- a pile that is not made is refused on these grounds
pub stage_grounds : (from pile : List ℕ) (names : List (List ℕ)) (old new : Option Held) (refusal : StageRefusal)
    → (refusal ≡ stage.ListTooLarge → HasNoList from pile names old new)
    → GroundsOfStage from pile names old new (fault_of refusal)
stage_grounds from pile names old new stage.ListTooLarge large = large refl
stage_grounds from pile names old new stage.Memory large = tt
stage_grounds from pile names old new (stage.Absent at) large = tt
stage_grounds from pile names old new (stage.Unread at) large = tt
stage_grounds from pile names old new (stage.CopyUnmade at) large = tt
stage_grounds from pile names old new stage.ListUnmade large = tt
stage_grounds from pile names old new stage.PileUnmade large = tt
stage_grounds from pile names old new (stage.FolderUnmade at) large = tt
stage_grounds from pile names old new (stage.CopyUnsent at) large = tt
stage_grounds from pile names old new stage.ListUnsent large = tt
stage_grounds from pile names old new stage.Unstored large = tt
