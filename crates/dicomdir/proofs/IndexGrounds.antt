-- The grounds of a fault of `index`.
use Rattle.std.proofs.Common.{◌≡◌, ℕ, Bool, List, [], Option, refl, None}
use Rattle.dd_catalogue.specs.Harmony.{harmonised}
use Rattle.dd_engine.specs.Choosing.{label_for}
use Rattle.dd_sources.specs.Indexing.{accepted, best_of_sources}
use Rattle.dd_sources.specs.Readings.{answers_of}
use Rattle.dd_engine.specs.declared.choice.Choice.{Choice}
use Rattle.dd_sources.specs.declared.engine_fault.EngineFault.{EngineFault}
use Rattle.dd_sources.specs.declared.engine_fault.EngineFault.TheVariants as engine
use Rattle.dd_engine.specs.declared.noted_index.NotedIndex.{NotedIndex}
use Rattle.dd_faults.specs.declared.refusal.ProgramFault.{ProgramFault}
use Rattle.dd_faults.specs.declared.refusal.ProgramFault.TheVariants.{Absent, BadName, BadStage, Changed, Create, Dir}
use Rattle.dd_faults.specs.declared.refusal.ProgramFault.TheVariants.{Folder, ListTooLarge, Memory, Own, Plan, SetId}
use Rattle.dd_faults.specs.declared.refusal.ProgramFault.TheVariants.{Strict, TooLong, Uid, Unread, Unsent}
use Rattle.dd_faults.specs.Refusal.{IsStrict}
use Rattle.dd_faults.specs.declared.refusal.Refusal.{Refusal}
use Rattle.dd_files.specs.Files.{Held}
use Rattle.dd_layout.specs.Plans.{records_of}
use Rattle.dd_layout.specs.declared.fault.PlanFault.{PlanFault}
use Rattle.dicomdir.proofs.MadeGrounds.{strict_grounds, unfit_by}
use Rattle.dicomdir.proofs.PickedSources.{picks_named}
use Rattle.dicomdir.specs.Grounds.{GroundsOfIndex, HasChangedSource, HasUnfitImage, HaveNoPlan, run_fault}
use Rattle.dd_faults.specs.Grounds.{GroundsOfMaking}
use Rattle.dicomdir.specs.Indexes.{Indexes}
use Rattle.dd_inputs.specs.ListedNames.{HavePaths}
use Rattle.dicomdir.specs.Noted.{IsNotedIndex}
use Rattle.dicomdir.specs.Origins.{IsPathAt}

module _ (keeps_going : Bool) (choice : Choice) (bytes : ℕ) (names : List (List ℕ)) (old new : Option Held) where
  abbrev Grounds : ProgramFault → Type 0
  Grounds = GroundsOfIndex keeps_going choice bytes names old new

  -- of one of the engine
  pub engine_grounds : (fault : EngineFault)
      → ((plan : PlanFault) → fault ≡ engine.Plan plan → HaveNoPlan keeps_going choice bytes names old plan)
      → Grounds (run_fault fault)
  engine_grounds engine.Memory none = tt
  engine_grounds (engine.Absent at) none = tt
  engine_grounds (engine.Unread at) none = tt
  engine_grounds (engine.Plan plan) none = none plan refl

  -- the file of a pick has changed
  changed_source : (paths : List (List ℕ)) (numbers : List ℕ) (noted : NotedIndex) → HavePaths names paths numbers
      → Indexes keeps_going choice bytes names old noted
      → HasUnfitImage (IsPathAt paths) (λ _ _. ⊥) (λ _. None) ⊥ noted.indexed.plan noted.indexed.picks.items new
      → HasChangedSource keeps_going choice bytes names old new
  changed_source paths numbers noted have h changed =
      let best = best_of_sources (accepted (answers_of h.readings)) in
      record {
        readings = h.readings;
        read = h.read;
        all = h.all;
        indexed = noted.indexed;
        is = h.notes.0;
        changed = unfit_by (IsPathAt paths) (IsPathAt names) (λ _ _. ⊥) (λ _ _. ⊥) (λ _. None) ⊥ noted.indexed.plan
            noted.indexed.picks.items new
            (picks_named names paths numbers old h.readings have h.read (harmonised best)
            (records_of (label_for choice best []) (harmonised best)) noted.indexed.picks.items h.notes.0.picks)
            changed;
      }

  -- there is a note
  pub index_noted : (refusal : Refusal) (noted : NotedIndex) → IsStrict refusal
      → Indexes keeps_going choice bytes names old noted → IsNotedIndex noted → Grounds refusal.fault
  index_noted refusal noted strict h is = strict_grounds Grounds refusal strict (record {
    readings = h.readings;
    read = h.read;
    all = h.all;
    noted = noted;
    notes = h.notes;
    is = is;
  })

  -- of making the file-set
  pub index_made : (paths : List (List ℕ)) (numbers : List ℕ) (noted : NotedIndex) → HavePaths names paths numbers
      → Indexes keeps_going choice bytes names old noted → (fault : ProgramFault)
      → GroundsOfMaking
      (HasUnfitImage (IsPathAt paths) (λ _ _. ⊥) (λ _. None) ⊥ noted.indexed.plan noted.indexed.picks.items new) ⊥ fault
      → Grounds fault
  index_made paths numbers noted have h Absent made = tt
  index_made paths numbers noted have h Unread made = tt
  index_made paths numbers noted have h Create made = tt
  index_made paths numbers noted have h Folder made = tt
  index_made paths numbers noted have h Unsent made = tt
  index_made paths numbers noted have h Changed made = changed_source paths numbers noted have h made
  index_made paths numbers noted have h Memory made = tt
  index_made paths numbers noted have h Strict made = absurd made
  index_made paths numbers noted have h (Uid bad) made = tt
  index_made paths numbers noted have h (SetId bad) made = tt
  index_made paths numbers noted have h (BadName number) made = tt
  index_made paths numbers noted have h (Plan fault) made = absurd made
  index_made paths numbers noted have h TooLong made = absurd made
  index_made paths numbers noted have h ListTooLarge made = absurd made
  index_made paths numbers noted have h (BadStage item) made = absurd made
  index_made paths numbers noted have h (Dir fault) made = absurd made
  index_made paths numbers noted have h (Own fault) made = absurd made
