-- What a refusal of file-sets rests on, whose fault comes from reading their directories, from their engine, or from
-- making a file-set.
use Rattle.std.proofs.Common.{◌≡◌, ℕ, Bool, List, [], Option, get_or, refl, subst, sym, true, None}
use Rattle.std.specs.Prelude.{Err, IfErr, Ok, Result}
use Rattle.dd_engine.specs.MergeNotes.{NotesSets, NotesSetsFault}
use Rattle.dd_engine.specs.declared.choice.Choice.{Choice}
use Rattle.dd_engine.specs.declared.merge.Pick.{Pick}
use Rattle.dd_engine.specs.declared.merge_fault.MergeFault.{MergeFault}
use Rattle.dd_engine.specs.declared.merge_fault.MergeFault.TheVariants as merging
use Rattle.dd_engine.specs.declared.noted_merge.NotedMerge.{NotedMerge}
use Rattle.dd_engine.specs.declared.notes.ConflictingFiles.{ConflictingFiles}
use Rattle.dd_faults.specs.declared.refusal.ProgramFault.{ProgramFault}
use Rattle.dd_faults.specs.declared.refusal.ProgramFault.TheVariants.{Absent, BadName, BadStage, Changed, Create, Dir}
use Rattle.dd_faults.specs.declared.refusal.ProgramFault.TheVariants.{Folder, ListTooLarge, Memory, Own, Plan, SetId}
use Rattle.dd_faults.specs.declared.refusal.ProgramFault.TheVariants.{Strict, TooLong, Uid, Unread, Unsent}
use Rattle.dd_faults.specs.declared.refusal.Refusal.{Refusal}
use Rattle.dd_faults.specs.declared.refusal.Subject.{Subject}
use Rattle.dd_faults.specs.declared.refusal.Subject.TheVariants as subjects
use Rattle.dd_files.specs.Files.{Held}
use Rattle.dd_inspecting.specs.Grounds.{GroundsOfCheck}
use Rattle.dd_faults.specs.Grounds.{GroundsOfMaking}
use Rattle.dicomdir.specs.Grounds.{GroundsOfSets, HasChangedMember}
use Rattle.dicomdir.specs.Grounds.{HasNotedSets, HasUnfitImage}
use Rattle.dd_inspecting.specs.Directories.{HasSuchDirectory}
use Rattle.dd_files.specs.ReadToEnd.{IsTooLong}
use Rattle.dicomdir.specs.Indexes.{limits_of}
use Rattle.dicomdir.specs.Merges.{AreDirectories}
use Rattle.dicomdir.specs.Noted.{IsNoted}
use Rattle.dicomdir.specs.Origins.{IsMemberPath}
use Rattle.dicomdir.specs.Reasons.{set_refusal}
use Rattle.dd_inspecting.proofs.DirectoryGrounds.{by_directory}

-- ---- `merge` and `withdraw`

module _ (choice : Choice) (bytes : ℕ) (given folders : List (List ℕ)) (links : Bool) (old new : Option Held) where
  abbrev Grounds : Subject → ProgramFault → Type 0
  Grounds = GroundsOfSets choice bytes given folders links old new

  -- a fault of making the file-set
  sets_made : (Unfit Noted : Type 0) → (Unfit → HasChangedMember choice bytes given folders (links ≡ true) old new)
      → (Noted → HasNotedSets choice bytes given folders old) → (subject : Subject) (fault : ProgramFault)
      → GroundsOfMaking Unfit Noted fault → Grounds subject fault
  sets_made Unfit Noted changed is_noted subject Absent made = tt
  sets_made Unfit Noted changed is_noted subject Unread made = tt
  sets_made Unfit Noted changed is_noted subject Create made = tt
  sets_made Unfit Noted changed is_noted subject Folder made = tt
  sets_made Unfit Noted changed is_noted subject Unsent made = tt
  sets_made Unfit Noted changed is_noted subject Changed made = changed made
  sets_made Unfit Noted changed is_noted subject Memory made = tt
  sets_made Unfit Noted changed is_noted subject Strict made = is_noted made
  sets_made Unfit Noted changed is_noted subject (Uid bad) made = tt
  sets_made Unfit Noted changed is_noted subject (SetId bad) made = tt
  sets_made Unfit Noted changed is_noted subject (BadName number) made = tt
  sets_made Unfit Noted changed is_noted subject (Plan fault) made = absurd made
  sets_made Unfit Noted changed is_noted subject TooLong made = absurd made
  sets_made Unfit Noted changed is_noted subject ListTooLarge made = absurd made
  sets_made Unfit Noted changed is_noted subject (BadStage item) made = absurd made
  sets_made Unfit Noted changed is_noted subject (Dir fault) made = absurd made
  sets_made Unfit Noted changed is_noted subject (Own fault) made = absurd made

  pub making_grounds : {T : Type 0} (result : Result T Refusal) (sets : List (List ℕ)) (noted : NotedMerge)
      → AreDirectories folders sets old → NotesSets choice (limits_of bytes) given sets (Ok noted)
      → IfErr result (λ refusal. GroundsOfMaking (HasUnfitImage (IsMemberPath folders) (λ _ _. links ≡ true)
      (λ _. None) (links ≡ true)
      noted.merged.plan noted.merged.picks.items new) (IsNoted noted) refusal.fault)
      → IfErr result (λ refusal. Grounds refusal.subject refusal.fault)
  making_grounds (Ok done) sets noted are h made = tt
  making_grounds (Err refusal) sets noted are h made =
      sets_made (HasUnfitImage (IsMemberPath folders) (λ _ _. links ≡ true) (λ _. None) (links ≡ true)
      noted.merged.plan noted.merged.picks.items new) (IsNoted noted)
      (λ unfit. record {
        sets = sets;
        are = are;
        listings = h.0;
        own = h.1;
        merged = noted.merged;
        is = h.2.0;
        changed = unfit;
      }) (λ is. record { sets = sets; are = are; noted = noted; notes = h; is = is }) refusal.subject refusal.fault made

  -- a directory could not be read
  pub read_grounds : (at : ℕ) (folder : List ℕ) (subject : Subject) (fault : ProgramFault)
      → get_or folders at [] ≡ folder → (fault ≡ TooLong → subject ≡ subjects.Source at)
      → GroundsOfCheck folder old fault → Grounds subject fault
  read_grounds at folder subject fault is named grounds =
      by_directory folder old
      (λ fault. (fault ≡ TooLong → subject ≡ subjects.Source at) → Grounds subject fault)
      (λ fault none _. sets_made ⊥ ⊥ (λ never. absurd never) (λ never. absurd never) subject fault none)
      (λ long named. record {
        at = at;
        named = named refl;
        is = subst (λ (path : List ℕ). HasSuchDirectory path IsTooLong old) (sym is) long;
      })
      fault grounds named

  -- the engine refuses the file-sets
  pub engine_grounds : (sets : List (List ℕ)) (fault : MergeFault) (conflict : Option (ConflictingFiles Pick))
      → AreDirectories folders sets old → NotesSetsFault choice (limits_of bytes) given sets fault conflict
      → Grounds (set_refusal fault).subject (set_refusal fault).fault
  engine_grounds sets (merging.Dir at fault) conflict are h =
      record { sets = sets; are = are; at = at; named = refl; first = h.0 }
  engine_grounds sets (merging.Own at fault) conflict are h =
      record { sets = sets; are = are; at = at; named = refl; first = h.0 }
  engine_grounds sets (merging.Plan fault) conflict are h =
      record { sets = sets; are = are; listings = h.0; own = h.1; refuses = h.2 }
  engine_grounds sets merging.Memory conflict are h = tt
