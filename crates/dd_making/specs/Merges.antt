-- What merging directories and withdrawing instances gives, and why it is refused.
use Rattle.std.specs.Prelude.{◌≡◌, ◌≢◌, ◌≤◌, ◌<◌, ◌⊎◌, ℕ, List, [], ◌∷◌, length, map, take, get_or}
use Rattle.std.specs.Prelude.{Option, None, Some, Ok, Err}
use Rattle.std.specs.List.{AllByRecursion}
use Rattle.dd_elem.specs.FileId.{max_rank}
use Rattle.dd_elem.specs.SetId.{IsSetId}
use Rattle.dd_elem.specs.Uid.{IsUid}
use Rattle.dd_layout.specs.Limits.{Limits}
use Rattle.dd_dir.specs.Directories.{directory_of}
use Rattle.dd_engine.specs.declared.choice.Choice.{Choice}
use Rattle.dd_engine.specs.declared.merge.Merged.{Merged}
use Rattle.dd_engine.specs.declared.merge.Pick.{Pick}
use Rattle.dd_engine.specs.declared.merge_fault.MergeFault.{MergeFault}
use Rattle.dd_engine.specs.declared.merge_fault.MergeFault.TheVariants.{Memory}
use Rattle.dd_engine.specs.Merging.{Merges}
use Rattle.dd_calls.specs.declared.answer.Answer.{Answer}
use Rattle.dd_calls.specs.Sizes.{by_number, over, sized}
use Rattle.dd_calls.specs.Texts.{AreTexts}
use Rattle.dd_making.specs.declared.made.Made.{Made}
use Rattle.dd_making.specs.Cuts.{AreEnds, cuts}
use Rattle.dd_making.specs.Refusals.{merge_refusal, of_input}

-- ---- the label

-- an empty UID asks for the one that follows from the directory
abbrev pub uid_asked : List ℕ → Option (List ℕ)
uid_asked [] = None
uid_asked (byte ∷ uid) = Some (byte ∷ uid)

-- a File-set ID and a UID, which may be empty, and the choice of a label that they ask for
pub record AsksFor (id uid : List ℕ) (choice : Choice) : Type 0 where
  pub valid_id : IsSetId id
  pub valid_uid : (uid ≡ []) ⊎ IsUid uid
  pub is : choice ≡ record { id = id; uid = uid_asked uid }

-- the first is no File-set ID, which is 72 BadSetId; or the second is no UID and not empty, which is 71 BadUid
abbrev pub AsksForNone : List ℕ → List ℕ → Answer → Type 0
AsksForNone id uid answer = ((¬ IsSetId id) × (answer ≡ by_number 72))
    ⊎ (IsSetId id × (uid ≢ []) × (¬ IsUid uid) × (answer ≡ by_number 71))

-- ---- what is made

-- of each pick the number of its set, and its File ID
abbrev pub sets_in : List Pick → List ℕ
sets_in picks = map (λ (pick : Pick). pick.set) picks

abbrev pub files_in : List Pick → List (List ℕ)
files_in picks = map (λ (pick : Pick). pick.file.now) picks

-- the directory of a plan, and the files that its images are copied from
pub record IsMadeOf (merged : Merged) (made : Made) : Type 0 where
  pub text : made.text.items ≡ directory_of merged.plan.label merged.plan.versions merged.plan.withdrawn
  pub sets : made.sets.items ≡ sets_in merged.picks.items
  pub files : AreTexts (files_in merged.picks.items) made.files

-- the limits of a directory of any size
abbrev pub no_limits : Limits
no_limits = record { bytes = 4294967295; per_level = max_rank }

-- these sets are merged under this choice, and these UIDs are withdrawn as well
pub record IsMade (choice : Choice) (given sets : List (List ℕ)) (made : Made) : Type 0 where
  pub merged : Merged
  pub merges : Merges choice no_limits given sets (Ok merged)
  pub is : IsMadeOf merged made

-- the fault of the merge, or an allocation was refused for what was merged
pub record IsNotMade (choice : Choice) (given sets : List (List ℕ)) (answer : Answer) : Type 0 where
  pub fault : MergeFault
  pub why : Merges choice no_limits given sets (Err fault)
      ⊎ ((fault ≡ Memory) × ((merged : Merged) × Merges choice no_limits given sets (Ok merged)))
  pub answers : answer ≡ merge_refusal fault

-- ---- what is given

-- what lies in the four rooms of a call
pub record Rooms : Type 0 where
  pub text : List ℕ
  pub sets : List ℕ
  pub file_ends : List ℕ
  pub files : List ℕ

abbrev pub rooms : List ℕ → List ℕ → List ℕ → List ℕ → Rooms
rooms text sets file_ends files = record { text = text; sets = sets; file_ends = file_ends; files = files }

abbrev pub made_size : Made → Answer
made_size made = sized (length made.text.items) (length made.sets.items) (length made.files.text.items)

-- all of it was given to the fronts of the rooms
pub record LiesIn (made : Made) (old new : Rooms) : Type 0 where
  pub text : (new.text ≡ over made.text.items old.text) × (length made.text.items ≤ length old.text)
  pub sets : (new.sets ≡ over made.sets.items old.sets) × (length made.sets.items ≤ length old.sets)
  pub file_ends : (new.file_ends ≡ over made.files.ends.items old.file_ends)
      × (length made.files.ends.items ≤ length old.file_ends)
  pub files : (new.files ≡ over made.files.text.items old.files) × (length made.files.text.items ≤ length old.files)

-- one of its parts is longer than its room
abbrev pub IsWider : Made → Rooms → Type 0
IsWider made old = (length old.text < length made.text.items) ⊎ ((length old.sets < length made.sets.items)
    ⊎ ((length old.file_ends < length made.files.ends.items) ⊎ (length old.files < length made.files.text.items)))

-- it was made, and all of it was given
pub record GivesMade (id uid : List ℕ) (given sets : List (List ℕ)) (old new : Rooms) (answer : Answer) : Type 0 where
  pub choice : Choice
  pub asks : AsksFor id uid choice
  pub made : Made
  pub is_made : IsMade choice given sets made
  pub lies : LiesIn made old new
  pub size : answer ≡ made_size made

-- it was made, and one of its parts is longer than its room
pub record LacksRoom (id uid : List ℕ) (given sets : List (List ℕ)) (old : Rooms) (answer : Answer) : Type 0 where
  pub choice : Choice
  pub asks : AsksFor id uid choice
  pub made : Made
  pub is_made : IsMade choice given sets made
  pub wider : IsWider made old
  pub size : answer ≡ made_size made

-- ---- why a call is refused

-- The bytes can't be cut at these ends, which is 2. Or an allocation was refused for the pieces.
abbrev pub AreNotCut : List ℕ → List ℕ → Answer → Type 0
AreNotCut bytes ends answer = ((¬ AreEnds 0 bytes ends) × (answer ≡ by_number 2))
    ⊎ ((ends ≢ []) × (answer ≡ by_number 91))

-- the first of these texts that is no UID, by its number
pub record HasNoUid (texts : List (List ℕ)) (answer : Answer) : Type 0 where
  pub at : ℕ
  pub below : at < length texts
  pub bad : ¬ IsUid (get_or texts at [])
  pub before : AllByRecursion IsUid (take at texts)
  pub answers : answer ≡ of_input 71 at

-- the label, the ends and then the sets are looked at
abbrev pub IsRefusedMerge : List ℕ → List ℕ → List ℕ → List ℕ → Answer → Type 0
IsRefusedMerge id uid bytes ends answer = AsksForNone id uid answer
    ⊎ ((choice : Choice) × AsksFor id uid choice × (AreNotCut bytes ends answer
    ⊎ (AreEnds 0 bytes ends × IsNotMade choice [] (cuts 0 bytes ends) answer)))

-- the label, the ends, the UIDs and then the set are looked at
abbrev pub IsRefusedWithdrawal : List ℕ → List ℕ → List ℕ → List ℕ → List ℕ → Answer → Type 0
IsRefusedWithdrawal id uid bytes uids ends answer = AsksForNone id uid answer
    ⊎ ((choice : Choice) × AsksFor id uid choice × (AreNotCut uids ends answer
    ⊎ (AreEnds 0 uids ends × (HasNoUid (cuts 0 uids ends) answer
    ⊎ IsNotMade choice (cuts 0 uids ends) (bytes ∷ []) answer))))
