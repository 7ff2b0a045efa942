-- What was made of the answer of an engine.
use Rattle.std.proofs.Common.{◌≡◌, ◌++◌, ◌+◌, ◌<◌, ℕ, List, [], ◌∷◌, Option, Result, Ok, Err, IfOk, IsOk, None}
use Rattle.std.proofs.Common.{ap, arith, get_or, length, map, refl, subst, sym, take}
use Rattle.std.proofs.lemmas.List.{take_more}
use Rattle.dd_engine.specs.declared.choice.Choice.{Choice}
use Rattle.dd_engine.specs.declared.noted_merge.NotedMerge.{NotedMerge}
use Rattle.dd_engine.specs.MergeNotes.{NotesSets}
use Rattle.dd_files.specs.Files.{Held}
use Rattle.dd_file_set.proofs.AllStanding.{stands_whole}
use Rattle.dicomdir.specs.Indexes.{limits_of}
use Rattle.dd_file_set.specs.Made.{MakesFileSet}
use Rattle.dicomdir.specs.Origins.{IsMemberPath}
use Rattle.dicomdir.specs.Merges.{AreDirectories, DoneMerges}
use Rattle.dd_inspecting.specs.Directories.{HasDirectory}

-- what is so where a command has made its file-set is so where it is done
pub once_done : {E : Type 0} (r : Result ℕ E) (Made : Type 0) → (IsOk r → Made)
    → IfOk r (λ status. status ≡ 0 → Made)
once_done (Ok status) Made made = λ done. made refl
once_done (Err refusal) Made made = tt

pub done_merges : {E : Type 0} (r : Result ℕ E) (choice : Choice) (bytes : ℕ) (given folders sets : List (List ℕ))
    (GivesLinks : Type 0) (folder : List ℕ) (old new : Option Held) (noted : NotedMerge)
    → AreDirectories folders sets old → NotesSets choice (limits_of bytes) given sets (Ok noted)
    → IfOk r (λ status. status ≡ 0
    → MakesFileSet (IsMemberPath folders) (λ _ _. GivesLinks)
    (λ _. None) folder noted.merged.plan noted.merged.picks.items old new)
    → DoneMerges r choice bytes given folders GivesLinks folder old new
done_merges (Ok status) choice bytes given folders sets GivesLinks folder old new noted are h made = λ done. record {
  sets = sets;
  are = are;
  listings = h.0;
  own = h.1;
  merged = noted.merged;
  is = h.2.0;
  stands = stands_whole (IsMemberPath folders) (λ _ _. GivesLinks) (λ _. None) folder noted.merged.plan
      noted.merged.picks.items old new (made done);
}
done_merges (Err refusal) choice bytes given folders sets GivesLinks folder old new noted are h made = tt

-- ---- the directories that were read

-- where there is one, the first is all of them
pub only_one : {S : Type 0} (sets : List S) (set : S) (view : S → List ℕ) → length sets ≡ 1 → set ≡ get_or sets 0 set
    → view set ∷ [] ≡ map view sets
only_one [] set view one is = absurd (cc)
only_one {S = S} (first ∷ []) set view one is = ap (λ (s : S). view s ∷ []) is
only_one (first ∷ second ∷ sets) set view one is = absurd (omega (arith, one))

directory_after : (folders sets : List (List ℕ)) (folder bytes : List ℕ) (files : Option Held)
    → AreDirectories folders sets files → HasDirectory folder bytes files
    → AreDirectories (folders ++ folder ∷ []) (sets ++ bytes ∷ []) files
directory_after [] [] folder bytes files all one = (one, tt)
directory_after [] (set ∷ sets) folder bytes files all one = absurd all
directory_after (first ∷ folders) [] folder bytes files all one = absurd all
directory_after (first ∷ folders) (set ∷ sets) folder bytes files all one =
    (all.0, directory_after folders sets folder bytes files all.1 one)

-- the directory of one more folder
pub directory_more : (folders sets : List (List ℕ)) (i : ℕ) (bytes : List ℕ) (files : Option Held)
    → i < length folders → AreDirectories (take i folders) sets files → HasDirectory (get_or folders i []) bytes files
    → AreDirectories (take (i + 1) folders) (sets ++ bytes ∷ []) files
directory_more folders sets i bytes files within all one =
    subst (λ (l : List (List ℕ)). AreDirectories l (sets ++ bytes ∷ []) files) (sym (take_more folders i [] within))
    (directory_after (take i folders) sets (get_or folders i []) bytes files all one)
