-- What a merge answers with notes: places become sets with File IDs, and each number of a set is below the count.
use Rattle.std.specs.Prelude.{◌≡◌, ◌<◌, ℕ, List, [], ◌∷◌, ◌++◌, All, length, map, filter}
use Rattle.std.specs.Prelude.{Option, None, Some, IfErr, IfOk, option_map, Result, Ok, Err}
use Rattle.std.specs.List.{AllByRecursion, zip}
use Rattle.std.specs.Ordering.{is_eq}
use Rattle.std.proofs.Common.{refl, sym, ◌∙◌, ap, ap₂, subst}
use Rattle.dd_catalogue.proofs.Members.{Member}
use Rattle.dd_catalogue.specs.Contents.{left_of, uids_of}
use Rattle.dd_catalogue.specs.Rising.{by_test}
use Rattle.dd_catalogue.specs.Versions.{best_of, kept}
use Rattle.dd_dir.specs.Own.{Listed}
use Rattle.dd_dir.specs.OwnVersions.{place_of, version_of}
use Rattle.dd_version.specs.Orders.{parts_cmp}
use Rattle.dd_version.specs.declared.parts.Parts.{Parts}
use Rattle.dd_layout.specs.Limits.{Limits}
use Rattle.dd_layout.specs.declared.fault.PlanFault.{PlanFault}
use Rattle.dd_layout.specs.declared.fault.PlanFault.TheVariants as plans
use Rattle.dd_engine.specs.declared.choice.Choice.{Choice}
use Rattle.dd_engine.specs.declared.merge.Pick.{Pick}
use Rattle.dd_engine.specs.declared.merge_fault.MergeFault.{MergeFault}
use Rattle.dd_engine.specs.declared.merge_fault.MergeFault.TheVariants.{Dir, Own, Plan, Memory}
use Rattle.dd_engine.specs.declared.noted_merge.NotedMerge.{NotedMerge}
use Rattle.dd_engine.specs.declared.notes.ConflictingFiles.{ConflictingFiles}
use Rattle.dd_engine.specs.declared.notes.LeftOut.{LeftOut}
use Rattle.dd_engine.specs.declared.notes.NotedFault.{NotedFault}
use Rattle.dd_engine.specs.MergeNotes.{ConflictsIn, FindsBoth, LeavesOut, NotesSets, NotesSetsFault, unnoted}
use Rattle.dd_engine.specs.MergeSteps.{ArePlaced, plan_fault}
use Rattle.dd_engine.specs.Merging.{Merges, SetListing, filed_in, held_in, numbered, pick_view}
use Rattle.dd_engine.specs.Merging.{place_pick, places_in, versions_in, withdrawn_in}
use Rattle.dd_engine.specs.Noting.{AreBelow, AreLeftOut, IsBelow, IsConflictOf, LeftAs, both, conflict_of, first_by}
use Rattle.dd_engine.specs.Noting.{first_of, is_other, left_as, left_out}
use Rattle.dd_engine.specs.Picking.{FileKey, file_of, files_of}
use Rattle.dd_engine.proofs.BothFound.{best_among, best_rises, both_found}
use Rattle.dd_engine.proofs.ImagePicks.{told_by, twice}
use Rattle.dd_engine.proofs.KeptFiles.{left_member}
use Rattle.dd_engine.proofs.PicksWithin.{all_numbered_below, picks_within}
use Rattle.dd_engine.proofs.PicksWithin.{AreBelow as ImagesBelow}
use Rattle.dd_engine.proofs.SourcesNoted.{holds_of_conflict, holds_of_notes}

-- ---- notes where each place is mapped

module _ {T U : Type 0} (f : T → U) where
  abbrev pub told : T × Parts → U × Parts
  told version = (f version.0, version.1)

  files_told : (versions : List (T × Parts))
      → map (λ file. (f file.0, file.1)) (files_of versions) ≡ files_of (map told versions)
  files_told [] = refl
  files_told (version ∷ versions) = ap (λ l. (f version.0, file_of version.1) ∷ l) (files_told versions)

  abbrev told_as : LeftAs T → LeftAs U
  told_as note = (f note.0, option_map f note.1, note.2)

  left_told : (files : List (T × FileKey)) (m : List Parts) (versions : List (T × Parts))
      → map told_as (map (left_as files m)
      (filter (λ version. is_other (kept m version.1.instance) version.1) versions))
      ≡ map (left_as (map (λ file. (f file.0, file.1)) files) m)
      (filter (λ version. is_other (kept m version.1.instance) version.1) (map told versions))
  left_told files m [] = refl
  left_told files m (version ∷ versions) = by_test (is_other (kept m version.1.instance) version.1)
      (λ e. rw e (ap₂ (λ n l. n ∷ l)
      (ap (λ o. (f version.0, o, version.1.instance)) (told_by f files (kept m version.1.instance)))
      (left_told files m versions)))
      (λ e. rw e (left_told files m versions))

  pub notes_told : (m : List Parts) (versions : List (T × Parts)) (notes : List (LeftOut T))
      → AreLeftOut (λ at. at) m versions notes → AreLeftOut f m (map told versions) notes
  notes_told m versions notes is =
      sym (twice told_as (λ note. (note.file, Some note.kept, note.instance)) notes) ∙ ap (map told_as) is
      ∙ left_told (files_of versions) m versions
      ∙ ap (λ files. map (left_as files m)
      (filter (λ version. is_other (kept m version.1.instance) version.1) (map told versions))) (files_told versions)

  first_told : (versions : List (T × Parts)) (version : Parts)
      → option_map f (first_of versions version) ≡ first_of (map told versions) version
  first_told [] version = refl
  first_told (held ∷ versions) version = by_test (is_eq (parts_cmp held.1 version))
      (λ e. rw e refl)
      (λ e. rw e (first_told versions version))

  by_told : (versions : List (T × Parts)) (o : Option Parts)
      → option_map f (first_by versions o) ≡ first_by (map told versions) o
  by_told versions None = refl
  by_told versions (Some version) = first_told versions version

  abbrev pair_told : T × T → U × U
  pair_told pair = (f pair.0, f pair.1)

  both_told : (a b : Option T) → option_map pair_told (both a b) ≡ both (option_map f a) (option_map f b)
  both_told None b = refl
  both_told (Some a) None = refl
  both_told (Some a) (Some b) = refl

  conflict_of_told : (m : List Parts) (versions : List (T × Parts)) (fault : PlanFault)
      → option_map pair_told (conflict_of m versions fault) ≡ conflict_of m (map told versions) fault
  conflict_of_told m versions (plans.Conflict one other) =
      both_told (first_by versions (kept m one)) (first_by versions (kept m other))
      ∙ ap₂ (λ a b. both a b) (by_told versions (kept m one)) (by_told versions (kept m other))
  conflict_of_told m versions (plans.TooMany level) = refl
  conflict_of_told m versions plans.TooLarge = refl
  conflict_of_told m versions plans.Memory = refl

  places_told : (conflict : Option (ConflictingFiles T))
      → option_map {U = U × U} (λ conflict. (f conflict.one, f conflict.other)) conflict
      ≡ option_map pair_told (option_map (λ conflict. (conflict.one, conflict.other)) conflict)
  places_told None = refl
  places_told (Some conflict) = refl

  pub conflict_told : (m : List Parts) (versions : List (T × Parts)) (fault : PlanFault)
      (conflict : Option (ConflictingFiles T))
      → IsConflictOf (λ at. at) m versions fault conflict → IsConflictOf f m (map told versions) fault conflict
  conflict_told m versions fault conflict is =
      places_told conflict ∙ ap (option_map pair_told) is ∙ conflict_of_told m versions fault

-- ---- versions and their files, side by side

zip_told : {A B C : Type 0} (f : A → C) (xs : List A) (ys : List B)
    → map (λ p. (f p.0, p.1)) (zip xs ys) ≡ zip (map f xs) ys
zip_told f [] ys = refl
zip_told f (x ∷ xs) [] = refl
zip_told f (x ∷ xs) (y ∷ ys) = ap (λ l. (f x, y) ∷ l) (zip_told f xs ys)

zip_images : (images : List (ℕ × Listed))
    → zip (map (λ place. place_pick place) (places_in images)) (versions_in images)
    ≡ map (λ image. (place_pick (image.0, place_of image.1), version_of image.1)) images
zip_images [] = refl
zip_images (image ∷ images) =
    ap (λ l. (place_pick (image.0, place_of image.1), version_of image.1) ∷ l) (zip_images images)

pub filed_is : (listings : List SetListing) (versions : List Parts) (picks : List Pick)
    → ArePlaced (numbered 0 listings) versions picks
    → map (λ v. (pick_view v.0, v.1)) (zip picks versions) ≡ filed_in listings
filed_is listings versions picks placed =
    zip_told (λ pick. pick_view pick) picks versions
    ∙ ap₂ (λ (a : List (ℕ × List ℕ)) (b : List Parts). zip a b) placed.origins placed.versions
    ∙ zip_images (numbered 0 listings)

pub leaves_out : (given : List (List ℕ)) (listings : List SetListing) (versions : List Parts) (picks : List Pick)
    (m : List Parts) (notes : List (LeftOut Pick)) → ArePlaced (numbered 0 listings) versions picks
    → m ≡ (held_in given listings).versions → AreLeftOut (λ at. at) m (zip picks versions) notes
    → LeavesOut given listings notes
leaves_out given listings versions picks m notes placed is are =
    notes_told (λ pick. pick_view pick) m (zip picks versions) notes are
    ∙ ap₂ (λ (l : List Parts) (s : List ((ℕ × List ℕ) × Parts)). left_out l s) is
    (filed_is listings versions picks placed)

-- ---- refusals

no_conflict : (conflict : Option (ConflictingFiles Pick))
    → option_map {U = (ℕ × List ℕ) × (ℕ × List ℕ)} (λ conflict. (pick_view conflict.one, pick_view conflict.other))
    conflict ≡ None → conflict ≡ None
no_conflict None is = refl
no_conflict (Some conflict) is = cc

pub conflicts : (given : List (List ℕ)) (listings : List SetListing) (versions : List Parts) (picks : List Pick)
    (m : List Parts) (fault : PlanFault) (conflict : Option (ConflictingFiles Pick))
    → ArePlaced (numbered 0 listings) versions picks → m ≡ (held_in given listings).versions
    → IsConflictOf (λ at. at) m (zip picks versions) fault conflict
    → ConflictsIn given listings (plan_fault fault) conflict
conflicts given listings versions picks m fault conflict placed is are = by fault here where
  here : IsConflictOf (λ pick. pick_view pick) (held_in given listings).versions (filed_in listings) fault conflict
  here =
      conflict_told (λ pick. pick_view pick) m (zip picks versions) fault conflict are
      ∙ ap₂ (λ (l : List Parts) (s : List ((ℕ × List ℕ) × Parts)). conflict_of l s fault) is
      (filed_is listings versions picks placed)

  by : (fault : PlanFault)
      → IsConflictOf (λ pick. pick_view pick) (held_in given listings).versions (filed_in listings) fault conflict
      → ConflictsIn given listings (plan_fault fault) conflict
  by plans.Memory are = no_conflict conflict are
  by (plans.Conflict one other) are = are
  by (plans.TooMany level) are = are
  by plans.TooLarge are = are

-- ---- numbers of sets

pub filed_below : (n : ℕ) (images : List (ℕ × Listed)) → ImagesBelow n images
    → AllByRecursion {X = (ℕ × List ℕ) × Parts} (λ v. v.0.0 < n)
    (map (λ image. (place_pick (image.0, place_of image.1), version_of image.1)) images)
filed_below n [] below = tt
filed_below n (image ∷ images) below = (below.0, filed_below n images below.1)

filed_versions : (images : List (ℕ × Listed))
    → map {A = (ℕ × List ℕ) × Parts} (λ held. held.1)
    (map (λ image. (place_pick (image.0, place_of image.1), version_of image.1)) images) ≡ versions_in images
filed_versions [] = refl
filed_versions (image ∷ images) = ap (λ l. version_of image.1 ∷ l) (filed_versions images)

none_below : (n : ℕ) (conflict : Option (ConflictingFiles Pick)) → conflict ≡ None
    → IsBelow (λ pick. pick.set) n conflict
none_below n conflict is = subst (λ o. IsBelow (λ pick. pick.set) n o) (sym is) tt

module _ (choice : Choice) (limits : Limits) (given sets : List (List ℕ)) where
  dropped_fault : (fault : MergeFault) (conflict : Option (ConflictingFiles Pick))
      → NotesSetsFault choice limits given sets fault conflict → Merges choice limits given sets (Err fault)
  dropped_fault (Dir at fault) conflict is = is.0
  dropped_fault (Own at fault) conflict is = is.0
  dropped_fault (Plan fault) conflict is = (is.0, is.1, is.2)
  dropped_fault Memory conflict is = is.0

  -- the answer without its notes
  pub dropped : (result : Result NotedMerge (NotedFault MergeFault Pick))
      → NotesSets choice limits given sets result → Merges choice limits given sets (unnoted result)
  dropped (Ok noted) is = (is.0, is.1, is.2.0)
  dropped (Err noted) is = dropped_fault noted.fault noted.conflict is

  pub merged_within : (result : Result NotedMerge (NotedFault MergeFault Pick))
      → NotesSets choice limits given sets result
      → IfOk result (λ noted. All (λ pick. pick.set < length sets) noted.merged.picks.items)
  merged_within (Ok noted) is = picks_within choice limits given sets (Ok noted.merged) (dropped (Ok noted) is)
  merged_within (Err noted) is = tt

  pub notes_below : (result : Result NotedMerge (NotedFault MergeFault Pick))
      → NotesSets choice limits given sets result
      → IfOk result (λ noted. AreBelow (λ pick. pick.set) (length sets) noted.notes.left_out.items)
  notes_below (Ok noted) is =
      holds_of_notes (λ pick. pick_view pick) (λ (place : ℕ × List ℕ). place.0 < length sets)
      (held_in given is.0).versions (filed_in is.0) noted.notes.left_out.items
      (filed_below (length sets) (numbered 0 is.0) (all_numbered_below sets is.0 is.1)) is.2.1
  notes_below (Err noted) is = tt

  pub conflict_below : (result : Result NotedMerge (NotedFault MergeFault Pick))
      → NotesSets choice limits given sets result
      → IfErr result (λ noted. IsBelow (λ pick. pick.set) (length sets) noted.conflict)
  conflict_below (Ok noted) is = tt
  conflict_below (Err noted) is = by noted.fault noted.conflict is where
    by : (fault : MergeFault) (conflict : Option (ConflictingFiles Pick))
        → NotesSetsFault choice limits given sets fault conflict → IsBelow (λ pick. pick.set) (length sets) conflict
    by (Dir at fault) conflict is = none_below (length sets) conflict is.1
    by (Own at fault) conflict is = none_below (length sets) conflict is.1
    by (Plan fault) conflict is =
        holds_of_conflict (λ pick. pick_view pick) (λ (place : ℕ × List ℕ). place.0 < length sets)
        (held_in given is.0).versions (filed_in is.0) fault conflict
        (filed_below (length sets) (numbered 0 is.0) (all_numbered_below sets is.0 is.1)) is.3
    by Memory conflict is = none_below (length sets) conflict is.1

  -- where two versions conflict, a file of each is found
  pub files_found : (result : Result NotedMerge (NotedFault MergeFault Pick))
      → NotesSets choice limits given sets result → IfErr result (λ noted. FindsBoth noted.fault noted.conflict)
  files_found (Ok noted) is = tt
  files_found (Err noted) is = by noted.fault noted.conflict is where
    by : (fault : MergeFault) (conflict : Option (ConflictingFiles Pick))
        → NotesSetsFault choice limits given sets fault conflict → FindsBoth fault conflict
    by (Plan (plans.Conflict a b)) conflict is =
        let s = versions_in (numbered 0 is.0) in
        let w = given ++ withdrawn_in is.0 in
        both_found (λ pick. pick_view pick) (filed_in is.0) choice limits (best_of (left_of s w)) (uids_of w) a b
        conflict (best_rises (left_of s w))
        (λ v i. subst (λ l. Member v l) (sym (filed_versions (numbered 0 is.0)))
        (left_member s w v (best_among (left_of s w) v i))) is.2 is.3
    by (Plan (plans.TooMany level)) conflict is = tt
    by (Plan plans.TooLarge) conflict is = tt
    by (Plan plans.Memory) conflict is = tt
    by (Dir at fault) conflict is = tt
    by (Own at fault) conflict is = tt
    by Memory conflict is = tt
